-- Field by field.
use lib.ListN.{get_or}
use Rattle.ground.specs.Choice.{pick}
use Rattle.message.specs.Layout.{field_text, offset_in, width_in}
use Rattle.desk.specs.Sent.{sent_by}
use Rattle.desk.proofs.sent_by.Goals as goal

pub returns : goal.returns
unfolding sent_by field_text offset_in width_in pick
returns c =
    let a = c.args in
    λ i. record {
      receiver = c.receiver.ensures i;
      sender = c.sender.ensures i;
      transport = get_or a.closing 85 0;
      working = get_or a.closing 86 0;
      stamp = c.stamp_in.ensures i;
      area = get_or a.first 102 0;
      once = c.sixteen_at.ensures i;
      digest = c.sixteen_at-2.ensures i;
    }

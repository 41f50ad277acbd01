-- Which reply answers what (document 01, 'Replies'): the form, the keys and the texts that go into it.
-- Assumes nothing.
use Rattle.std.specs.Prelude.{ℕ, Bool, true, false, List, [], replicate, None}
use Rattle.ground.specs.Choice.{pick}
use Rattle.customer.specs.declared.Customer.{Customer}
use Rattle.changeover.specs.Held.{held_key}
use Rattle.table.specs.Table.{Table}
use Rattle.table.specs.Named.{named}
use Rattle.message.specs.Layout.{field_text}
use Rattle.message.specs.Contents.{contents_as, at_fault}
use Rattle.message.specs.Fields.{sender_of, transport_generation_of, working_generation_of}
use Rattle.verdict.specs.declared.Outcome.{Outcome}
use Rattle.notice.specs.Codes.{code_in, codes}
use Rattle.reply.specs.declared.Answering.{Answering}
use Rattle.opening.specs.declared.Opening.{Opening}

-- the bare form: the bank's settings, and of the message at fault, `m`, the contents of the field that it names
unfoldable pub bare_answer : Table → Opening → (pte : Bool) (code field : ℕ) (m : List ℕ) → Answering
bare_answer t o pte code field m =
    record {
      pte = pte;
      bare = true;
      code = code;
      field = field;
      contents = contents_as (field_text field m);
      time = o.time;
      bank = t.settings.bank;
      software = t.settings.software;
      message = replicate 161 0;
      closing = replicate 161 0;
      working = None;
      transport = None;
      enclosed = None;
    }

-- the full form, on the table as the verdict leaves it: `m` is the message (a frame's SUO), `closing` the one that ended it (the VAR). The
-- checksum uses the message's working generation if held, whatever the date; a key enclosed is enciphered under its transport generation
unfoldable pub full_answer : Table → Opening → Bool → Outcome → List ℕ → List ℕ → Answering
full_answer t o pte out m closing =
    let c : Customer = named t (sender_of m) in
    record {
      pte = pte;
      bare = false;
      code = out.code;
      field = out.field;
      contents = contents_as [];
      time = o.time;
      bank = t.settings.bank;
      software = t.settings.software;
      message = m;
      closing = closing;
      working = held_key c.working (working_generation_of m);
      transport = held_key c.transport (transport_generation_of m);
      enclosed = out.enclosed;
    }

-- a verdict's reply: bare or full by its code. A field that it names is of the message at fault
unfoldable pub verdict_answer : Table → Opening → Bool → Outcome → (m closing : List ℕ) → Answering
verdict_answer t o pte out m closing =
    pick (code_in out.code codes).bare
    (bare_answer t o pte out.code out.field (at_fault out.about m closing))
    (full_answer t o pte out m closing)

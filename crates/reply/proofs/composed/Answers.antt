-- The parts are put one after the other; the checksum is that of the first 144 characters, which stand there then.
use mathlib.Core.Path.{◌≡◌, ap, ◌∙◌}
use mathlib.Core.List.{List}
use Prim.Native.Nat.{ℕ}
use native.Mathlib.Omega.{arith}
use lib.ListN.{length, take}
use lib.Seq.{take_all}
use Rattle.reply.specs.Reply.{head, checksum_key}
use Rattle.reply.proofs.Laws.{reply_joined, head_split, head-length}
use borrow.Author.Rules.{rules}
use Rattle.reply.proofs.composed.Goals as goal

pub returns : goal.returns
returns c =
    let a = c.args.a.now in
    let n : length (head a) ≡ 144 = head-length a (search rules) (search rules) (search rules) (search rules) in
    let h : c.put_body.new.out.items ≡ head a = rw (c.put_body.ensures.items, c.put_opening.ensures.items, c.new-out.ensures, head_split a) in
    let s : c.checksum_key-sum.result ≡ checksum_key a (head a) =
    c.checksum_key-sum.ensures ∙ ap (λ (x : List ℕ). checksum_key a (take 144 x)) (c.deref.ensures.0 ∙ h)
    ∙ ap (checksum_key a) (take_all 144 (head a) (omega arith)) in
    rw (
      c.put_receipt.ensures,
      c.put_notice.ensures.items,
      c.put-3.ensures.items,
      c.put-2.ensures.items,
      c.put.ensures.items,
      h,
      c.hex_or.ensures,
      s,
      c.flag.ensures,
      c.hex_or-2.ensures,
      c.enclosed_key-key.ensures,
    ) (reply_joined a)

-- What the answers to a verdict keep, and that of the message at fault the field alone counts.
use Prim.Native.Nat.{ℕ}
use mathlib.Core.Path.{◌≡◌, refl}
use mathlib.Core.Bool.{Bool, false}
use mathlib.Core.List.{List}
use native.Mathlib.Omega.{arith}
use lib.ListN.{length, take}
use lib.Seq.{take_all}
use Rattle.ground.proofs.Choices.{skips}
use Rattle.ground.proofs.Bools.{picked}
use Rattle.table.specs.Table.{Table}
use Rattle.message.specs.Layout.{field_text}
use Rattle.message.specs.Contents.{at_fault}
use Rattle.message.specs.declared.About.{About}
use Rattle.message.specs.declared.About.TheVariants.{Answered, Closing}
use Rattle.verdict.specs.declared.Outcome.{Outcome}
use Rattle.notice.specs.Codes.{code_in, codes}
use Rattle.reply.specs.declared.Answering.{Answering}
use Rattle.answers.specs.Answers.{bare_answer, full_answer, verdict_answer}
use Rattle.opening.specs.declared.Opening.{Opening}

-- of the message at fault the field alone counts
pub bare_alike : (t : Table) (o : Opening) (pte : Bool) (code field : ℕ) (a b : List ℕ) → field_text field a ≡ field_text field b
    → bare_answer t o pte code field a ≡ bare_answer t o pte code field b
unfolding bare_answer
bare_alike t o pte code field a b e = rw e

-- ---- a verdict's reply, bare or full

-- the message at fault is as long as each of the two
pub fault_whole : (about : About) (m closing : List ℕ) → length m ≡ 161 → length closing ≡ 161
    → take 161 (at_fault about m closing) ≡ at_fault about m closing
unfolding at_fault
fault_whole Answered m closing p q = take_all 161 m (omega arith)
fault_whole Closing m closing p q = take_all 161 closing (omega arith)

module _ (t : Table) (o : Opening) (pte : Bool) (out : Outcome) (m closing : List ℕ) where
  pub verdict_code : (verdict_answer t o pte out m closing).code ≡ out.code
  unfolding verdict_answer bare_answer full_answer
  verdict_code = picked (λ (a : Answering). a.code ≡ out.code) _ _ _ (λ e. refl) (λ e. refl)

  pub verdict_field : (verdict_answer t o pte out m closing).field ≡ out.field
  unfolding verdict_answer bare_answer full_answer
  verdict_field = picked (λ (a : Answering). a.field ≡ out.field) _ _ _ (λ e. refl) (λ e. refl)

  pub verdict_full : (code_in out.code codes).bare ≡ false → verdict_answer t o pte out m closing ≡ full_answer t o pte out m closing
  unfolding verdict_answer
  verdict_full e = skips _ _ _ e

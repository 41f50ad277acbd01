-- A part of the file from a place on: its first piece has no LF, and where the part goes past it, LF follows. By induction over the part.
-- Assumes nothing.
use Rattle.std.proofs.Common.{◌≡◌, ℕ, false, eqb, List, [], ◌∷◌, ◌++◌, length, sym, ap, ◌∙◌, arith}
use Rattle.ground.specs.Lists.{member}
use Rattle.ground.proofs.Bools.{picked, either_none}
use Rattle.ground.proofs.Lists.{member_none, member-cons}
use Rattle.digest.specs.declared.Method.{Method}
use Rattle.cli_words.specs.Parts.{up_to}
use Rattle.bureau_records.specs.Pieces.{Heard, heard_byte, heard_bytes}
use Rattle.bureau_records.proofs.Hearing.{heard_one, heard_none}

module _ (by : ℕ) where
  pub up_to_without : (l : List ℕ) → member by (up_to by l) ≡ false
  unfolding up_to
  up_to_without [] = member_none by
  up_to_without (x ∷ l) =
      picked (λ p. member by p ≡ false) (eqb x by) [] (x ∷ up_to by l) (λ e. member_none by)
      (λ e. member-cons by x (up_to by l) ∙ either_none _ _ e (up_to_without l))

-- the rest of a part behind its first line
pub line_heard : (e : ℕ → ℕ) (m : Method) (h : Heard) {x : Heard} (left piece more : List ℕ)
    → left ≡ up_to 10 left ++ (10 ∷ more) → piece ≡ up_to 10 left
    → x ≡ heard_byte e m (heard_bytes e m h piece) 10 → heard_bytes e m x more ≡ heard_bytes e m h left
line_heard e m h left piece more f p w =
    ap (λ (y : Heard). heard_bytes e m y more) (w ∙ ap (λ (q : List ℕ). heard_byte e m (heard_bytes e m h q) 10) p)
    ∙ sym (ap (heard_bytes e m h) f ∙ heard_one e m h _ 10 _)

pub end_heard : (e : ℕ → ℕ) (m : Method) (h : Heard) (left : List ℕ) → length left ≡ 0 → heard_bytes e m h left ≡ h
end_heard e m h [] z = heard_none e m h
end_heard e m h (x ∷ l) z = absurd (omega arith)

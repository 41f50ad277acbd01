-- The part ends where the first byte `by` stands, or with the text.
use Rattle.std.proofs.Common.{ℕ, List, ◌+◌, ◌-◌, ◌∷◌, ◌++◌, sym, ap, ◌∙◌, arith, take, drop, length, take_all, length-drop}
use Rattle.cli_words.specs.Parts.{up_to}
use Rattle.cli_words.proofs.Cuts.{placed, unplaced, up_to-take, up_to_whole, up_to_split}
use Rattle.cli_words.proofs.first_part.Goals as goal

pub returns-in-Some-clause-part : goal.returns-in-Some-clause-part
returns-in-Some-clause-part c =
    let s = c.args.s.now in
    let e = placed c.args.by s c.in-Some.end (sym c.in-Some.is ∙ c.place_of.ensures) in
    ap (λ (k : ℕ). take k s) (sym e.1) ∙ up_to-take c.args.by s

pub returns-in-Some-clause-rest : goal.returns-in-Some-clause-rest
returns-in-Some-clause-rest c =
    let s = c.args.s.now in
    let by = c.args.by in
    let end = c.in-Some.end in
    let e = placed by s end (sym c.in-Some.is ∙ c.place_of.ensures) in
    up_to_split by s (omega (arith, e))
    ∙ ap (λ (k : ℕ). up_to by s ++ (by ∷ drop (k + 1) s)) e.1
    ∙ ap (λ (l : List ℕ). up_to by s ++ (by ∷ l)) (sym (take_all (length s - (end + 1)) (drop (end + 1) s) (omega (arith, length-drop (end + 1) s))))

pub returns-in-None-clause-part : goal.returns-in-None-clause-part
returns-in-None-clause-part c = sym (up_to_whole _ _ (unplaced _ _ (sym c.in-None.is ∙ c.place_of.ensures)))

pub returns-in-None-clause-rest : goal.returns-in-None-clause-rest
returns-in-None-clause-rest c = up_to_whole _ _ (unplaced _ _ (sym c.in-None.is ∙ c.place_of.ensures))

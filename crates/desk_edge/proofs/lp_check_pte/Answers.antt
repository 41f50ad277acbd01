-- A check that can't be served changes nothing; else the desk finds, keeps and tells.
use mathlib.Core.Path.{refl, ap, ap₂, ◌∙◌}
use mathlib.Core.List.{[], ◌∷◌}
use Rattle.ground.proofs.Bools.{passed, refused}
use Rattle.desk.specs.Desk.{pte_checked}
use Rattle.desk.specs.declared.Held.{Held}
use Rattle.desk.specs.declared.Sent.{Sent}
use Rattle.desk.specs.declared.Checked.{Checked}
use Rattle.desk_bytes.specs.Bytes.{held_stored}
use Rattle.desk_edge.specs.Calls.{finding_code, finding_field, pte_by}
use Rattle.desk_edge.proofs.Made.{three_words, unserved, served}
use Rattle.desk_edge.proofs.lp_check_pte.Goals as goal

pub returns-then-not-is_served : goal.returns-then-not-is_served
returns-then-not-is_served c =
    let a = c.args in
    unserved a.held.now a.sent.now a.word.now _ _ _ _ (refused c.is_served.ensures c.if-not-is_served.true-raw) refl refl refl

pub put_word-requires : goal.put_word-requires
put_word-requires c =
    three_words _ _ _ (passed c.is_served.ensures c.if-not-is_served.false-raw)

pub returns : goal.returns
unfolding pte_by
returns c =
    let a = c.args in
    let e = c.check_pte-x.ensures
    ∙ ap₂ (λ (h : Held) (s : Sent). pte_checked h s a.reply.now) c.load_held-h.ensures c.load_sent-s.ensures in
    served a.held.now a.sent.now a.word.now _ _ _ _ (passed c.is_served.ensures c.if-not-is_served.false-raw)
    (c.code_of.ensures ∙ ap (λ (x : Checked). finding_code x.finding) e)
    (c.store_held.ensures ∙ ap (λ (x : Checked). held_stored a.held.now x.held) e)
    (c.put_word.ensures ∙ ap (λ (x : Checked). finding_field x.finding ∷ x.letter ∷ x.code ∷ []) e)

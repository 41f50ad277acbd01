-- A SUO opens a frame wherever it may stand, and data records are added to it.
-- Assumes nothing.
use mathlib.Core.Path.{◌≡◌, sym, ap, ◌∙◌}
use mathlib.Core.Bool.{true, false}
use mathlib.Core.List.{List, [], ◌∷◌, ◌++◌, append_assoc, append-nil}
use Prim.Native.Nat.{ℕ}
use Rattle.ground.specs.Lists.{Each}
use Rattle.ground.proofs.Choices.{picks, skips}
use Rattle.opening.specs.declared.Opening.{Opening}
use Rattle.whole_file.specs.Messages.{begins}
use Rattle.whole_file.specs.WholeFile.{Opened, Situation, before_esi, collecting_esi, outside, collecting_suo, in_frame, collecting_var, closed}
use Rattle.whole_file.specs.WholeFile.{Standing, Step, moved, silent, replies, pte_says, suo_starts, outside_record, with_record, frame_record}
use Rattle.whole_file.specs.WholeFile.{record_in}
use Rattle.law_build.specs.Premises.{IsData}
use Rattle.law_build.specs.Accepted.{MayStand}
use Rattle.law_build.proofs.ByValue.{stands_after_records}

-- ---- a SUO

module _ (o : Opening) (s : Standing) (suo : List ℕ) (is : begins ">>SUO" suo ≡ true) (not : begins ">>VAR" suo ≡ false) where
  pub suo_opens : (z : Situation) → MayStand z → (record_in o s z suo).after ≡ (suo_starts s suo).after
  unfolding record_in outside_record frame_record pte_says replies
  suo_opens (outside told) m = ap (λ (x : Step). x.after) (picks _ _ _ is)
  suo_opens (in_frame f) m = ap (λ (x : Step). x.after) (skips _ _ _ not ∙ picks _ _ _ is)
  suo_opens before_esi m = absurd m
  suo_opens (collecting_esi before) m = absurd m
  suo_opens (collecting_suo before) m = absurd m
  suo_opens (collecting_var before f) m = absurd m
  suo_opens closed m = absurd m

-- ---- data records

-- a frame with records
abbrev pub with_all : Opened → (records : List (List ℕ)) → Opened
with_all f records = record { suo = f.suo; once = f.once; records = records }

abbrev pub stands_in : Standing → Opened → Standing
stands_in s f = moved s (in_frame f)

record_added : (o : Opening) (s : Standing) (f : Opened) (r : List ℕ) → IsData r
    → (record_in o (stands_in s f) (stands_in s f).situation r).after ≡ stands_in s (with_all f (f.records ++ (r ∷ [])))
unfolding record_in frame_record silent moved with_record
record_added o s f r d =
    ap (λ (x : Step). x.after) (skips _ _ _ d.no_var ∙ skips _ _ _ d.no_suo ∙ skips _ _ _ d.no_esi)

pub records_added : (o : Opening) (s : Standing) (f : Opened) (records : List (List ℕ)) → Each IsData records
    → stands_after_records o (stands_in s f) records ≡ stands_in s (with_all f (f.records ++ records))
unfolding stands_after_records
records_added o s f [] d = ap (λ (x : List (List ℕ)). stands_in s (with_all f x)) (sym (append-nil f.records))
records_added o s f (r ∷ rs) d =
    ap (λ (x : Standing). stands_after_records o x rs) (record_added o s f r d.0)
    ∙ records_added o s (with_all f (f.records ++ (r ∷ []))) rs d.1
    ∙ ap (λ (x : List (List ℕ)). stands_in s (with_all f x)) (append_assoc f.records (r ∷ []) rs)

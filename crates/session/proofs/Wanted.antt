-- The length that a message has to reach: its field 2 is cut where the characters end, and past 500 it is 500.
-- Assumes nothing.
use mathlib.Core.Path.{◌≡◌, sym, ap, ◌∙◌}
use mathlib.Core.List.{List}
use Prim.Native.Nat.{ℕ, ◌+◌, ◌-◌, ◌≤◌, min}
use native.Mathlib.Omega.{arith}
use lib.ListN.{length, take, drop, length-take}
use lib.Seq.{take_all}
use Rattle.ground.specs.Lists.{part}
use Rattle.ground.proofs.Parts.{drop-take, take-drop, take_least, drop_least}
use Rattle.text.specs.Numbers.{decimal}
use Rattle.message.proofs.Places.{length-field}
use Rattle.whole_file.specs.Messages.{stated_length, wanted_length}

module _ (count : ℕ) (l : List ℕ) (from to : ℕ) (e : from ≡ min count 5) (f : to ≡ min count 8) where
  cut_field : take (to - from) (drop from l) ≡ stated_length (take count l)
  unfolding part
  cut_field =
      let s : to ≡ from + (to - from) = omega arith in
      let start : from ≡ min 5 count = omega arith in
      let end : to ≡ min 8 count = omega arith in
      let k : length (take 8 (take count l)) ≤ count = rw (length-take, length-take) (omega arith) in
      sym (drop-take from (to - from) to l s)
      ∙ ap (λ (i : ℕ). drop from (take i l)) end
      ∙ ap (drop from) (sym (take_least 8 count l))
      ∙ ap (λ (i : ℕ). drop i (take 8 (take count l))) start
      ∙ drop_least 5 count (take 8 (take count l)) k
      ∙ sym (take-drop 5 3 (take count l))
      ∙ sym (length-field (take count l))

  module _ (r : ℕ) (d : r ≡ decimal (take 19 (take (to - from) (drop from l)))) where
    stated : r ≡ decimal (stated_length (take count l))
    stated =
        let s : length (take (to - from) (drop from l)) ≤ 19 = rw length-take (omega arith) in
        d ∙ ap decimal (take_all 19 (take (to - from) (drop from l)) s) ∙ ap decimal cut_field

    pub wanted_is : {m : ℕ} → m ≡ min r 500 → m ≡ wanted_length (take count l)
    unfolding wanted_length
    wanted_is h = h ∙ ap (λ (n : ℕ). min n 500) stated

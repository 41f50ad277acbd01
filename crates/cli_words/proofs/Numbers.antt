-- A word of digits by its length, its characters and its number; bytes a read, by both ends of their range.
-- Assumes nothing.
use Rattle.std.proofs.Common.{◌≡◌, ℕ, ◌≤◌, ◌<◌, true, false, List, length, take, sym, ap, ◌∙◌, None, Some, lt-ltb, le-ltb}
use Rattle.ground.specs.Lists.{all}
use Rattle.ground.proofs.Choices.{picks, skips, join, fails_left, fails_right, between_below, between_above, between_in}
use Rattle.text.specs.Characters.{digit}
use Rattle.text.specs.Numbers.{decimal}
use Rattle.cli_words.specs.Forms.{number_of, in_range, read_of}

module _ (low high : ℕ) (s : List ℕ) where
  pub too_short : length s < low → number_of low high s ≡ None
  unfolding number_of
  too_short h = skips _ _ _ (fails_left _ _ (between_below _ _ _ h))

  pub too_long : high < length s → number_of low high s ≡ None
  unfolding number_of
  too_long h = skips _ _ _ (fails_left _ _ (between_above _ _ _ h))

  pub no_digits : all digit s ≡ false → number_of low high s ≡ None
  unfolding number_of
  no_digits e = skips _ _ _ (fails_right _ _ (fails_left _ _ e))

  pub too_big : 4294967296 ≤ decimal (take 19 s) → number_of low high s ≡ None
  unfolding number_of
  too_big h = skips _ _ _ (fails_right _ _ (fails_right _ _ (le-ltb _ _ h)))

  pub is_number : low ≤ length s → length s ≤ high → all digit s ≡ true → decimal (take 19 s) < 4294967296
      → number_of low high s ≡ Some (decimal (take 19 s))
  unfolding number_of
  is_number h k e n = picks _ _ _ (join _ _ (between_in _ _ _ h k) (join _ _ e (lt-ltb _ _ n)))

module _ (s : List ℕ) where
  pub no_number : number_of 1 5 s ≡ None → None ≡ read_of s
  unfolding in_range read_of
  no_number e = sym (ap (in_range 1 65536) e)

  module _ (n : ℕ) (e : number_of 1 5 s ≡ Some n) where
    pub too_low : n < 1 → None ≡ read_of s
    unfolding in_range read_of
    too_low h = sym (ap (in_range 1 65536) e ∙ skips _ _ _ (between_below 1 65536 n h))

    pub too_high : 65536 < n → None ≡ read_of s
    unfolding in_range read_of
    too_high h = sym (ap (in_range 1 65536) e ∙ skips _ _ _ (between_above 1 65536 n h))

    pub within : 1 ≤ n → n ≤ 65536 → Some n ≡ read_of s
    unfolding in_range read_of
    within h k = sym (ap (in_range 1 65536) e ∙ picks _ _ _ (between_in 1 65536 n h k))

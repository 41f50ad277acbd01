-- A piece without LF adds all its characters but a CR at its end, since a CR that waits is freed by whatever follows it. By induction over
-- the piece.
-- Assumes nothing.
use Rattle.std.proofs.Common.{◌≡◌, ℕ, suc, ◌-◌, ◌<◌, Bool, true, false, eqb, ltb, List, [], ◌∷◌, ◌++◌, length, get_or, take, sym, refl, ap, ◌∙◌, ap₂, ⊎_elim, arith, length-take-le, take-suc, le-ltb, lt-ltb, eq-eqb, ne_eqb, eqb-true}
use lib.Seq.{take-length}
use Rattle.ground.specs.Choice.{pick}
use Rattle.ground.specs.Lists.{member}
use Rattle.ground.proofs.Choices.{picks, skips}
use Rattle.ground.proofs.Bools.{outcome, refuted, clash, neither}
use Rattle.ground.proofs.Lists.{member-cons, member_front, member_last}
use Rattle.digest.specs.Running.{took_byte, took_bytes, ended}
use Rattle.digest.specs.declared.Method.{Method}
use Rattle.digest.specs.declared.Running.{Running}
use Rattle.digest.proofs.Folds.{took_append}
use Rattle.cli_words.specs.Forms.{without_cr}
use Rattle.bureau_records.specs.Pieces.{Heard, freed, heard_byte, heard_bytes}

module _ (e : ℕ → ℕ) (h : Heard) where
  pub freed_cr : h.waits ≡ true → took_bytes e h.running (13 ∷ []) ≡ freed e h
  unfolding freed took_bytes
  freed_cr w = sym (picks _ _ _ w)

  pub freed_none : h.waits ≡ false → h.running ≡ freed e h
  unfolding freed
  freed_none w = sym (skips _ _ _ w)

-- a piece without LF, and its last byte
module _ (q : List ℕ) (b : ℕ) (n : member 10 (q ++ (b ∷ [])) ≡ false) where
  none_before : member 10 q ≡ false
  none_before = refuted _ (λ t. clash _ (member_front 10 q (b ∷ []) t) n)

  last_other : eqb b 10 ≡ false
  last_other =
      refuted _ (λ t. clash _ (ap (λ (x : ℕ). member 10 (q ++ (x ∷ []))) (eqb-true b 10 t) ∙ member_last 10 q) n)

module _ (e : ℕ → ℕ) (m : Method) where
  -- ---- one byte

  pub heard_lf : (h : Heard) → heard_byte e m h 10 ≡ record { running = ended m h.running; waits = false }
  unfolding heard_byte pick
  heard_lf h = refl

  heard_cr : (h : Heard) (b : ℕ) → eqb b 10 ≡ false → eqb b 13 ≡ true → heard_byte e m h b ≡ record { running = freed e h; waits = true }
  unfolding heard_byte
  heard_cr h b p q = skips _ _ _ p ∙ picks _ _ _ q

  heard_other : (h : Heard) (b : ℕ) → eqb b 10 ≡ false → eqb b 13 ≡ false
      → heard_byte e m h b ≡ record { running = took_byte e (freed e h) b; waits = false }
  unfolding heard_byte
  heard_other h b p q = skips _ _ _ p ∙ skips _ _ _ q

  freed_byte : (h : Heard) (b : ℕ) → eqb b 10 ≡ false → freed e (heard_byte e m h b) ≡ took_byte e (freed e h) b
  unfolding freed pick
  freed_byte h b p =
      ⊎_elim
      (λ w. ap (freed e) (heard_cr h b p w) ∙ ap (took_byte e (freed e h)) (sym (eqb-true b 13 w)))
      (λ w. ap (freed e) (heard_other h b p w))
      (outcome (eqb b 13))

  -- ---- many

  pub heard-append : (h : Heard) (a b : List ℕ) → heard_bytes e m h (a ++ b) ≡ heard_bytes e m (heard_bytes e m h a) b
  unfolding heard_bytes
  heard-append h [] b = refl
  heard-append h (x ∷ a) b = heard-append (heard_byte e m h x) a b

  pub heard_one : (h : Heard) (a : List ℕ) (b : ℕ) (l : List ℕ)
      → heard_bytes e m h (a ++ (b ∷ l)) ≡ heard_bytes e m (heard_byte e m (heard_bytes e m h a) b) l
  unfolding heard_bytes
  heard_one h a b l = heard-append h a (b ∷ l)

  pub heard_none : (h : Heard) → heard_bytes e m h [] ≡ h
  unfolding heard_bytes
  heard_none h = refl

  -- with a CR that waits freed, all of a piece is taken
  freed_piece : (h : Heard) (p : List ℕ) → member 10 p ≡ false → freed e (heard_bytes e m h p) ≡ took_bytes e (freed e h) p
  unfolding heard_bytes took_bytes
  freed_piece h [] n = refl
  freed_piece h (x ∷ p) n =
      let k = neither (eqb x 10) (member 10 p) (sym (member-cons 10 x p) ∙ n) in
      freed_piece (heard_byte e m h x) p k.1 ∙ ap (λ (r : Running). took_bytes e r p) (freed_byte h x k.0)

  module _ (h : Heard) (q : List ℕ) (b : ℕ) (n : member 10 (q ++ (b ∷ [])) ≡ false) where
    ends_cr : eqb b 13 ≡ true → heard_bytes e m h (q ++ (b ∷ [])) ≡ record { running = took_bytes e (freed e h) q; waits = true }
    ends_cr w =
        heard_one h q b []
        ∙ heard_none _
        ∙ heard_cr (heard_bytes e m h q) b (last_other q b n) w
        ∙ ap (λ (r : Running). record { running = r; waits = true }) (freed_piece h q (none_before q b n))

    ends_other : eqb b 13 ≡ false
        → heard_bytes e m h (q ++ (b ∷ [])) ≡ record { running = took_bytes e (freed e h) (q ++ (b ∷ [])); waits = false }
    unfolding took_bytes
    ends_other w =
        heard_one h q b []
        ∙ heard_none _
        ∙ heard_other (heard_bytes e m h q) b (last_other q b n) w
        ∙ ap (λ (r : Running). record { running = took_byte e r b; waits = false }) (freed_piece h q (none_before q b n))
        ∙ ap (λ (r : Running). record { running = r; waits = false }) (sym (took_append e (freed e h) q (b ∷ [])))

  -- ---- a piece

  abbrev pub heard_piece : Heard → (piece solid : List ℕ) → Heard
  heard_piece h l s = record { running = took_bytes e (freed e h) s; waits = ltb (length s) (length l) }

  module _ (h : Heard) (l : List ℕ) (some : 0 < length l) (n : member 10 l ≡ false) where
    parted : take (length l - 1) l ++ (get_or l (length l - 1) 0 ∷ []) ≡ l
    parted =
        let k : suc (length l - 1) ≡ length l = omega arith in
        sym (take-suc l (length l - 1) 0 (omega arith)) ∙ ap (λ (k : ℕ). take k l) k ∙ take-length l

    pub piece_heard : heard_piece h l (without_cr l) ≡ heard_bytes e m h l
    unfolding without_cr
    piece_heard =
        let q = take (length l - 1) l in
        let b = get_or l (length l - 1) 0 in
        let p : member 10 (q ++ (b ∷ [])) ≡ false = ap (member 10) parted ∙ n in
        let k : length q < length l = omega (arith, length-take-le (length l - 1) l (omega arith)) in
        ⊎_elim
        (λ w. ap (heard_piece h l) (picks _ _ _ w)
        ∙ ap (λ (t : Bool). record { running = took_bytes e (freed e h) q; waits = t }) (lt-ltb (length q) (length l) k)
        ∙ sym (ends_cr h q b p w)
        ∙ ap (heard_bytes e m h) parted)
        (λ w. ap (heard_piece h l) (skips _ _ _ w)
        ∙ ap (λ (t : Bool). record { running = took_bytes e (freed e h) l; waits = t }) (le-ltb (length l) (length l) (omega arith))
        ∙ ap (λ (s : List ℕ). record { running = took_bytes e (freed e h) s; waits = false }) (sym parted)
        ∙ sym (ends_other h q b p w)
        ∙ ap (heard_bytes e m h) parted)
        (outcome (eqb b 13))

  -- the same by what each call gives
  pub piece_made : (h : Heard) (l : List ℕ) {s : List ℕ} {u r : Running} → (length l ≡ 0 → ⊥) → member 10 l ≡ false
      → u ≡ freed e h → s ≡ without_cr l → r ≡ took_bytes e u s
      → record { running = r; waits = ltb (length s) (length l) } ≡ heard_bytes e m h l
  piece_made h l {s} some n f w t =
      ap (λ (r : Running). record { running = r; waits = ltb (length s) (length l) })
      (t ∙ ap (λ (u : Running). took_bytes e u s) f)
      ∙ ap (heard_piece h l) w
      ∙ piece_heard h l (omega (arith, some)) n

  pub piece_none : (h : Heard) (l : List ℕ) → length l ≡ 0 → h ≡ heard_bytes e m h l
  unfolding heard_bytes
  piece_none h [] z = refl
  piece_none h (x ∷ l) z = absurd (omega arith)

-- ---- the end of the file

module _ (m : Method) (h : Heard) {x : Heard} (known : ℕ) {k : ℕ} (same : x ≡ h) (counted : k ≡ known) where
  abbrev at_end : Heard
  at_end = record { running = pick (eqb known 0) h.running (ended m h.running); waits = false }

  pub none_left : x.waits ≡ false → k ≡ 0 → x ≡ at_end
  none_left w z =
      ap₂ (λ (r : Running) (t : Bool). record { running = r; waits = t })
      (ap (λ (h : Heard). h.running) same ∙ sym (picks _ _ _ (eq-eqb known 0 (sym counted ∙ z)))) w

  pub last_ended : {r : Heard} → r ≡ record { running = ended m x.running; waits = false } → (k ≡ 0 → ⊥) → r ≡ at_end
  last_ended made z =
      made
      ∙ ap (λ (r : Running). record { running = r; waits = false })
      (ap (λ (h : Heard). ended m h.running) same ∙ sym (skips _ _ _ (ne_eqb known 0 (λ e. z (counted ∙ e)))))

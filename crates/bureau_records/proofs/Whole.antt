-- Lines heard byte by byte add their records one by one: a record's characters are taken, and its line end ends it. By induction over the
-- lines.
-- Assumes nothing.
use Rattle.std.proofs.Common.{◌≡◌, ℕ, Bool, true, false, ltb, List, [], ◌∷◌, ◌++◌, length, sym, refl, ap, ◌∙◌, arith, le-ltb}
use Rattle.ground.specs.Choice.{pick}
use Rattle.ground.specs.Lists.{member}
use Rattle.digest.specs.Running.{alike, took_bytes, ended, took_records}
use Rattle.digest.specs.declared.Method.{Method}
use Rattle.digest.specs.declared.Method.TheVariants.{Skh, Ske}
use Rattle.digest.specs.declared.Running.{Running}
use Rattle.digest.specs.declared.State.{State}
use Rattle.cli_words.specs.Forms.{without_cr}
use Rattle.bureau_records.specs.Pieces.{Heard, freed, heard_byte, heard_bytes}
use Rattle.bureau_records.specs.Files.{line_end, LinesOf, none, line, added}
use Rattle.bureau_records.proofs.Hearing.{heard-append, piece_heard}

-- no CR waits
abbrev at_start : Running → Heard
at_start r = record { running = r; waits = false }

is_alike : (m : Method) (r : Running) → ended m r ≡ alike (ended m r).last
unfolding ended alike
is_alike Skh r = refl
is_alike Ske r = refl

module _ (e : ℕ → ℕ) (m : Method) where
  record_heard : (r : Running) (p : List ℕ) → member 10 p ≡ false → without_cr p ≡ p
      → heard_bytes e m (at_start r) p ≡ at_start (took_bytes e r p)
  unfolding heard_bytes took_bytes freed pick
  record_heard r [] n w = refl
  record_heard r (x ∷ p) n w =
      sym (piece_heard e m (at_start r) (x ∷ p) (omega arith) n)
      ∙ ap (λ (s : List ℕ). record { running = took_bytes e r s; waits = ltb (length s) (length (x ∷ p)) }) w
      ∙ ap (λ (t : Bool). record { running = took_bytes e r (x ∷ p); waits = t }) (le-ltb (length (x ∷ p)) (length (x ∷ p)) (omega arith))

  end_heard : (r : Running) (crlf : Bool) → heard_bytes e m (at_start r) (line_end crlf) ≡ at_start (ended m r)
  unfolding heard_bytes heard_byte freed line_end pick
  end_heard r true = refl
  end_heard r false = refl

  -- records without LF and without a CR at their end, each followed by LF or CR LF: hearing the bytes of their lines gives what adding the
  -- records one by one gives, and no CR waits
  pub lines_heard : (r : Running) {records : List (List ℕ)} {bytes : List ℕ} → LinesOf records bytes
      → heard_bytes e m (at_start r) bytes ≡ at_start (took_records e m r records)
  unfolding heard_bytes took_records
  lines_heard r none = refl
  lines_heard r (line {p} {ps} {l} n w crlf more) =
      heard-append e m (at_start r) p (line_end crlf ++ l)
      ∙ ap (λ (h : Heard). heard_bytes e m h (line_end crlf ++ l)) (record_heard r p n w)
      ∙ heard-append e m (at_start (took_bytes e r p)) (line_end crlf) l
      ∙ ap (λ (h : Heard). heard_bytes e m h l) (end_heard (took_bytes e r p) crlf)
      ∙ lines_heard (ended m (took_bytes e r p)) more

  records_added : (s : State) (records : List (List ℕ)) → took_records e m (alike s) records ≡ alike (added e m s records)
  unfolding took_records added
  records_added s [] = refl
  records_added s (p ∷ ps) =
      ap (λ (r : Running). took_records e m r ps) (is_alike m (took_bytes e (alike s) p))
      ∙ records_added (ended m (took_bytes e (alike s) p)).last ps

  -- from a state that is kept between records, each is added as `add_record` of `build` adds it
  pub lines_added : (s : State) {records : List (List ℕ)} {bytes : List ℕ} → LinesOf records bytes
      → heard_bytes e m (at_start (alike s)) bytes ≡ at_start (alike (added e m s records))
  lines_added s {records} k = lines_heard (alike s) k ∙ ap at_start (records_added s records)

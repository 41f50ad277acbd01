-- Characters that a session hears join those that it has heard; where its line stands does not matter to what it stands for.
-- Assumes nothing.
use Prim.Native.Nat.{ℕ, ◌+◌, ◌≤◌}
use mathlib.Core.Path.{◌≡◌, refl, sym, ap, ◌∙◌, subst}
use mathlib.Core.Bool.{Bool}
use mathlib.Core.List.{List, ◌++◌, append_assoc}
use native.Mathlib.Omega.{arith}
use lib.ListN.{length}
use Rattle.ground.specs.Choice.{pick}
use Rattle.des.specs.Des.{enciphered}
use Rattle.message.specs.declared.Kind.TheVariants.{Var}
use Rattle.checks.specs.Checks.{key_or0}
use Rattle.opening.specs.declared.Opening.{Opening}
use Rattle.whole_file.specs.WholeFile.{Situation, before_esi, collecting_esi, outside, collecting_suo, in_frame, collecting_var, closed}
use Rattle.whole_file.specs.WholeFile.{Standing, moved}
use Rattle.session.specs.Events.{gathered_all, is_data, batch_with, heard_by, cipher_of, heard}
use Rattle.session.specs.Machine.{with_line}
use Rattle.session.specs.declared.Line.{Line}
use Rattle.session.specs.declared.Place.{Place}
use Rattle.session.specs.declared.Place.TheVariants.{Collecting}
use Rattle.session.specs.declared.Gathered.{Gathered}
use Rattle.session.specs.declared.Batch.{Batch}
use Rattle.session.specs.declared.Session.{Session}
use Rattle.law_refinement.specs.Stands.{gathered_of, Kept, digested, Situated, Hears}
use Rattle.law_refinement.proofs.Gathers
use Rattle.law_refinement.proofs.Frames

module _ (chars l : List ℕ) (told : Bool) (p : Place) (g : Gathered) (b : Batch) where
  gathers : (before : List ℕ) → g ≡ gathered_of before → gathered_all g l ≡ gathered_of (before ++ l)
  gathers before e = ap (λ (x : Gathered). gathered_all x l) e ∙ Gathers.gathered_more before l

  joins : (sofar : List ℕ) → g ≡ gathered_of (sofar ++ chars) → gathered_all g l ≡ gathered_of (sofar ++ (chars ++ l))
  joins sofar e = gathers (sofar ++ chars) e ∙ ap gathered_of (append_assoc sofar chars l)

  -- outside the data no batch changes
  batch_same : p ≡ Collecting Var → batch_with (enciphered (key_or0 b.once)) p b l ≡ b
  unfolding batch_with is_data pick
  batch_same e = ap (λ (x : Place). batch_with (enciphered (key_or0 b.once)) x b l) e

  situated_heard : (x : Situation) → Situated x chars told p g b
      → Situated x (chars ++ l) told p (gathered_all g l) (batch_with (enciphered (key_or0 b.once)) p b l)
  situated_heard before_esi k = (k.0, gathers chars k.1)
  situated_heard (collecting_esi sofar) k = (k.0, joins sofar k.1, k.2)
  situated_heard (outside before) k = (k.0, gathers chars k.1, k.2)
  situated_heard (collecting_suo sofar) k = (k.0, joins sofar k.1, k.2)
  situated_heard (in_frame f) k = (
    k.0,
    gathers chars k.1,
    ap (λ (x : Place). batch_with (enciphered (key_or0 b.once)) x b l) k.0 ∙ Frames.batch_heard f chars l b k.2,
    k.3,
  )
  situated_heard (collecting_var sofar f) k =
      (k.0, joins sofar k.1, k.2, subst (Kept f) (sym (batch_same k.0)) k.3, k.4)
  situated_heard closed k = k

module _ (o : Opening) (w₀ : List ℕ) (n m : ℕ) (st : Standing) (chars : List ℕ) (s : Session) (w : List ℕ)
    (k : Hears o w₀ n st chars s w) where
  -- another session with the same opening, keys made and sender stands in another situation
  pub carries : (x : Situation) (l : List ℕ) (z : Session) → z.opening ≡ s.opening → z.made ≡ s.made → z.sender ≡ s.sender
      → digested x + length l ≤ m → Situated x l z.told z.place z.gathered z.batch → Hears o w₀ m (moved st x) l z w
  unfolding moved
  carries x l z p q r h i =
      record {
        opening = p ∙ k.opening;
        made = q ∙ k.made;
        sender = r ∙ k.sender;
        table = k.table;
        counted = h;
        situated = i;
      }

  pub hears_more : (l : List ℕ) → digested st.situation + length (chars ++ l) ≤ m → Hears o w₀ m st (chars ++ l) (heard s l) w
  unfolding moved heard heard_by cipher_of
  hears_more l h =
      carries st.situation (chars ++ l) (heard s l) refl refl refl h
      (situated_heard chars l s.told s.place s.gathered s.batch st.situation k.situated)

  pub hears_line : (l : Line) → n ≤ m → Hears o w₀ m st chars (with_line s l) w
  unfolding moved with_line
  hears_line l h = carries st.situation chars (with_line s l) refl refl refl (omega (arith, k.counted)) k.situated

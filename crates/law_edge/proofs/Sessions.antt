-- Every session that a call hands back encodes, so a box that keeps it as bytes hands it in again as it was: a served call writes it over
-- bytes of a session's length, and a refused one leaves the bytes that say it.
-- Assumes nothing.
use Prim.Native.Nat.{ℕ, ◌<◌, ◌^◌}
use mathlib.Core.Path.{◌≡◌, refl, sym, ap, ◌∙◌}
use mathlib.Core.List.{List}
use mathlib.Core.Bool.{Bool, true, false, false≢true}
use native.Mathlib.Omega.{arith}
use borrow.Author.Tests.{eqb-true, eqb-false, ltb-true, leb-true}
use lib.Dec.{eqb}
use lib.ListN.{length}
use Rattle.ground.specs.Choice.{pick, between}
use Rattle.ground.proofs.Choices.{left, right}
use Rattle.ground.proofs.Bools.{picked}
use Rattle.calendar.specs.Dates.{real_date, real_time}
use Rattle.opening.specs.declared.Opening.{Opening}
use Rattle.session.specs.Events.{placed, nothing}
use Rattle.session.specs.Machine.{last_ended, opened, unopened}
use Rattle.session.specs.Ranges.{Encodes}
use Rattle.session.specs.declared.Place.{Place}
use Rattle.session.specs.declared.Place.TheVariants.{Closed}
use Rattle.session.specs.declared.Session.{Session}
use Rattle.session.proofs.Fresh.{OpeningFits, opened_encodes, unopened_encodes}
use Rattle.session_bytes.specs.Session.{session_size, session_bytes, session_of, is_session, session_in}
use Rattle.session_bytes.proofs.Laws.{size, stored, loaded}
use Rattle.session_bytes.proofs.Any.{encodes_in}
use Rattle.law_cutting.proofs.Stays.{nothing_kept}
use Rattle.law_cutting.proofs.Keeps.{keeps_scan, keeps_last, keeps_file}
use Rattle.law_cutting.proofs.Ranged.{in_range_lem, still_encodes}
use Rattle.calls.specs.Reading.{Done, awaits, finishes, refused_by, served_by, read_served, opening_answer, opening_gives, read_done, end_done}
use Rattle.calls.specs.declared.Answer.{Answer}
use Rattle.calls.specs.declared.OpenAnswer.{OpenAnswer}
use Rattle.law_protocol.proofs.Opened.{Served, opening_served}
use Rattle.edge.specs.Edge.{session_after_opening, session_after, read_by, end_by}
use Rattle.edge.specs.Box.{lp_read, lp_end, box_session}
use Rattle.edge.proofs.Made
use Rattle.edge.proofs.Made.{opened_stored}
use Rattle.law_edge.proofs.Asked.{read_cases, end_cases}

-- ---- what an end does to a session

awaits_encodes : (s : Session) → Encodes s → Encodes (awaits s)
unfolding awaits
awaits_encodes s e =
    let f = e.fits in
    record {
      fits = record { message_long = f.message_long; suo_long_fact = f.suo_long_fact; sender_long = f.sender_long; key_fits = f.key_fits };
      day_fits = e.day_fits;
      time_fits = e.time_fits;
      kind_fits = e.kind_fits;
      clock_fits = e.clock_fits;
      made_fits = e.made_fits;
      size_fits = e.size_fits;
      count_fits = e.count_fits;
      running_fits = e.running_fits;
    }

placed_encodes : (s : Session) (p : Place) (told : Bool) → Encodes s → Encodes (placed s p told nothing)
unfolding placed
placed_encodes s p told e =
    let f = e.fits in
    record {
      fits = record { message_long = nothing_kept.1; suo_long_fact = f.suo_long_fact; sender_long = f.sender_long; key_fits = f.key_fits };
      day_fits = e.day_fits;
      time_fits = e.time_fits;
      kind_fits = e.kind_fits;
      clock_fits = e.clock_fits;
      made_fits = e.made_fits;
      size_fits = e.size_fits;
      count_fits = omega (arith, nothing_kept.0);
      running_fits = e.running_fits;
    }

finishes_encodes : (s : Session) → Encodes s → Encodes (finishes s)
unfolding finishes
finishes_encodes s e = placed_encodes (awaits s) Closed s.told (awaits_encodes s e)

-- ---- what a call hands back

abbrev Hands : Done → Type 0
Hands d = Encodes d.answer.session

refused_hands : (s : Session) (w room : List ℕ) (n : ℕ) → Encodes s → Hands (refused_by n s w room)
unfolding refused_by
refused_hands s w room n e = e

pub read_encodes : (s : Session) (w input room : List ℕ) → Encodes s → Encodes (read_done s w input room).answer.session
unfolding read_served served_by
read_encodes s w input room e =
    read_cases Hands s w room (λ n h z. refused_hands s w room n e) input (λ g. still_encodes (keeps_scan input s w) g.ranged e)

pub end_encodes : (s : Session) (w room : List ℕ) → Encodes s → Encodes (end_done s w room).answer.session
unfolding served_by
end_encodes s w room e =
    let x = last_ended s w in
    let k = keeps_last s w in
    end_cases Hands s w room (λ n h z. refused_hands s w room n e)
    (λ g. awaits_encodes _ (still_encodes k g.ranged e))
    (λ g. finishes_encodes _ (still_encodes k g.ranged e))
    (λ g.
    let y = keeps_file x.out.session x.table in
    finishes_encodes _ (still_encodes y (in_range_lem k g.ranged) (still_encodes k g.ranged e)))

-- a served opening brought a real day and time and a data type of 1 to 16
opening_fits : (b : List ℕ) (o : Opening) → Served b o → o.clock < 2 ^ 64 → OpeningFits o
unfolding real_date real_time between
opening_fits b o a c =
    record {
      day_fits = omega (arith, ltb-true o.today.yymmdd 1000000 (left _ _ a.real));
      time_fits = omega (arith, ltb-true o.time 240000 (left _ _ a.time));
      kind_fits = omega (arith, leb-true o.kind 16 (right _ _ a.kind));
      clock_fits = c;
    }

pub opening_encodes : (b : List ℕ) (o : Opening) → o.clock < 2 ^ 64 → Encodes (opening_gives b o).session
unfolding opening_gives
opening_encodes b o c =
    picked Encodes (eqb (opening_answer b o) 0) (opened o) unopened
    (λ e. opened_encodes o (opening_fits b o (opening_served b o (eqb-true _ 0 e)) c))
    (λ e. unopened_encodes)

-- ---- and its bytes

module _ (b : List ℕ) (a : Answer) (n : length b ≡ session_size) (e : Encodes a.session) where
  pub after_long : length (session_after b a) ≡ session_size
  unfolding session_after
  after_long =
      picked (λ (x : List ℕ). length x ≡ session_size) (eqb a.refusal 0) _ _
      (λ q. ap length (stored b a.session n) ∙ size a.session e)
      (λ q. n)

  after_says : ((a.refusal ≡ 0 → ⊥) → a.session ≡ session_in b) → session_in (session_after b a) ≡ a.session
  unfolding session_after
  after_says r =
      picked (λ (x : List ℕ). session_in x ≡ a.session) (eqb a.refusal 0) _ _ (λ q. loaded b a.session e n)
      (λ q. sym (r (eqb-false _ 0 q)))

-- a served call's are just what its session is written as
pub opened_bytes : (b : List ℕ) (a : OpenAnswer) → length b ≡ session_size → a.refusal ≡ 0
    → session_after_opening b a ≡ session_bytes a.session
opened_bytes b a n z = sym (opened_stored b a z refl) ∙ stored b a.session n

pub after_bytes : (b : List ℕ) (a : Answer) → length b ≡ session_size → a.refusal ≡ 0 → session_after b a ≡ session_bytes a.session
after_bytes b a n z = sym (Made.stored b a z refl) ∙ stored b a.session n

abbrev Kept : Session → Done → Type 0
Kept s d = (d.answer.refusal ≡ 0 → ⊥) → d.answer.session ≡ s

read_kept : (s : Session) (w input room : List ℕ) → Kept s (read_done s w input room)
unfolding read_served served_by refused_by
read_kept s w input room = read_cases (Kept s) s w room (λ n h z q. refl) input (λ g q. absurd (q refl))

end_kept : (s : Session) (w room : List ℕ) → Kept s (end_done s w room)
unfolding served_by refused_by
end_kept s w room = end_cases (Kept s) s w room (λ n h z q. refl) (λ g q. absurd (q refl)) (λ g q. absurd (q refl)) (λ g q. absurd (q refl))

module _ (w session : List ℕ) (n : length session ≡ session_size) where
  pub read_long : (input room : List ℕ) → length (box_session w (lp_read session input room)) ≡ session_size
  unfolding box_session read_by
  read_long input room = after_long session _ n (read_encodes _ w input room (encodes_in session))

  pub read_says : (input room : List ℕ)
      → session_in (box_session w (lp_read session input room)) ≡ (read_done (session_in session) w input room).answer.session
  unfolding box_session read_by
  read_says input room =
      after_says session _ n (read_encodes _ w input room (encodes_in session)) (read_kept (session_in session) w input room)

  pub end_long : (room : List ℕ) → length (box_session w (lp_end session room)) ≡ session_size
  unfolding box_session end_by
  end_long room = after_long session _ n (end_encodes _ w room (encodes_in session))

  pub end_says : (room : List ℕ) → session_in (box_session w (lp_end session room)) ≡ (end_done (session_in session) w room).answer.session
  unfolding box_session end_by
  end_says room = after_says session _ n (end_encodes _ w room (encodes_in session)) (end_kept (session_in session) w room)

-- ---- bytes that say an open file are a session's

pub open_bytes : (b : List ℕ) → (session_in b).opened ≡ true → is_session b ≡ true
unfolding session_in unopened pick
open_bytes b e = by (is_session b) refl
  where
    by : (v : Bool) → is_session b ≡ v → is_session b ≡ true
    by true q = q
    by false q = absurd (false≢true (sym (ap (λ (v : Bool). (pick {A = Session} v (session_of b) unopened).opened) q) ∙ e))

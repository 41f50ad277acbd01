-- The four calls that keep a table: what refuses each, what each makes of a table, and what that leaves of the lent bytes.
-- Assumes nothing.
use Rattle.std.specs.Prelude.{ℕ, ◌^◌, List, [], ◌∷◌, eqb, ltb, leb, length, replicate, None}
use Rattle.ground.specs.Choice.{either, fails, pick}
use Rattle.ground.specs.Lists.{all}
use Rattle.calendar.specs.Dates.{real_date}
use Rattle.keys.specs.Keys.{combined, working_key0}
use Rattle.keys.specs.Maker.{key_of, next_seed}
use Rattle.customer.specs.Settings.{sound_who, sound_name}
use Rattle.customer.specs.declared.Customer.{Customer}
use Rattle.changeover.specs.Held.{changing}
use Rattle.changeover.specs.Changes.{with_transport, with_working}
use Rattle.table.specs.Table.{Table, with_added, with_day, with_seed, rising}
use Rattle.table.specs.Named.{named, with_named}
use Rattle.table.specs.Written.{table_size, written}
use Rattle.table.specs.Decode.{table_of}
use Rattle.refusals.specs.Refusals.{Refusal, refusal, lowest, no_table, bad_day, table_full, already_there, no_such_customer, even_part}
use Rattle.refusals.specs.Refusals.{check_differs, not_next, bad_length}
use Rattle.refusals.specs.Length.{length_of}
use Rattle.table_calls.specs.declared.Setting.{Setting}
use Rattle.table_calls.specs.declared.Adding.{Adding}
use Rattle.table_calls.specs.declared.Entering.{Entering}
use Rattle.table_calls.specs.declared.Ordering.{Ordering}

-- what a call leaves of the lent bytes: a refused one leaves every byte, a served one writes the table
unfoldable pub leaves : ℕ → List ℕ → Table → List ℕ
leaves refused b t = pick (eqb refused 0) (written b t) b

-- ---- set up a table: settings and holidays; stores day 800101

unfoldable pub setting_up_refusals : (b : List ℕ) → Setting → (holidays : List ℕ) → List Refusal
setting_up_refusals b s holidays =
    refusal 4 (fails (all real_date holidays)) ∷
    refusal 11
    (either (fails (eqb (length b) table_size))
    (either (fails (sound_who s.bank))
    (either (fails (sound_name s.software))
    (either (fails (either (eqb s.floor 110) (eqb s.floor 120)))
    (either (ltb 200 (length holidays)) (fails (rising holidays))))))) ∷ []

unfoldable pub new_table : Setting → List ℕ → Table
new_table s holidays =
    record {
      day = 800101;
      settings =
          record { bank = s.bank; software = s.software; floor = s.floor; maker = record { key = s.key; seed = s.seed } };
      holidays = holidays;
      customers = [];
    }

unfoldable pub setting_up_answer : (b : List ℕ) → Setting → (holidays : List ℕ) → ℕ
setting_up_answer b s holidays = lowest (setting_up_refusals b s holidays)

unfoldable pub setting_up_leaves : (b : List ℕ) → Setting → (holidays : List ℕ) → List ℕ
setting_up_leaves b s holidays = leaves (setting_up_answer b s holidays) b (new_table s holidays)

-- ---- add a customer: transport key parts, check value and generation, types, agreement, leave, changeover length

unfoldable pub adding_refusals : List ℕ → Adding → List Refusal
adding_refusals b a =
    refusal 2 (no_table b) ∷
    refusal 4 (bad_day (table_of b) a.today) ∷
    refusal 5 (table_full (table_of b)) ∷
    refusal 6 (already_there (table_of b) a.who) ∷
    refusal 8 (even_part a.part1 a.part2) ∷
    refusal 9 (check_differs a.part1 a.part2 a.check) ∷
    refusal 11
    (either (fails (sound_who a.who))
    (either (ltb 9 a.generation) (either (leb (2 ^ 16) a.types) (bad_length a.length)))) ∷ []

-- the new customer: its transport key from the parts, working key 0 from that, no stamps
unfoldable pub new_customer : Adding → Customer
new_customer a =
    record {
      who = a.who;
      types = a.types;
      agreed = a.agreed;
      leave = a.leave;
      length = length_of a.length;
      transport = record { generation = a.generation; key = combined a.part1 a.part2; previous = None };
      working = record { generation = 0; key = working_key0 (combined a.part1 a.part2); previous = None };
      count = 0;
      stamps = replicate 64 0;
      once = replicate 64 0;
    }

unfoldable pub added_to : Table → Adding → Table
added_to t a = with_day (with_added t (new_customer a)) a.today.yymmdd

unfoldable pub adding_answer : List ℕ → Adding → ℕ
adding_answer b a = lowest (adding_refusals b a)

unfoldable pub adding_leaves : List ℕ → Adding → List ℕ
adding_leaves b a = leaves (adding_answer b a) b (added_to (table_of b) a)

-- ---- enter a transport key

unfoldable pub entering_refusals : List ℕ → Entering → List Refusal
entering_refusals b e =
    refusal 2 (no_table b) ∷
    refusal 4 (bad_day (table_of b) e.today) ∷
    refusal 7 (no_such_customer (table_of b) e.who) ∷
    refusal 8 (even_part e.part1 e.part2) ∷
    refusal 9 (check_differs e.part1 e.part2 e.check) ∷
    refusal 10 (not_next (named (table_of b) e.who).transport.generation e.generation) ∷
    refusal 12 (changing (named (table_of b) e.who).transport.previous e.today) ∷ []

-- the old current key becomes the previous one from today to today plus the length
unfoldable pub entered_in : Table → Entering → Table
entered_in t e = with_day
    (with_named t e.who
    (with_transport (named t e.who) e.generation (combined e.part1 e.part2) e.today))
    e.today.yymmdd

unfoldable pub entering_answer : List ℕ → Entering → ℕ
entering_answer b e = lowest (entering_refusals b e)

unfoldable pub entering_leaves : List ℕ → Entering → List ℕ
entering_leaves b e = leaves (entering_answer b e) b (entered_in (table_of b) e)

-- ---- order a new working key: it brings its own clock value, and the key maker moves on

unfoldable pub ordering_refusals : List ℕ → Ordering → List Refusal
ordering_refusals b o =
    refusal 2 (no_table b) ∷
    refusal 4 (bad_day (table_of b) o.today) ∷
    refusal 7 (no_such_customer (table_of b) o.who) ∷
    refusal 12 (changing (named (table_of b) o.who).working.previous o.today) ∷ []

unfoldable pub ordered_in : Table → Ordering → Table
ordered_in t o =
    let k : ℕ = t.settings.maker.key in
    let v : ℕ = t.settings.maker.seed in
    with_day
    (with_seed (with_named t o.who (with_working (named t o.who) (key_of k v o.clock) o.today)) (next_seed k v o.clock))
    o.today.yymmdd

unfoldable pub ordering_answer : List ℕ → Ordering → ℕ
ordering_answer b o = lowest (ordering_refusals b o)

unfoldable pub ordering_leaves : List ℕ → Ordering → List ℕ
ordering_leaves b o = leaves (ordering_answer b o) b (ordered_in (table_of b) o)

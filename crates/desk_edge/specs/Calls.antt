-- The desk's calls for a box in C or Rust: numbers and lent bytes in place of structs (docs/FORMAT.md, include/lentilpot.h). A refused call
-- changes nothing lent to it.
-- Assumes nothing.
use Rattle.std.specs.Prelude.{ℕ, ◌≡◌, Bool, true, List, [], ◌∷◌, eqb, length, replicate, Result, Ok, Err}
use Rattle.ground.specs.Choice.{both, either, pick, between}
use Rattle.ground.specs.Lists.{same, overlay}
use Rattle.keys.specs.Keys.{check_value}
use Rattle.refusals.specs.Refusals.{refusal, lowest, even_part, check_differs}
use Rattle.whole_file.specs.Messages.{begins, most_length}
use Rattle.message.specs.Layout.{layout_length}
use Rattle.message.specs.declared.Kind.{Kind}
use Rattle.message.specs.declared.Kind.TheVariants.{Esi, Suo, Var}
use Rattle.edge.specs.Edge.{fixed}
use Rattle.desk.specs.Held.{no_desk, opening, entering}
use Rattle.desk.specs.Desk.{esi_checked, pte_checked}
use Rattle.desk.specs.Sent.{sent_by}
use Rattle.desk.specs.declared.Held.{Held}
use Rattle.desk.specs.declared.Parts.{Parts}
use Rattle.desk.specs.declared.Given.{Given}
use Rattle.desk.specs.declared.Finding.{Finding}
use Rattle.desk.specs.declared.Checked.{Checked}
use Rattle.desk_bytes.specs.Layout.{held_size, sent_size}
use Rattle.desk_bytes.specs.Bytes.{is_held, held_in, held_stored, sent_in, sent_stored}

-- ---- a desk is opened

-- where the bytes lent for it have another length than a desk, the generation is none: 11
unfoldable pub parts_asked : (held : List ℕ) (part1 part2 check generation : ℕ) → Parts
parts_asked held part1 part2 check generation =
    record {
      part1 = part1;
      part2 = part2;
      check = check;
      generation = pick (eqb (length held) held_size) generation 10;
    }

unfoldable pub opened_by : (held own bank : List ℕ) (part1 part2 check generation : ℕ) → Given
opened_by held own bank part1 part2 check generation =
    opening (fixed 25 own) (fixed 25 bank) (parts_asked held part1 part2 check generation)

-- ---- a transport key is entered

-- of bytes that are no desk's 8 and 9 are told first, then 11
unfoldable pub no_desk_refusal : Parts → ℕ
no_desk_refusal p =
    lowest
    (refusal 8 (even_part p.part1 p.part2) ∷
    refusal 9 (check_differs p.part1 p.part2 p.check) ∷
    refusal 11 true ∷ [])

unfoldable pub entered_by : (held : List ℕ) → Parts → Given
entered_by held p = pick (is_held held) (entering (held_in held) p) (record { refusal = no_desk_refusal p; held = no_desk })

-- the desk's bytes after either: a refused call leaves them
unfoldable pub held_after_call : List ℕ → Given → List ℕ
held_after_call held x = pick (eqb x.refusal 0) (held_stored held x.held) held

-- ---- what is compared by telephone: of each kind the current generation and the check value of its key

unfoldable pub values_of : Held → List ℕ
values_of h =
    h.transport.generation ∷ check_value h.transport.key ∷ h.working.generation ∷ check_value h.working.key ∷ []

-- a desk's bytes, and room for four values
unfoldable pub are_told : (held values : List ℕ) → Bool
are_told held values = both (is_held held) (eqb (length values) 4)

-- ---- what was sent, from the messages themselves

-- a message of that kind: it begins so, and its length is from the layout's to 500
abbrev pub length_of : Kind → List ℕ → Bool
length_of kind m = between (layout_length kind) most_length (length m)

-- an ESI twice, or a SUO and its VAR
unfoldable pub are_sent : (first closing : List ℕ) → Bool
are_sent first closing =
    either (both (begins ">>ESI" first) (both (length_of Esi first) (same first closing)))
    (both (begins ">>SUO" first) (both (length_of Suo first) (both (begins ">>VAR" closing) (length_of Var closing))))

-- the known fields; zeros after the last
unfoldable pub known : List ℕ → List ℕ
known m = overlay m (replicate 161 0)

unfoldable pub sent_refusal : (first closing sent : List ℕ) → ℕ
sent_refusal first closing sent = pick (both (are_sent first closing) (eqb (length sent) sent_size)) 0 11

unfoldable pub sent_after_call : (first closing sent : List ℕ) → List ℕ
sent_after_call first closing sent =
    pick (are_sent first closing) (sent_stored sent (sent_by (known first) (known closing))) sent

-- ---- a reply is checked

-- the numbers of a finding: 0 where all pass; the field
unfoldable pub finding_code : Result Unit Finding → ℕ
finding_code (Ok _) = 0
finding_code (Err finding) = finding.code

unfoldable pub finding_field : Result Unit Finding → ℕ
finding_field (Ok _) = 0
finding_field (Err finding) = finding.field

-- bytes that are a desk's, what was sent, and room for three words
unfoldable pub is_served : (held sent word : List ℕ) → Bool
is_served held sent word = both (is_held held) (both (eqb (length sent) sent_size) (eqb (length word) 3))

unfoldable pub esi_by : (held sent reply : List ℕ) → Checked
esi_by held sent reply = esi_checked (held_in held) (sent_in sent) reply

unfoldable pub pte_by : (held sent reply : List ℕ) → Checked
pte_by held sent reply = pte_checked (held_in held) (sent_in sent) reply

-- the number that is returned; the desk's bytes; field, letter and code of the bank's word
unfoldable pub check_answer : (served : Bool) → Checked → ℕ
check_answer served x = pick served (finding_code x.finding) 11

unfoldable pub check_held : (served : Bool) (held : List ℕ) → Checked → List ℕ
check_held served held x = pick served (held_stored held x.held) held

unfoldable pub check_word : (served : Bool) (word : List ℕ) → Checked → List ℕ
check_word served word x = pick served (finding_field x.finding ∷ x.letter ∷ x.code ∷ []) word

-- what a check answers and leaves
pub record MeetsCheck (held sent word : List ℕ) (x : Checked) (answer : ℕ) (held_later word_later : List ℕ) : Type 0 where
  pub answers : answer ≡ check_answer (is_served held sent word) x
  pub keeps : held_later ≡ check_held (is_served held sent word) held x
  pub tells : word_later ≡ check_word (is_served held sent word) word x

-- What the calls give by value, and what is shown of it: the statements over the calls follow from these, since bytes say the values that are
-- stored in them.
-- Assumes nothing.
use Rattle.std.specs.Prelude.{Ok}
use Prim.Native.Nat.{ℕ, ◌+◌, ◌≤◌}
use mathlib.Core.Path.{◌≡◌}
use mathlib.Core.Bool.{true}
use mathlib.Core.List.{List, [], ◌∷◌, ◌++◌}
use lib.ListN.{length}
use Rattle.ground.specs.Lists.{Each}
use Rattle.keys.specs.Maker.{made_of}
use Rattle.keys.specs.declared.KeyMaker.{KeyMaker}
use Rattle.table.specs.Table.{sound_table}
use Rattle.message.specs.Fields.{method_of}
use Rattle.notice.specs.Codes.{code_in, codes}
use Rattle.reply.specs.Reply.{reply_of}
use Rattle.reply.specs.declared.Answering.{Answering}
use Rattle.opening.specs.declared.Opening.{Opening}
use Rattle.whole_file.specs.WholeFile.{before_esi, Standing, Step, record_in, at_start, whole_file}
use Rattle.whole_file.specs.Records.{size_limit, items_of}
use Rattle.law_refinement.specs.Stands.{size_of}
use Rattle.calls.specs.Reading.{opening_answer}
use Rattle.desk.specs.Desk.{esi_checked, pte_checked}
use Rattle.desk.specs.Sent.{sent_by}
use Rattle.desk.specs.declared.Held.{Held}
use Rattle.law_desk.specs.Desks.{stands_after, opens_on}
use Rattle.build.specs.Building.{esi_building, suo_building, record_added, var_building}
use Rattle.build.specs.declared.Given.{Given}
use Rattle.build.specs.declared.Batch.{Batch}
use Rattle.law_build.specs.Premises.{MaySend, MaySendBatch, IsData, LeavesSomething}
use Rattle.law_build.specs.Accepted.{lines, LineEnd, WholeLines, MayStand, FirstAccepted, AcceptedAt}

-- ---- replies

-- a step answers with K, and so holds of its reply
pub record Accepts (P : List ℕ → Type 0) (x : Step) : Type 0 where
  pub answer : Answering
  pub says : x.says ≡ answer ∷ []
  pub accepts : (code_in answer.code codes).accepted ≡ true
  pub passes : P (reply_of answer)

-- a desk finds nothing in the reply to an ESI, and to a batch
abbrev pub EsiFinds : Held → (esi reply : List ℕ) → Type 0
EsiFinds h m r = (esi_checked h (sent_by m m) r).finding ≡ Ok tt

abbrev pub PteFinds : Held → (suo var reply : List ℕ) → Type 0
PteFinds h suo var r = (pte_checked h (sent_by suo var) r).finding ≡ Ok tt

-- ---- what is built

abbrev pub esi_of : Held → (software stamp : List ℕ) (request : ℕ) → List ℕ
esi_of h software stamp request = (esi_building h software stamp request).text

-- a batch with its records added one by one
unfoldable pub all_added : Batch → (records : List (List ℕ)) → Batch
all_added b [] = b
all_added b (r ∷ rs) = all_added (record_added b r) rs

-- texts as long as their fields, as the calls take them
pub record Sized (g : Given) : Type 0 where
  pub software : length g.software ≡ 16
  pub method : length g.method ≡ 3
  pub stamp : length g.stamp ≡ 15

-- a SUO was built, the records were added, and the VAR was built
pub record Built (h : Held) (maker : KeyMaker) (clock : ℕ) (g : Given) (records : List (List ℕ)) (request : ℕ) : Type 0 where
  pub suo : (suo_building h maker clock g).refusal ≡ 0
  pub var : (var_building (all_added (suo_building h maker clock g).batch records) request).refusal ≡ 0

abbrev pub suo_of : Held → KeyMaker → (clock : ℕ) → Given → List ℕ
suo_of h maker clock g = (suo_building h maker clock g).batch.suo

abbrev pub var_of : Held → KeyMaker → (clock : ℕ) → Given → (records : List (List ℕ)) (request : ℕ) → List ℕ
var_of h maker clock g records request = (var_building (all_added (suo_building h maker clock g).batch records) request).text

-- ---- where the reading stands

-- after some records
unfoldable pub stands_after_records : Opening → Standing → (records : List (List ℕ)) → Standing
stands_after_records o s [] = s
stands_after_records o s (r ∷ rs) = stands_after_records o (record_in o s s.situation r).after rs

-- an ESI is accepted as the first record
abbrev pub EsiByValue : Type 0
EsiByValue = (o : Opening) (s : Standing) (h : Held) (software stamp : List ℕ) (request : ℕ)
    → sound_table s.table ≡ true → length software ≡ 16 → length stamp ≡ 15
    → (esi_building h software stamp request).refusal ≡ 0 → MaySend s.table o.today h stamp
    → Accepts (EsiFinds h (esi_of h software stamp request)) (record_in o s before_esi (esi_of h software stamp request))

-- a batch at its VAR's end, wherever after an accepted ESI its SUO stands
abbrev pub BatchByValue : Type 0
BatchByValue = (o : Opening) (s : Standing) (h : Held) (maker : KeyMaker) (clock : ℕ) (g : Given) (records : List (List ℕ)) (request : ℕ)
    → sound_table s.table ≡ true → MayStand s.situation
    → Sized g → Built h maker clock g records request
    → MaySendBatch s.table o.today o.kind h g.stamp (made_of maker clock).made
    → Each IsData records → LeavesSomething (method_of (suo_of h maker clock g)) records → size_of records ≤ size_limit
    → (there : Standing) → there ≡ stands_after_records o s (suo_of h maker clock g ∷ records)
    → Accepts (PteFinds h (suo_of h maker clock g) (var_of h maker clock g records request))
    (record_in o there there.situation (var_of h maker clock g records request))

-- ---- over a file's bytes

abbrev pub FileAcceptsEsi : Type 0
FileAcceptsEsi = (b : List ℕ) (o : Opening) (h : Held) (software stamp : List ℕ) (request : ℕ) (ending rest : List ℕ)
    → opening_answer b o ≡ 0 → length software ≡ 16 → length stamp ≡ 15
    → (esi_building h software stamp request).refusal ≡ 0 → MaySend (opens_on b o) o.today h stamp → LineEnd ending
    → (file : List ℕ) → file ≡ lines ending (esi_of h software stamp request ∷ []) ++ rest → length file ≤ size_limit
    → FirstAccepted (length (lines ending (esi_of h software stamp request ∷ []))) (whole_file o (opens_on b o) file).given
    (EsiFinds h (esi_of h software stamp request))

abbrev pub FileAcceptsBatch : Type 0
FileAcceptsBatch = (b : List ℕ) (o : Opening) (h : Held) (maker : KeyMaker) (clock : ℕ) (g : Given) (records : List (List ℕ)) (request : ℕ)
    (ending front rest : List ℕ)
    → opening_answer b o ≡ 0 → WholeLines front
    → (s : Standing) → s ≡ stands_after o (at_start (opens_on b o)) (items_of front) → MayStand s.situation
    → Sized g → Built h maker clock g records request
    → MaySendBatch s.table o.today o.kind h g.stamp (made_of maker clock).made
    → Each IsData records → LeavesSomething (method_of (suo_of h maker clock g)) records → LineEnd ending
    → (framed : List ℕ) → framed ≡ lines ending (suo_of h maker clock g ∷ records ++ (var_of h maker clock g records request ∷ []))
    → (file : List ℕ) → file ≡ front ++ framed ++ rest → length file ≤ size_limit
    → AcceptedAt (length front + length framed) (whole_file o (opens_on b o) file).given
    (PteFinds h (suo_of h maker clock g) (var_of h maker clock g records request))

-- What a bureau can hold the builder to, each statement in plain words above it (document 02, R-6): what the calls leave in the memory lent
-- to them, in a file of the bureau's, as the bank's box answers it.
-- Assumes nothing.
use Rattle.std.specs.Prelude.{ℕ, ◌+◌, ◌≤◌, ◌≡◌, true, List, [], ◌∷◌, ◌++◌, length}
use Rattle.ground.specs.Lists.{Each}
use Rattle.splices.proofs.Splice.{AllBytes}
use Rattle.message.specs.Fields.{method_of}
use Rattle.opening.specs.declared.Opening.{Opening}
use Rattle.whole_file.specs.WholeFile.{Situation, before_esi, outside, in_frame, collecting_esi, collecting_suo, collecting_var, closed}
use Rattle.whole_file.specs.WholeFile.{Standing, at_start, whole_file}
use Rattle.whole_file.specs.WholeFile.{Given as Given'}
use Rattle.whole_file.specs.Records.{lf, cr, size_limit, items_of}
use Rattle.calls.specs.Reading.{opening_answer}
use Rattle.edge.specs.Box.{lp_open, box_answer, box_table, box_session, Words}
use Rattle.law_protocol.specs.Protocol.{Saw, Lent}
use Rattle.law_history.specs.History.{is_k}
use Rattle.law_edge.specs.BoxRuns.{BoxRuns}
use Rattle.law_demands.specs.Demands.{brought_by}
use Rattle.law_desk.specs.Desks.{stands_after, opens_on}
use Rattle.desk_bytes.specs.Bytes.{held_in}
use Rattle.desk_edge.specs.Calls.{is_served, esi_by, pte_by, check_answer}
use Rattle.desk_edge.specs.Builder.{text_after, sent_after, esi_built_by, var_built_by, suo_built_by, suo_text_after, batch_after, added_by}
use Rattle.build.specs.declared.Given.{Given}
use Rattle.build.specs.declared.BuiltMessage.{BuiltMessage}
use Rattle.build.specs.declared.BuiltSuo.{BuiltSuo}
use Rattle.law_build.specs.Premises.{MaySend, MaySendBatch, IsData, LeavesSomething}

-- ---- what was built

-- lp_build_esi was served, and gave x over the rooms lent to it
pub record EsiBuilt (held software stamp : List ℕ) (request : ℕ) (text sent : List ℕ) (x : BuiltMessage) : Type 0 where
  pub bytes : AllBytes held
  pub by : x ≡ esi_built_by held software stamp request text sent
  pub served : x.refusal ≡ 0

-- a batch's bytes with records added one by one, each by lp_add_record
unfoldable pub all_added_by : (batch : List ℕ) (records : List (List ℕ)) → List ℕ
all_added_by b [] = b
all_added_by b (r ∷ rs) = all_added_by (added_by b r) rs

-- lp_build_suo was served and gave y, the records were added, lp_build_var was served and gave x
pub record BatchBuilt (held maker : List ℕ) (clock : ℕ) (g : Given) (records : List (List ℕ)) (request : ℕ)
    (text batch room sent : List ℕ) (y : BuiltSuo) (x : BuiltMessage) : Type 0 where
  pub bytes : AllBytes held
  pub suo : y ≡ suo_built_by held maker clock g text batch
  pub suo_served : y.refusal ≡ 0
  pub var : x ≡ var_built_by (all_added_by (batch_after batch y) records) request room sent
  pub var_served : x.refusal ≡ 0

-- ---- a file

-- records as lines, each with its line end
unfoldable pub lines : (ending : List ℕ) (records : List (List ℕ)) → List ℕ
lines ending [] = []
lines ending (r ∷ rs) = r ++ ending ++ lines ending rs

-- LF or CR LF
pub data LineEnd : List ℕ → Type 0 where
  lf_alone : LineEnd (lf ∷ [])
  cr-lf : LineEnd (cr ∷ lf ∷ [])

-- nothing, or bytes that end with a line end
pub data WholeLines : List ℕ → Type 0 where
  no_lines : WholeLines []
  ended : (l : List ℕ) → WholeLines (l ++ (lf ∷ []))

-- where a SUO may stand: after an accepted ESI, outside a frame or in one left open
abbrev pub MayStand : Situation → Type 0
MayStand (outside told) = Unit {0}
MayStand (in_frame f) = Unit {0}
MayStand before_esi = ⊥
MayStand (collecting_esi before) = ⊥
MayStand (collecting_suo before) = ⊥
MayStand (collecting_var before f) = ⊥
MayStand closed = ⊥

-- ---- its answers

-- the replies to a file that is opened on a table: demand 2's whole-file answer, or what the bank's box sees however it cuts the file into
-- reads
pub data Answers (b : List ℕ) (o : Opening) (file : List ℕ) (given : List Given') : Type 0 where
  uncut : opening_answer b o ≡ 0 → given ≡ (whole_file o (opens_on b o) file).given → Answers b o file given
  in_reads : (session : List ℕ) (today time kind clock : ℕ) (ks : List Lent) (rooms : List (List ℕ)) (l : Saw)
      → o ≡ brought_by today time kind clock
      → Words (lp_open session today time kind clock) → box_answer b (lp_open session today time kind clock) ≡ 0
      → BoxRuns ks rooms 0 (box_session b (lp_open session today time kind clock)) (box_table b (lp_open session today time kind clock)) file l
      → given ≡ l.given → Answers b o file given

-- the first of these replies is given at that place, says K, and passes
pub record FirstAccepted (place : ℕ) (given : List Given') (Passes : List ℕ → Type 0) : Type 0 where
  pub reply : List ℕ
  pub after : List Given'
  pub all : given ≡ record { at = place; reply = reply } ∷ after
  pub accepted : is_k reply ≡ true
  pub passes : Passes reply

-- so for one of them
pub record AcceptedAt (place : ℕ) (given : List Given') (Passes : List ℕ → Type 0) : Type 0 where
  pub before : List Given'
  pub rest : List Given'
  pub all : given ≡ before ++ rest
  pub here : FirstAccepted place rest Passes

-- the desk that built a message finds nothing in the reply, by what the call left of what was sent
abbrev pub EsiPassesBy : (held sent reply : List ℕ) → Type 0
EsiPassesBy held sent reply = (word : List ℕ) → length word ≡ 3 → check_answer (is_served held sent word) (esi_by held sent reply) ≡ 0

abbrev pub PtePassesBy : (held sent reply : List ℕ) → Type 0
PtePassesBy held sent reply = (word : List ℕ) → length word ≡ 3 → check_answer (is_served held sent word) (pte_by held sent reply) ≡ 0

-- ---- the statements

-- Of any file within the size limit that begins with an ESI built under the premises: the first reply accepts it, at its end, and passes the
-- desk. Any table, opening, line end, and anything behind it.
abbrev pub EsiAccepted : Type 0
EsiAccepted = (b : List ℕ) (o : Opening) (held software stamp : List ℕ) (request : ℕ) (text sent ending rest : List ℕ) (x : BuiltMessage)
    → EsiBuilt held software stamp request text sent x → MaySend (opens_on b o) o.today (held_in held) stamp → LineEnd ending
    → (file : List ℕ) → file ≡ lines ending (text_after text x ∷ []) ++ rest → length file ≤ size_limit
    → (given : List Given') → Answers b o file given
    → FirstAccepted (length (lines ending (text_after text x ∷ []))) given (EsiPassesBy held (sent_after sent x))

-- Of any file within the size limit, with any lines before it after which a SUO may stand, and anything behind it: a batch built under the
-- premises, by the table as it then is, is accepted at its VAR's end, and the reply passes the desk.
abbrev pub BatchAccepted : Type 0
BatchAccepted = (b : List ℕ) (o : Opening) (held maker : List ℕ) (clock : ℕ) (g : Given) (records : List (List ℕ)) (request : ℕ)
    (text batch room sent ending front rest : List ℕ) (y : BuiltSuo) (x : BuiltMessage)
    → BatchBuilt held maker clock g records request text batch room sent y x
    → WholeLines front → (s : Standing) → s ≡ stands_after o (at_start (opens_on b o)) (items_of front) → MayStand s.situation
    → MaySendBatch s.table o.today o.kind (held_in held) g.stamp y.batch.once
    → Each IsData records → LeavesSomething (method_of y.batch.suo) records → LineEnd ending
    → (framed : List ℕ) → framed ≡ lines ending (suo_text_after text y ∷ records ++ (text_after room x ∷ []))
    → (file : List ℕ) → file ≡ front ++ framed ++ rest → length file ≤ size_limit
    → (given : List Given') → Answers b o file given
    → AcceptedAt (length front + length framed) given (PtePassesBy held (sent_after sent x))

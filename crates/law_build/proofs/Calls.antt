-- What the calls leave in lent bytes is what they give by value, and a box sees the whole-file answer; so what holds of that by value holds of
-- the calls.
-- Assumes nothing.
use Prim.Native.Nat.{ℕ, ◌+◌}
use mathlib.Core.Path.{◌≡◌, sym, ap, ap₂, ◌∙◌, subst}
use mathlib.Core.Bool.{true}
use mathlib.Core.List.{List, [], ◌∷◌, ◌++◌}
use native.Mathlib.Omega.{arith}
use lib.ListN.{length}
use Rattle.table.specs.Table.{sound_table}
use Rattle.message.specs.Fields.{method_of}
use Rattle.opening.specs.declared.Opening.{Opening}
use Rattle.whole_file.specs.Records.{items_of}
use Rattle.whole_file.specs.WholeFile.{Standing, whole_file}
use Rattle.whole_file.specs.WholeFile.{Given as Given'}
use Rattle.calls.specs.Reading.{opening_answer}
use Rattle.law_protocol.specs.Protocol.{Saw}
use Rattle.law_protocol.proofs.Opened.{day_sound}
use Rattle.law_demands.proofs.Box.{served, is_brought, box_any_cuts}
use Rattle.law_desk.specs.Desks.{opens_on}
use Rattle.law_desk.proofs.Sent.{sent_fits}
use Rattle.desk.specs.Sent.{sent_by}
use Rattle.desk_bytes.specs.Bytes.{held_in}
use Rattle.desk_edge.specs.Builder.{text_after, sent_after, maker_in}
use Rattle.law_build.specs.Premises.{MaySendBatch, LeavesSomething}
use Rattle.law_build.specs.Accepted.{Answers, uncut, in_reads, FirstAccepted, AcceptedAt, lines, EsiAccepted, BatchAccepted}
use Rattle.law_build.proofs.ByValue.{EsiFinds, PteFinds, esi_of, suo_of, var_of}
use Rattle.law_build.proofs.Clean.{esi_clean, suo_clean, var_clean}
use Rattle.law_build.proofs.Files.{stands_sound}
use Rattle.law_build.proofs.Bytes.{file_esi, file_batch}
use Rattle.law_build.proofs.Left.{esi_left, batch_built, batch_stands}
use Rattle.law_build.proofs.Lent.{esi_passes, pte_passes}

-- ---- the answers are the whole file's

record Whole (b : List ℕ) (o : Opening) (file : List ℕ) (given : List Given') : Type 0 where
  opens : opening_answer b o ≡ 0
  all : given ≡ (whole_file o (opens_on b o) file).given

answers_whole : (b : List ℕ) (o : Opening) (file : List ℕ) (given : List Given') → Answers b o file given → Whole b o file given
answers_whole b o file given (uncut z e) = record { opens = z; all = e }
answers_whole b o file given (in_reads session today time kind clock ks rooms l is words z r e) =
    subst (λ (x : Opening). Whole b x file given) (sym is)
    (record {
      opens = subst (λ (x : Opening). opening_answer b x ≡ 0) (is_brought b session today time kind clock words z)
          (served b session today time kind clock words z);
      all = e ∙ ap (λ (x : Saw). x.given) (box_any_cuts b session today time kind clock file ks rooms l words z r);
    })

-- what holds of a reply so
first_with : {place : ℕ} {given : List Given'} {P Q : List ℕ → Type 0} → ((r : List ℕ) → P r → Q r) → FirstAccepted place given P
    → FirstAccepted place given Q
first_with k x = record { reply = x.reply; after = x.after; all = x.all; accepted = x.accepted; passes = k x.reply x.passes }

accepted_with : {place : ℕ} {given : List Given'} {P Q : List ℕ → Type 0} → ((r : List ℕ) → P r → Q r) → AcceptedAt place given P
    → AcceptedAt place given Q
accepted_with k x = record { before = x.before; rest = x.rest; all = x.all; here = first_with k x.here }

-- ---- an ESI

pub esi_accepted : EsiAccepted
esi_accepted b o held software stamp request text sent ending rest x built may e file f l given answers =
    let h = held_in held in
    let m = esi_of h software stamp request in
    let w = answers_whole b o file given answers in
    let k = esi_left held software stamp request text sent x built in
    let c = esi_clean (opens_on b o) o.today h software stamp request (day_sound b o w.opens) may k.sixteen k.fifteen k.served in
    let n = c.long in
    let fits = sent_fits m m (record { opens = omega arith; closes = omega arith }) c.bytes c.bytes in
    let a = file_esi b o h software stamp request ending rest w.opens k.sixteen k.fifteen k.served may e file
    (f ∙ ap (λ (q : List ℕ). lines ending (q ∷ []) ++ rest) k.message) l in
    first_with (esi_passes held (sent_after sent x) (sent_by m m) k.desk fits k.kept)
    (subst (λ (q : List Given'). FirstAccepted (length (lines ending (text_after text x ∷ []))) q (EsiFinds h m)) (sym w.all)
    (subst (λ (q : List ℕ). FirstAccepted (length (lines ending (q ∷ []))) (whole_file o (opens_on b o) file).given (EsiFinds h m))
    (sym k.message) a))

-- ---- a batch

pub batch_accepted : BatchAccepted
batch_accepted b o held numbers clock g records request text batch room sent ending front rest y x built lined s st stand may d leaves e framed u
    file f l given answers =
    let h = held_in held in
    let maker = maker_in numbers in
    let suo = suo_of h maker clock g in
    let var = var_of h maker clock g records request in
    let w = answers_whole b o file given answers in
    let k = batch_stands held numbers clock g records request text batch room sent y x built in
    let made = batch_built held numbers clock g records request text batch room sent y x built in
    let sound = subst (λ (q : Standing). sound_table q.table ≡ true) (sym st) (stands_sound b o (items_of front) w.opens) in
    let sends = subst (MaySendBatch s.table o.today o.kind h g.stamp) k.key may in
    let p = suo_clean s.table o.today h maker clock g records request sound sends.message k.sized made in
    let c = var_clean s.table o.today h maker clock g records request sound sends.message k.sized made in
    let m = p.long in
    let n = c.long in
    let fits = sent_fits suo var (record { opens = omega arith; closes = omega arith }) p.bytes c.bytes in
    let a = file_batch b o h maker clock g records request ending front rest w.opens lined s st stand k.sized made sends d
    (subst (λ (q : List ℕ). LeavesSomething (method_of q) records) k.first leaves) e framed
    (u ∙ ap₂ (λ (q r : List ℕ). lines ending (q ∷ records ++ (r ∷ []))) k.opening k.closing) file f l in
    accepted_with (pte_passes held (sent_after sent x) (sent_by suo var) k.desk fits k.kept)
    (subst (λ (q : List Given'). AcceptedAt (length front + length framed) q (PteFinds h suo var)) (sym w.all) a)

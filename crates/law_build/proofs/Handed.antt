-- A call that is served hands back what it built, and has found no fault in it.
-- Assumes nothing.
use mathlib.Core.Path.{◌≡◌, refl, sym, ap, ◌∙◌}
use mathlib.Core.Bool.{false}
use mathlib.Core.List.{List, []}
use Prim.Native.Nat.{ℕ, ◌≤◌}
use borrow.Author.Tests.{eq-eqb}
use Rattle.ground.proofs.Choices.{picks}
use Rattle.des.specs.Des.{enciphered}
use Rattle.keys.specs.Maker.{made_of}
use Rattle.keys.specs.declared.KeyMaker.{KeyMaker}
use Rattle.digest.specs.Mac.{mac}
use Rattle.digest.specs.Kept.{is_empty, kept}
use Rattle.digest.specs.Running.{begun}
use Rattle.message.specs.Fields.{method_of}
use Rattle.message.specs.declared.Kind.TheVariants.{Esi, Suo, Var}
use Rattle.refusals.proofs.Refused.{served}
use Rattle.whole_file.specs.Records.{size_limit}
use Rattle.desk.specs.Sent.{sent_by}
use Rattle.desk.specs.declared.Held.{Held}
use Rattle.build.specs.Messages.{esi_built, suo_built, var_built}
use Rattle.law_refinement.specs.Stands.{size_of}
use Rattle.build.specs.Building.{breaks_rules, message_by, esi_building, suo_made, suo_refusal, suo_building, var_made, var_building}
use Rattle.build.specs.declared.Given.{Given}
use Rattle.build.specs.declared.Batch.{Batch}
use Rattle.build.proofs.Fits.{suo_batch}
use Rattle.law_build.proofs.ByValue.{all_added, Built, suo_of, var_of}
use Rattle.law_build.proofs.Taken.{Well, served_well}
use Rattle.law_build.proofs.Digest.{all_added_lem, fed_digest}

-- ---- an ESI

module _ (h : Held) (software stamp : List ℕ) (request : ℕ) (e : (esi_building h software stamp request).refusal ≡ 0) where
  pub esi-text : (esi_building h software stamp request).text ≡ esi_built h software stamp request
  unfolding esi_building message_by
  esi-text = picks _ _ _ (eq-eqb _ 0 e)

  pub esi_sent : (esi_building h software stamp request).sent ≡ sent_by (esi_built h software stamp request) (esi_built h software stamp request)
  unfolding esi_building message_by
  esi_sent = picks _ _ _ (eq-eqb _ 0 e)

  pub esi_well : Well Esi h (esi_built h software stamp request)
  unfolding esi_building message_by
  esi_well = served_well Esi h (esi_built h software stamp request) e

-- ---- a batch

-- its SUO, the digest of its records, and its VAR
abbrev pub suo_in : Held → KeyMaker → (clock : ℕ) → Given → List ℕ
suo_in h maker clock g = suo_built h g.software g.method g.stamp g.area (made_of maker clock).made

abbrev pub digest_in : Held → KeyMaker → (clock : ℕ) → Given → (records : List (List ℕ)) → ℕ
digest_in h maker clock g records =
    mac (enciphered (made_of maker clock).made) (kept (method_of (suo_in h maker clock g)) records)

abbrev pub var_in : Held → KeyMaker → (clock : ℕ) → Given → (records : List (List ℕ)) (request : ℕ) → List ℕ
var_in h maker clock g records request =
    var_built (suo_in h maker clock g) h.working.key (digest_in h maker clock g records) request

abbrev pub opened : Held → KeyMaker → (clock : ℕ) → Given → Batch
opened h maker clock g =
    record { suo = suo_in h maker clock g; once = (made_of maker clock).made; working = h.working.key; state = begun }

-- the call that builds the SUO
module _ (h : Held) (maker : KeyMaker) (clock : ℕ) (g : Given) (e : (suo_building h maker clock g).refusal ≡ 0) where
  pub batch_opens : (suo_building h maker clock g).batch ≡ opened h maker clock g
  unfolding suo_made
  batch_opens = suo_batch h maker clock g e

  pub suo-text : suo_of h maker clock g ≡ suo_in h maker clock g
  suo-text = ap (λ (x : Batch). x.suo) batch_opens

  pub suo_well : Well Suo h (suo_in h maker clock g)
  unfolding suo_building suo_refusal suo_made
  suo_well = served_well Suo h (suo_in h maker clock g) e

-- and the one that builds the VAR
module _ (b : Batch) (request : ℕ) (e : (var_building b request).refusal ≡ 0) where
  pub var_made_lem : (var_building b request).text ≡ var_made b request
  unfolding var_building message_by
  var_made_lem = picks _ _ _ (eq-eqb _ 0 e)

  pub var_sent : (var_building b request).sent ≡ sent_by b.suo (var_made b request)
  unfolding var_building message_by
  var_sent = picks _ _ _ (eq-eqb _ 0 e)

  pub var_rules : breaks_rules Var (var_made b request) ≡ false
  unfolding var_building message_by
  var_rules = (served 13 _ [] refl e).0

module _ (h : Held) (maker : KeyMaker) (clock : ℕ) (g : Given) (records : List (List ℕ)) (request : ℕ)
    (b : Built h maker clock g records request) where
  abbrev all : Batch
  all = all_added (suo_building h maker clock g).batch records

  -- records change the digest alone
  pub all_suo : all.suo ≡ suo_of h maker clock g
  all_suo = ap (λ (x : Batch). x.suo) (all_added_lem (suo_building h maker clock g).batch records)

  module _ (some : is_empty (kept (method_of (suo_in h maker clock g)) records) ≡ false) (few : size_of records ≤ size_limit) where
    made_in : var_made all request ≡ var_in h maker clock g records request
    unfolding var_made
    made_in =
        let suo = suo_in h maker clock g in
        ap (λ (x : Batch). var_made x request)
        (ap (λ (x : Batch). all_added x records) (batch_opens h maker clock g b.suo) ∙ all_added_lem (opened h maker clock g) records)
        ∙ ap (λ (x : ℕ). var_built suo h.working.key x request)
        (fed_digest (enciphered (made_of maker clock).made) (method_of suo) records some few)

    pub var-text : var_of h maker clock g records request ≡ var_in h maker clock g records request
    var-text = var_made_lem all request b.var ∙ made_in

    pub var_well : breaks_rules Var (var_in h maker clock g records request) ≡ false
    var_well = ap (breaks_rules Var) (sym made_in) ∙ var_rules all request b.var

-- What served calls leave in lent bytes is the messages by value and the fields of both that are kept; a batch's bytes say, at each call, the
-- batch by value.
-- Assumes nothing.
use Prim.Native.Nat.{ℕ}
use mathlib.Core.Path.{◌≡◌, sym, ap, ap₂, ◌∙◌}
use mathlib.Core.Bool.{true}
use mathlib.Core.List.{List, [], ◌∷◌}
use lib.ListN.{length}
use Rattle.keys.specs.Maker.{made_of}
use Rattle.keys.specs.declared.KeyMaker.{KeyMaker}
use Rattle.desk.specs.Sent.{sent_by}
use Rattle.desk.specs.declared.Held.{Held}
use Rattle.desk_bytes.specs.Bytes.{is_held, held_in, sent_bytes}
use Rattle.desk_edge.specs.Builder.{text_after, sent_after, maker_in, suo_text_after, batch_after, added_by}
use Rattle.desk_edge.proofs.BatchBack.{suo_kept, added_kept}
use Rattle.build.specs.Building.{esi_building, suo_building, record_added, var_building}
use Rattle.build.specs.declared.Given.{Given}
use Rattle.build.specs.declared.Batch.{Batch}
use Rattle.build.specs.declared.BuiltMessage.{BuiltMessage}
use Rattle.build.specs.declared.BuiltSuo.{BuiltSuo}
use Rattle.build_bytes.specs.Bytes.{batch_in}
use Rattle.build_bytes.proofs.Back.{BatchIs}
use Rattle.law_build.specs.Accepted.{EsiBuilt, BatchBuilt, all_added_by}
use Rattle.law_build.proofs.ByValue.{esi_of, suo_of, var_of, all_added, Sized, Built}
use Rattle.law_build.proofs.Handed.{esi-text, esi_sent, batch_opens, var_made_lem, var_sent, all_suo}
use Rattle.law_build.proofs.Lent.{text_left, sent_left, suo_left, esi_served, var_served, SuoServed, suo_served}

-- ---- an ESI

pub record EsiLeft (held software stamp : List ℕ) (request : ℕ) (text sent : List ℕ) (x : BuiltMessage) (h : Held) (esi : List ℕ) : Type 0 where
  pub desk : is_held held ≡ true
  pub sixteen : length software ≡ 16
  pub fifteen : length stamp ≡ 15
  pub served : (esi_building h software stamp request).refusal ≡ 0
  pub message : text_after text x ≡ esi
  pub kept : sent_after sent x ≡ sent_bytes (sent_by esi esi)

pub esi_left : (held software stamp : List ℕ) (request : ℕ) (text sent : List ℕ) (x : BuiltMessage)
    → EsiBuilt held software stamp request text sent x
    → EsiLeft held software stamp request text sent x (held_in held) (esi_of (held_in held) software stamp request)
esi_left held software stamp request text sent x built =
    let h = held_in held in
    let k = esi_served held software stamp request text sent x built.by built.served in
    let z : (esi_building h software stamp request).refusal ≡ 0 = ap (λ (v : BuiltMessage). v.refusal) (sym k.gives) ∙ built.served in
    record {
      desk = k.desk;
      sixteen = k.sixteen;
      fifteen = k.fifteen;
      served = z;
      message = text_left x built.served text ∙ ap (λ (v : BuiltMessage). v.text) k.gives;
      kept =
          sent_left x built.served sent k.room
          ∙ ap (λ (v : BuiltMessage). sent_bytes v.sent) k.gives
          ∙ ap sent_bytes
          (esi_sent h software stamp request z ∙ ap (λ (m : List ℕ). sent_by m m) (sym (esi-text h software stamp request z)));
    }

-- ---- a batch

-- each record that is added is said with it
pub all_kept : (l : List ℕ) (b : Batch) (records : List (List ℕ)) → BatchIs l b → BatchIs (all_added_by l records) (all_added b records)
unfolding all_added_by all_added
all_kept l b [] k = k
all_kept l b (r ∷ rs) k = all_kept (added_by l r) (record_added b r) rs (added_kept l r b k)

pub record BatchLeft (held : List ℕ) (g : Given) (text room sent : List ℕ) (y : BuiltSuo) (x : BuiltMessage) (once : ℕ) (suo var : List ℕ)
    : Type 0 where
  pub desk : is_held held ≡ true
  pub sized : Sized g
  pub key : y.batch.once ≡ once
  pub first : y.batch.suo ≡ suo
  pub opening : suo_text_after text y ≡ suo
  pub closing : text_after room x ≡ var
  pub kept : sent_after sent x ≡ sent_bytes (sent_by suo var)

module _ (held numbers : List ℕ) (clock : ℕ) (g : Given) (records : List (List ℕ)) (request : ℕ) (text batch room sent : List ℕ)
    (y : BuiltSuo) (x : BuiltMessage) (built : BatchBuilt held numbers clock g records request text batch room sent y x) where
  abbrev h : Held
  h = held_in held

  abbrev maker : KeyMaker
  maker = maker_in numbers

  abbrev opened : Batch
  opened = (suo_building h maker clock g).batch

  given : SuoServed held numbers clock g y
  given = suo_served held numbers clock g text batch y built.suo built.suo_served

  suo_is_served : (suo_building h maker clock g).refusal ≡ 0
  suo_is_served = ap (λ (v : BuiltSuo). v.refusal) (sym given.gives) ∙ built.suo_served

  -- the bytes say the batch with all of its records when the VAR is built
  all_said : batch_in (all_added_by (batch_after batch y) records) ≡ all_added opened records
  all_said =
      let z = ap (λ (v : BuiltSuo). v.refusal) (sym built.suo) ∙ built.suo_served in
      ap (λ (v : BuiltSuo). batch_in (all_added_by (batch_after batch v) records)) built.suo
      ∙ (all_kept _ opened records (suo_kept held numbers clock g text batch z built.bytes)).says

  gives : x ≡ var_building (all_added opened records) request
  gives =
      (var_served _ request room sent x built.var built.var_served).gives
      ∙ ap (λ (b : Batch). var_building b request) all_said

  pub batch_built : Built h maker clock g records request
  batch_built = record { suo = suo_is_served; var = ap (λ (v : BuiltMessage). v.refusal) (sym gives) ∙ built.var_served }

  pub batch_stands : BatchLeft held g text room sent y x (made_of maker clock).made (suo_of h maker clock g)
      (var_of h maker clock g records request)
  batch_stands =
      let all = all_added opened records in
      let is = ap (λ (v : BuiltSuo). v.batch.suo) given.gives in
      let z = batch_built.var in
      record {
        desk = given.desk;
        sized = given.sized;
        key = ap (λ (v : BuiltSuo). v.batch.once) given.gives ∙ ap (λ (b : Batch). b.once) (batch_opens h maker clock g suo_is_served);
        first = is;
        opening = suo_left y built.suo_served text ∙ is;
        closing = text_left x built.var_served room ∙ ap (λ (v : BuiltMessage). v.text) gives;
        kept =
            sent_left x built.var_served sent (var_served _ request room sent x built.var built.var_served).room
            ∙ ap (λ (v : BuiltMessage). sent_bytes v.sent) gives
            ∙ ap sent_bytes
            (var_sent all request z ∙ ap₂ sent_by (all_suo h maker clock g records request batch_built) (sym (var_made_lem all request z)));
      }

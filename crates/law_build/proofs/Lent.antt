-- A call over lent bytes that is served had all that it asks for, gives what it gives by value, and leaves it in the bytes: else it would have
-- answered 11.
-- Assumes nothing.
use Rattle.std.specs.Prelude.{Ok}
use Prim.Native.Nat.{ℕ}
use mathlib.Core.Path.{◌≡◌, refl, sym, ap, ◌∙◌}
use mathlib.Core.Bool.{Bool, true, false}
use mathlib.Core.List.{List}
use native.Mathlib.Omega.{arith}
use borrow.Author.Tests.{eqb-true, eq-eqb}
use lib.ListN.{length}
use Rattle.ground.specs.Choice.{pick}
use Rattle.ground.proofs.Choices.{left, right, join, picks}
use Rattle.desk.specs.Desk.{esi_checked, pte_checked}
use Rattle.desk.specs.declared.Sent.{Sent}
use Rattle.desk.specs.declared.Checked.{Checked}
use Rattle.desk_bytes.specs.Layout.{sent_size}
use Rattle.desk_bytes.specs.Bytes.{is_held, held_in, sent_bytes, sent_in, sent_stored}
use Rattle.desk_bytes.proofs.Again.{SentFits, sent_size_fact, sent_back}
use Rattle.desk_edge.specs.Calls.{is_served, finding_code, esi_by, pte_by, check_answer}
use Rattle.desk_edge.specs.Builder.{no_message, text_after, sent_after, esi_given, esi_built_by, var_given, var_built_by, maker_in, suo_given, suo_built_by}
use Rattle.desk_edge.specs.Builder.{suo_text_after}
use Rattle.build.specs.Building.{message_by, esi_building, suo_building, var_building}
use Rattle.build.specs.declared.Given.{Given}
use Rattle.build.specs.declared.BuiltMessage.{BuiltMessage}
use Rattle.build.specs.declared.BuiltSuo.{BuiltSuo}
use Rattle.build_bytes.specs.Bytes.{batch_in}
use Rattle.law_build.specs.Accepted.{EsiPassesBy, PtePassesBy}
use Rattle.law_build.proofs.ByValue.{Sized}

-- ---- what is left in the rooms

module _ (x : BuiltMessage) (z : x.refusal ≡ 0) where
  pub text_left : (text : List ℕ) → text_after text x ≡ x.text
  unfolding text_after
  text_left text = picks _ _ _ (eq-eqb _ 0 z)

  pub sent_left : (sent : List ℕ) → length sent ≡ sent_size → sent_after sent x ≡ sent_bytes x.sent
  unfolding sent_after sent_stored
  sent_left sent n = picks _ _ _ (eq-eqb _ 0 z) ∙ picks _ _ _ (eq-eqb _ sent_size n)

module _ (y : BuiltSuo) (z : y.refusal ≡ 0) where
  pub suo_left : (text : List ℕ) → suo_text_after text y ≡ y.batch.suo
  unfolding suo_text_after
  suo_left text = picks _ _ _ (eq-eqb _ 0 z)

-- ---- what was given

-- a message, or 11
message_given : (t : Bool) (x : BuiltMessage) → (pick t x no_message).refusal ≡ 0 → t ≡ true
unfolding pick no_message message_by
message_given true x z = refl
message_given false x z = absurd (omega (arith, z))

suo_given_lem : (t : Bool) (x y : BuiltSuo) → y.refusal ≡ 11 → (pick t x y).refusal ≡ 0 → t ≡ true
unfolding pick
suo_given_lem true x y e z = refl
suo_given_lem false x y e z = absurd (omega (arith, z, e))

pub record EsiServed (held software stamp : List ℕ) (request : ℕ) (sent : List ℕ) (x : BuiltMessage) : Type 0 where
  pub desk : is_held held ≡ true
  pub sixteen : length software ≡ 16
  pub fifteen : length stamp ≡ 15
  pub room : length sent ≡ sent_size
  pub gives : x ≡ esi_building (held_in held) software stamp request

pub esi_served : (held software stamp : List ℕ) (request : ℕ) (text sent : List ℕ) (x : BuiltMessage)
    → x ≡ esi_built_by held software stamp request text sent → x.refusal ≡ 0 → EsiServed held software stamp request sent x
unfolding esi_built_by esi_given
esi_served held software stamp request text sent x e z =
    let t = message_given _ _ (ap (λ (y : BuiltMessage). y.refusal) (sym e) ∙ z) in
    let t₁ = right _ _ t in
    let t₂ = right _ _ t₁ in
    record {
      desk = left _ _ t;
      sixteen = eqb-true _ 16 (left _ _ t₁);
      fifteen = eqb-true _ 15 (left _ _ t₂);
      room = eqb-true _ sent_size (right _ _ (right _ _ (right _ _ t₂)));
      gives = e ∙ picks _ _ _ t;
    }

pub record VarServed (batch : List ℕ) (request : ℕ) (sent : List ℕ) (x : BuiltMessage) : Type 0 where
  pub room : length sent ≡ sent_size
  pub gives : x ≡ var_building (batch_in batch) request

pub var_served : (batch : List ℕ) (request : ℕ) (text sent : List ℕ) (x : BuiltMessage) → x ≡ var_built_by batch request text sent
    → x.refusal ≡ 0 → VarServed batch request sent x
unfolding var_built_by var_given
var_served batch request text sent x e z =
    let t = message_given _ _ (ap (λ (y : BuiltMessage). y.refusal) (sym e) ∙ z) in
    record { room = eqb-true _ sent_size (right _ _ (right _ _ (right _ _ t))); gives = e ∙ picks _ _ _ t }

pub record SuoServed (held maker : List ℕ) (clock : ℕ) (g : Given) (y : BuiltSuo) : Type 0 where
  pub desk : is_held held ≡ true
  pub sized : Sized g
  pub gives : y ≡ suo_building (held_in held) (maker_in maker) clock g

pub suo_served : (held maker : List ℕ) (clock : ℕ) (g : Given) (text batch : List ℕ) (y : BuiltSuo)
    → y ≡ suo_built_by held maker clock g text batch → y.refusal ≡ 0 → SuoServed held maker clock g y
unfolding suo_built_by suo_given
suo_served held maker clock g text batch y e z =
    let t = suo_given_lem _ _ _ refl (ap (λ (x : BuiltSuo). x.refusal) (sym e) ∙ z) in
    let t₂ = right _ _ (right _ _ t) in
    let t₃ = right _ _ t₂ in
    let t₄ = right _ _ t₃ in
    record {
      desk = left _ _ t;
      sized = record { software = eqb-true _ 16 (left _ _ t₂); method = eqb-true _ 3 (left _ _ t₃); stamp = eqb-true _ 15 (left _ _ t₄) };
      gives = e ∙ picks _ _ _ t;
    }

-- ---- a reply is checked by what was left

module _ (held sent : List ℕ) (s : Sent) (is : is_held held ≡ true) (fits : SentFits s) (e : sent ≡ sent_bytes s) where
  answers_0 : (word : List ℕ) → length word ≡ 3 → (x : Checked) → x.finding ≡ Ok tt → check_answer (is_served held sent word) x ≡ 0
  unfolding check_answer is_served finding_code
  answers_0 word n x p =
      picks _ _ _ (join _ _ is (join _ _ (eq-eqb _ sent_size (ap length e ∙ sent_size_fact s fits)) (eq-eqb _ 3 n))) ∙ ap finding_code p

  said : sent_in sent ≡ s
  said = ap sent_in e ∙ sent_back s fits

  pub esi_passes : (reply : List ℕ) → (esi_checked (held_in held) s reply).finding ≡ Ok tt → EsiPassesBy held sent reply
  unfolding esi_by
  esi_passes reply p word n =
      answers_0 word n _ (ap (λ (x : Sent). (esi_checked (held_in held) x reply).finding) said ∙ p)

  pub pte_passes : (reply : List ℕ) → (pte_checked (held_in held) s reply).finding ≡ Ok tt → PtePassesBy held sent reply
  unfolding pte_by
  pte_passes reply p word n =
      answers_0 word n _ (ap (λ (x : Sent). (pte_checked (held_in held) x reply).finding) said ∙ p)

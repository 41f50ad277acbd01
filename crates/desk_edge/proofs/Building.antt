-- A call that is not given what it asks leaves all as it was; one that is, hands over what was built, and leaves the rest where that was
-- refused.
-- Assumes nothing.
use Prim.Native.Nat.{ℕ, ◌<◌}
use mathlib.Core.Path.{◌≡◌, refl, sym, ap, ◌∙◌}
use mathlib.Core.Bool.{Bool, true, false}
use mathlib.Core.List.{List, [], ◌∷◌}
use native.Mathlib.Omega.{arith}
use borrow.Author.Tests.{eq-eqb, eqb-true, ltb-true}
use lib.Dec.{eqb}
use lib.ListN.{length, replicate}
use Rattle.ground.specs.Choice.{both, pick}
use Rattle.ground.specs.Lists.{overlay}
use Rattle.ground.proofs.Choices.{left, right, picks, skips}
use Rattle.keys.specs.declared.KeyMaker.{KeyMaker}
use Rattle.edge.specs.Edge.{fixed}
use Rattle.edge.proofs.Made.{fixed_copied}
use Rattle.desk.specs.declared.Held.{Held}
use Rattle.desk_bytes.specs.Layout.{sent_size}
use Rattle.desk_bytes.specs.Bytes.{is_held, held_in}
use Rattle.build.specs.Building.{message_by, esi_building, suo_building, suo_refusal, maker_after, var_building, no_batch}
use Rattle.build.specs.declared.Given.{Given}
use Rattle.build.specs.declared.BuiltMessage.{BuiltMessage}
use Rattle.build.specs.declared.BuiltSuo.{BuiltSuo}
use Rattle.build.specs.declared.MadeSuo.{MadeSuo}
use Rattle.build_bytes.specs.Layout.{batch_size}
use Rattle.build_bytes.specs.Bytes.{is_batch, batch_in}
use Rattle.desk_edge.specs.Builder.{is_character, no_message, text_after, sent_after, MeetsBuilding, esi_given, esi_built_by, var_given, var_built_by}
use Rattle.desk_edge.specs.Builder.{maker_in, maker_to, given_of, suo_given, suo_built_by, suo_text_after, batch_after, maker_later}

-- ---- a text of its field's length

pub fixed_is : (n : ℕ) (l : List ℕ) → length l ≡ n → fixed n l ≡ l
unfolding fixed
fixed_is n l e = picks _ l (replicate n 0) (eq-eqb _ _ e)

-- written over a room of its length
pub copied : (n : ℕ) (l d : List ℕ) → length l ≡ n → length d ≡ n → overlay l d ≡ l
copied n l d e f = fixed_copied n l d e f ∙ fixed_is n l e

-- ---- an ESI or a VAR

module _ (request : ℕ) (text sent : List ℕ) where
  -- the tests as the function makes them
  abbrev pub room_tests : Bool
  room_tests = both (is_character request) (both (eqb (length text) 161) (eqb (length sent) sent_size))

  pub is_character_lem : room_tests ≡ true → request < 256
  is_character_lem e = ltb-true request 256 (left _ _ e)

  pub text_room : room_tests ≡ true → length text ≡ 161
  text_room e = eqb-true (length text) 161 (left _ _ (right (is_character request) _ e))

module _ (text sent : List ℕ) (given : Bool) (x : BuiltMessage) where
  unserved : given ≡ false → MeetsBuilding text sent (pick given x no_message) 11 text sent
  unfolding no_message message_by text_after sent_after
  unserved g =
      let e = sym (skips given x no_message g) in
      record {
        answers = ap (λ (y : BuiltMessage). y.refusal) e;
        writes = sym (skips (eqb 11 0) _ text refl) ∙ ap (text_after text) e;
        keeps = sym (skips (eqb 11 0) _ sent refl) ∙ ap (sent_after sent) e;
      }

  served : given ≡ true → (y : BuiltMessage) → y ≡ x → {r : ℕ} {t s : List ℕ} → r ≡ y.refusal → t ≡ text_after text y
      → s ≡ sent_after sent y → MeetsBuilding text sent (pick given x no_message) r t s
  served g y f a b c =
      let e = f ∙ sym (picks given x no_message g) in
      record { answers = a ∙ ap (λ (z : BuiltMessage). z.refusal) e; writes = b ∙ ap (text_after text) e; keeps = c ∙ ap (sent_after sent) e }

module _ (held software stamp : List ℕ) (request : ℕ) (text sent : List ℕ) where
  abbrev pub esi_tests : Bool
  esi_tests = both (is_held held) (both (eqb (length software) 16) (both (eqb (length stamp) 15) (room_tests request text sent)))

  pub esi_room : esi_tests ≡ true → room_tests request text sent ≡ true
  esi_room e = right (eqb (length stamp) 15) _ (right (eqb (length software) 16) _ (right (is_held held) _ e))

  pub esi_refused : esi_tests ≡ false → MeetsBuilding text sent (esi_built_by held software stamp request text sent) 11 text sent
  unfolding esi_built_by esi_given
  esi_refused e = unserved text sent esi_tests (esi_building (held_in held) software stamp request) e

  pub esi_served : esi_tests ≡ true → (x : BuiltMessage) {h : Held} {a b : List ℕ} → x ≡ esi_building h a b request → h ≡ held_in held
      → a ≡ fixed 16 software → b ≡ fixed 15 stamp → {r : ℕ} {t s : List ℕ} → r ≡ x.refusal → t ≡ text_after text x → s ≡ sent_after sent x
      → MeetsBuilding text sent (esi_built_by held software stamp request text sent) r t s
  unfolding esi_built_by esi_given
  esi_served e x f k p q =
      let m = right (is_held held) _ e in
      let o = p ∙ fixed_is 16 software (eqb-true (length software) 16 (left _ _ m)) in
      let n = q ∙ fixed_is 15 stamp (eqb-true (length stamp) 15 (left _ _ (right (eqb (length software) 16) _ m))) in
      served text sent esi_tests (esi_building (held_in held) software stamp request) e x (f ∙ (λ i. esi_building (k i) (o i) (n i) request))

module _ (batch : List ℕ) (request : ℕ) (text sent : List ℕ) where
  abbrev pub var_tests : Bool
  var_tests = both (is_batch batch) (room_tests request text sent)

  pub var_room : var_tests ≡ true → room_tests request text sent ≡ true
  var_room e = right (is_batch batch) _ e

  pub var_refused : var_tests ≡ false → MeetsBuilding text sent (var_built_by batch request text sent) 11 text sent
  unfolding var_built_by var_given
  var_refused e = unserved text sent var_tests (var_building (batch_in batch) request) e

  pub var_served : var_tests ≡ true → (x : BuiltMessage) → x ≡ var_building (batch_in batch) request → {r : ℕ} {t s : List ℕ}
      → r ≡ x.refusal → t ≡ text_after text x → s ≡ sent_after sent x
      → MeetsBuilding text sent (var_built_by batch request text sent) r t s
  unfolding var_built_by var_given
  var_served e x f = served text sent var_tests (var_building (batch_in batch) request) e x f

-- ---- a SUO

-- the maker's two numbers
two : (l : List ℕ) → length l ≡ 2 → l ≡ maker_to (maker_in l)
unfolding maker_in
two (x ∷ y ∷ []) e = refl
two [] e = absurd (omega arith)
two (x ∷ []) e = absurd (omega arith)
two (x ∷ y ∷ z ∷ l) e = absurd (omega arith)

-- where the maker stays, so do its numbers
stays_lent : (t : Bool) (m : KeyMaker) (l : List ℕ) → length l ≡ 2 → pick t (maker_to (pick t m (maker_in l))) l
    ≡ maker_to (pick t m (maker_in l))
unfolding pick
stays_lent true m l e = refl
stays_lent false m l e = two l e

module _ (held maker : List ℕ) (clock : ℕ) (software method stamp : List ℕ) (area : ℕ) (text batch : List ℕ) where
  abbrev given : Given
  given = given_of software method stamp area

  abbrev pub suo_tests : Bool
  suo_tests =
      both (is_held held)
      (both (eqb (length maker) 2)
      (both (eqb (length software) 16)
      (both (eqb (length method) 3)
      (both (eqb (length stamp) 15)
      (both (is_character area) (both (eqb (length text) 128) (eqb (length batch) batch_size)))))))

  pub record SuoLengths : Type 0 where
    pub numbers : length maker ≡ 2
    pub software_is : length software ≡ 16
    pub method_is : length method ≡ 3
    pub stamp_is : length stamp ≡ 15
    pub character : area < 256
    pub room : length text ≡ 128
    pub bytes : length batch ≡ batch_size

  pub suo_lengths : suo_tests ≡ true → SuoLengths
  suo_lengths e =
      let a = right (is_held held) _ e in
      let b = right (eqb (length maker) 2) _ a in
      let c = right (eqb (length software) 16) _ b in
      let d = right (eqb (length method) 3) _ c in
      let f = right (eqb (length stamp) 15) _ d in
      let l = right (is_character area) _ f in
      record {
        numbers = eqb-true (length maker) 2 (left _ _ a);
        software_is = eqb-true (length software) 16 (left _ _ b);
        method_is = eqb-true (length method) 3 (left _ _ c);
        stamp_is = eqb-true (length stamp) 15 (left _ _ d);
        character = ltb-true area 256 (left _ _ f);
        room = eqb-true (length text) 128 (left _ _ l);
        bytes = eqb-true (length batch) batch_size (right (eqb (length text) 128) _ l);
      }

  abbrev whole : BuiltSuo
  whole = suo_built_by held maker clock given text batch

  abbrev pub SuoMeets : (r : ℕ) (t b k : List ℕ) → Type 0
  SuoMeets r t b k =
      (r ≡ whole.refusal)
      × ((t ≡ suo_text_after text whole) × ((b ≡ batch_after batch whole) × (k ≡ maker_later held maker clock given text batch)))

  pub suo_refused : suo_tests ≡ false → SuoMeets 11 text batch maker
  unfolding suo_built_by suo_given suo_text_after batch_after maker_later
  suo_refused g =
      let e = sym (skips suo_tests (suo_building (held_in held) (maker_in maker) clock given) (record { refusal = 11; batch = no_batch }) g) in (
        ap (λ (y : BuiltSuo). y.refusal) e,
        (
          sym (skips (eqb 11 0) _ text refl) ∙ ap (suo_text_after text) e,
          (sym (skips (eqb 11 0) _ batch refl) ∙ ap (batch_after batch) e, sym (skips suo_tests _ maker g)),
        ),
      )

  abbrev pub made_by : Held → KeyMaker → Given → MadeSuo
  made_by h m g = record { built = suo_building h m clock g; maker = maker_after h m clock g }

  moves : suo_tests ≡ true → (k : List ℕ)
      → k ≡ pick (eqb (suo_building (held_in held) (maker_in maker) clock given).refusal 0)
      (maker_to (maker_after (held_in held) (maker_in maker) clock given)) maker
      → k ≡ maker_later held maker clock given text batch
  unfolding suo_building maker_after maker_later suo_given
  moves g k e =
      e
      ∙ stays_lent (eqb (suo_refusal (held_in held) (maker_in maker) clock given) 0) _ maker (suo_lengths g).numbers
      ∙ sym (picks suo_tests _ maker g)

  pub suo_served : suo_tests ≡ true → (m : MadeSuo) {h : Held} {n : KeyMaker} {a b d : List ℕ} → m ≡ made_by h n (given_of a b d area)
      → h ≡ held_in held → n ≡ maker_in maker → a ≡ fixed 16 software → b ≡ fixed 3 method → d ≡ fixed 15 stamp → {r : ℕ} {t o k : List ℕ}
      → r ≡ m.built.refusal → t ≡ suo_text_after text m.built → o ≡ batch_after batch m.built
      → k ≡ pick (eqb m.built.refusal 0) (maker_to m.maker) maker → SuoMeets r t o k
  unfolding suo_built_by suo_given
  suo_served g m f p q u v w {k = k} answer writes keeps moved =
      let z = suo_lengths g in
      let sw = u ∙ fixed_is 16 software z.software_is in
      let me = v ∙ fixed_is 3 method z.method_is in
      let st = w ∙ fixed_is 15 stamp z.stamp_is in
      let e : m ≡ made_by (held_in held) (maker_in maker) given = f ∙ (λ i. made_by (p i) (q i) (given_of (sw i) (me i) (st i) area)) in
      let x = ap (λ (y : MadeSuo). y.built) e
      ∙ sym (picks suo_tests (suo_building (held_in held) (maker_in maker) clock given) (record { refusal = 11; batch = no_batch }) g) in (
        answer ∙ ap (λ (y : BuiltSuo). y.refusal) x,
        (
          writes ∙ ap (suo_text_after text) x,
          (
            keeps ∙ ap (batch_after batch) x,
            moves g k (moved ∙ ap (λ (y : MadeSuo). pick (eqb y.built.refusal 0) (maker_to y.maker) maker) e),
          ),
        ),
      )

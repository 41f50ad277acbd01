-- What a call hands back, by what its parts give: the number of the refusal decides between the message and zeros.
-- Assumes nothing.
use Rattle.std.specs.Prelude.{Result}
use Prim.Native.Nat.{ℕ}
use mathlib.Core.Path.{◌≡◌, sym, ap, ◌∙◌}
use mathlib.Core.Bool.{Bool, true, false}
use mathlib.Core.List.{List, [], ◌∷◌}
use borrow.Author.Tests.{eq-eqb, ne_eqb}
use lib.Dec.{eqb}
use lib.ListN.{length, replicate}
use Rattle.ground.specs.Choice.{fails}
use Rattle.ground.proofs.Choices.{picks, skips}
use Rattle.keys.specs.Maker.{made_of}
use Rattle.keys.specs.declared.KeyMaker.{KeyMaker}
use Rattle.keys.specs.declared.Made.{Made}
use Rattle.digest.specs.Running.{begun}
use Rattle.digest.specs.declared.State.{State}
use Rattle.message.specs.Layout.{layout_length}
use Rattle.message.specs.Order.{first_failing}
use Rattle.message.specs.Rules.{form_of, form_checks}
use Rattle.message.specs.declared.Kind.{Kind}
use Rattle.message.specs.declared.Kind.TheVariants.{Suo}
use Rattle.message.specs.declared.Extent.TheVariants.{Whole}
use Rattle.message.specs.declared.About.TheVariants.{Answered}
use Rattle.message.specs.declared.Fault.{Fault}
use Rattle.verdict.specs.Outcomes.{is_sound}
use Rattle.refusals.specs.Refusals.{Refusal, refusal, lowest}
use Rattle.whole_file.specs.Messages.{known_text}
use Rattle.desk.specs.Sent.{sent_by}
use Rattle.desk.specs.declared.Held.{Held}
use Rattle.desk.specs.declared.Sent.{Sent}
use Rattle.desk_bytes.specs.Bytes.{nothing_sent}
use Rattle.build.specs.Messages.{suo_built}
use Rattle.build.specs.Building.{breaks_rules, other_generation, building_refusals, message_by, no_batch, suo_made, suo_refusal, suo_building, maker_after}
use Rattle.build.specs.declared.Given.{Given}
use Rattle.build.specs.declared.Batch.{Batch}
use Rattle.build.specs.declared.BuiltMessage.{BuiltMessage}
use Rattle.build.specs.declared.MadeSuo.{MadeSuo}
use Rattle.build.proofs.Known.{known_whole}

-- ---- what the base finds

pub rules_broken : (k : Kind) (known m : List ℕ) {f : Result Unit Fault} {r : Bool}
    → f ≡ first_failing (form_checks (form_of k) Answered (record { extent = Whole; blank = true; text = known })) → r ≡ fails (is_sound f)
    → known ≡ known_text k m → r ≡ breaks_rules k m
unfolding breaks_rules
rules_broken k known m p q e =
    q
    ∙ ap (λ (f : Result Unit Fault). fails (is_sound f)) p
    ∙ ap (λ (t : List ℕ). fails (is_sound (first_failing
    (form_checks (form_of k) Answered (record { extent = Whole; blank = true; text = t }))))) e

-- the number of the refusal of an ESI or a SUO
abbrev pub refused_by : Held → (broken : Bool) → ℕ
refused_by h broken = lowest (refusal 11 (other_generation h) ∷ refusal 13 broken ∷ [])

-- ---- a message or zeros

module _ (n : ℕ) (text : List ℕ) (sent : Sent) where
  pub message_refused : (none : Sent) → (n ≡ 0 → ⊥) → none ≡ nothing_sent
      → record { refusal = n; text = replicate 161 0; sent = none } ≡ message_by n text sent
  unfolding message_by
  message_refused none h e =
      let t = sym (skips (eqb n 0) text (replicate 161 0) (ne_eqb n 0 h)) in
      let s = e ∙ sym (skips (eqb n 0) sent nothing_sent (ne_eqb n 0 h)) in
      λ i. record { refusal = n; text = t i; sent = s i }

  pub message_served : n ≡ 0 → record { refusal = n; text = text; sent = sent } ≡ message_by n text sent
  unfolding message_by
  message_served h =
      let t = sym (picks (eqb n 0) text (replicate 161 0) (eq-eqb n 0 h)) in
      let s = sym (picks (eqb n 0) sent nothing_sent (eq-eqb n 0 h)) in
      λ i. record { refusal = n; text = t i; sent = s i }

-- an ESI or a VAR; `opens` is the message that it closes, or itself
pub built : (kind : Kind) (opens : List ℕ → List ℕ) (rs : List ℕ → List Refusal) (text m : List ℕ) (n : ℕ) (sent : Sent) (r : BuiltMessage)
    → layout_length kind ≡ 161 → length text ≡ 161 → text ≡ m → ((x : List ℕ) → text ≡ known_text kind x → n ≡ lowest (rs x))
    → sent ≡ sent_by (opens text) text → r ≡ message_by n text sent → r ≡ message_by (lowest (rs m)) m (sent_by (opens m) m)
built kind opens rs text m n sent r k l e f s q =
    let p = f text (known_whole kind text k l) in
    q ∙ (λ i. message_by (p i) text (s i)) ∙ ap (λ (x : List ℕ). message_by (lowest (rs x)) x (sent_by (opens x) x)) e

-- ---- a SUO

module _ (h : Held) (maker : KeyMaker) (clock : ℕ) (g : Given) (made : Made) (suo : List ℕ) (broken : Bool) (n : ℕ) (e : made ≡ made_of maker clock)
    (f : suo ≡ suo_built h g.software g.method g.stamp g.area made.made) (k : broken ≡ breaks_rules Suo suo)
    (q : n ≡ refused_by h broken) where
  suo_is : suo ≡ suo_made h maker clock g
  unfolding suo_made
  suo_is = f ∙ ap (λ (x : Made). suo_built h g.software g.method g.stamp g.area x.made) e

  refusal_is : n ≡ suo_refusal h maker clock g
  unfolding suo_refusal building_refusals
  refusal_is = q ∙ ap (refused_by h) (k ∙ ap (breaks_rules Suo) suo_is)

  pub suo_refused : (n ≡ 0 → ⊥) → (b : Batch) → b ≡ no_batch
      → ◌≡◌ {A = MadeSuo} (record { built = record { refusal = n; batch = b }; maker = maker })
      (record { built = suo_building h maker clock g; maker = maker_after h maker clock g })
  unfolding suo_building maker_after
  suo_refused z b eb =
      let r = refusal_is in
      let t : eqb (suo_refusal h maker clock g) 0 ≡ false = ap (λ (x : ℕ). eqb x 0) (sym r) ∙ ne_eqb n 0 z in
      let batch = eb ∙ sym (skips _ _ no_batch t) in
      let stays = sym (skips _ (made_of maker clock).maker maker t) in
      λ i. record { built = record { refusal = r i; batch = batch i }; maker = stays i }

  abbrev opened : List ℕ → (once : ℕ) → State → Batch
  opened suo once state = record { suo = suo; once = once; working = h.working.key; state = state }

  pub suo_served : n ≡ 0 → (s : State) → s ≡ begun
      → ◌≡◌ {A = MadeSuo} (record { built = record { refusal = n; batch = opened suo made.made s }; maker = made.maker })
      (record { built = suo_building h maker clock g; maker = maker_after h maker clock g })
  unfolding suo_building maker_after
  suo_served z s es =
      let r = refusal_is in
      let t : eqb (suo_refusal h maker clock g) 0 ≡ true = ap (λ (x : ℕ). eqb x 0) (sym r) ∙ eq-eqb n 0 z in
      let m = suo_is in
      let batch = (λ i. opened (m i) (e i).made (es i)) ∙ sym (picks _ _ no_batch t) in
      let moves = ap (λ (x : Made). x.maker) e ∙ sym (picks _ (made_of maker clock).maker maker t) in
      λ i. record { built = record { refusal = r i; batch = batch i }; maker = moves i }

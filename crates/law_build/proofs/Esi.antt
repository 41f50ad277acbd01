-- An ESI that is built is the first record of its file, whole, and no check of it fails; the reply passes a desk with the same keys.
-- Assumes nothing.
use Rattle.std.specs.Prelude.{Ok}
use mathlib.Core.Path.{◌≡◌, refl, sym, ap, ◌∙◌, subst}
use mathlib.Core.Bool.{true}
use mathlib.Core.Logic.{inl}
use mathlib.Core.List.{List}
use Prim.Native.Nat.{ℕ}
use Rattle.ground.specs.Choice.{both}
use Rattle.ground.specs.Lists.{same}
use Rattle.ground.proofs.Choices.{picks}
use Rattle.text.specs.Letters.{letters}
use Rattle.calendar.specs.declared.Date.{Date}
use Rattle.customer.specs.declared.Customer.{Customer}
use Rattle.table.specs.Table.{Table, sound_table}
use Rattle.message.specs.Layout.{total, layout, layout_length}
use Rattle.message.specs.Order.{first_failing}
use Rattle.message.specs.Rules.{form_of, form_checks}
use Rattle.message.specs.declared.Kind.TheVariants.{Esi}
use Rattle.message.specs.declared.About.TheVariants.{Answered}
use Rattle.message.specs.declared.Collected.{Collected}
use Rattle.message.proofs.Order.{NoneFails, accepted}
use Rattle.checks.specs.Checks.{party_checks, stamp_checks, esi_key_checks, esi_checks}
use Rattle.checks.proofs.Parts.{esi_parts, esi_parts_lem}
use Rattle.opening.specs.declared.Opening.{Opening}
use Rattle.whole_file.specs.Messages.{begins}
use Rattle.whole_file.specs.WholeFile.{Standing, before_esi, esi_ends, esi_goes_on, esi_starts, first_record, record_in}
use Rattle.desk.specs.declared.Held.{Held}
use Rattle.law_desk.proofs.Form.{none_join}
use Rattle.law_desk.proofs.Ends.{esi_ends_pass}
use Rattle.law_demands.proofs.Accepted.{esi_judged}
use Rattle.build.specs.Messages.{tag_of, esi_front, esi_built}
use Rattle.law_build.specs.Premises.{customer_of, MaySend}
use Rattle.law_build.proofs.ByValue.{Accepts, EsiFinds, EsiByValue}
use Rattle.law_build.proofs.Fields.{Sized, esi_states, esi_front-length, esi_says_lem, esi_sum}
use Rattle.law_build.proofs.Taken.{collected, whole, whole_is, taken_whole, begins_as, Well}
use Rattle.law_build.proofs.Checks.{sender_is, party_passes, stamp_passes, room_passes, esi_keys_pass, sum_passes, same_keys}
use Rattle.law_build.proofs.Accepts.{accepts_so, sized_by}
use Rattle.law_build.proofs.Handed.{esi-text, esi_well}

module _ (h : Held) (software stamp : List ℕ) (request : ℕ) (z : Sized h software (letters "SMH") stamp) where
  abbrev built : List ℕ
  built = esi_built h software stamp request

  esi_known : whole Esi built ≡ collected built
  unfolding layout_length layout total
  esi_known = whole_is Esi built (esi_states h software stamp request z) refl

  -- ---- no check of it fails

  module _ (t : Table) (today : Date) (sound : sound_table t ≡ true) (may : MaySend t today h stamp) (well : Well Esi h built) where
    parts_pass : NoneFails (esi_parts t (customer_of t h) today (collected built))
    unfolding esi_built
    parts_pass =
        let c = customer_of t h in
        let says = esi_says_lem h software stamp request z in
        let keys = esi_key_checks c built in
        none_join (form_checks (form_of Esi) Answered (collected built)) _
        (accepted _ (subst (λ (x : Collected). first_failing (form_checks (form_of Esi) Answered x) ≡ Ok tt) esi_known well.form))
        (none_join (party_checks t built) _ (party_passes t today h stamp built sound may says)
        (none_join (stamp_checks t c today built) _ (stamp_passes t today h stamp built sound may says)
        (none_join keys _
        (esi_keys_pass t today h stamp built sound may says well.transport well.working
        (sum_passes h.working.key request (esi_front h software stamp) built refl (esi_front-length h software stamp request z)
        (esi_sum h software stamp request z)))
        (room_passes t today h stamp built sound may says))))

    pub esi_passes : NoneFails (esi_checks t today (collected built))
    esi_passes =
        subst NoneFails
        (sym
        (esi_parts_lem t today (collected built)
        ∙ ap (λ (c : Customer). esi_parts t c today (collected built))
        (sender_is t today h stamp built sound may (esi_says_lem h software stamp request z))))
        parts_pass

  -- ---- it is taken whole

  tag_begins : begins ">>ESI" built ≡ true
  unfolding tag_of letters same both
  tag_begins = begins_as Esi built (esi_states h software stamp request z) ">>ESI"

  pub esi_taken : (o : Opening) (s : Standing) → record_in o s before_esi built ≡ esi_ends o s (collected built)
  unfolding record_in first_record esi_starts esi_goes_on layout_length layout total
  esi_taken o s =
      picks _ _ _ tag_begins
      ∙ taken_whole Esi built (esi_states h software stamp request z) _ _ (esi_ends o s)
      ∙ ap (esi_ends o s) esi_known

  -- ---- and is accepted

  pub esi_accepts : (o : Opening) (s : Standing) → sound_table s.table ≡ true → MaySend s.table o.today h stamp → Well Esi h built
      → Accepts (EsiFinds h built) (record_in o s before_esi built)
  unfolding layout_length layout total
  esi_accepts o s sound may well =
      let m = collected built in
      let long = (esi_states h software stamp request z).long in
      let keys = same_keys s.table o.today h stamp built sound may (esi_says_lem h software stamp request z) well.transport well.working in
      subst (Accepts (EsiFinds h built)) (sym (esi_taken o s))
      (accepts_so _ _ _ _ (esi_judged o s m) (esi_passes s.table o.today sound may well)
      (λ a p k. (esi_ends_pass o s m a h sound long p k (inl keys)).passes))

pub esi_by_value : EsiByValue
unfolding letters
esi_by_value o s h software stamp request sound n x served may =
    let z = sized_by s.table o.today h stamp sound may software (letters "SMH") n refl x in
    subst (λ (m : List ℕ). Accepts (EsiFinds h m) (record_in o s before_esi m)) (sym (esi-text h software stamp request served))
    (esi_accepts h software stamp request z o s sound may (esi_well h software stamp request served))

-- A SUO that is built opens a frame under the one-time key that was made; its VAR repeats it and carries the digest, so that no check fails.
-- Assumes nothing.
use Rattle.std.specs.Prelude.{Option, Some, Ok}
use mathlib.Core.Path.{◌≡◌, refl, sym, ap, ◌∙◌, subst}
use mathlib.Core.Bool.{true, false}
use mathlib.Core.Logic.{inl}
use mathlib.Core.List.{List, [], ◌∷◌}
use Prim.Native.Nat.{ℕ, ◌<◌, ◌^◌}
use lib.ListN.{length}
use Rattle.ground.specs.Choice.{both, either, fails}
use Rattle.ground.specs.Lists.{Each, member, same}
use Rattle.ground.proofs.Choices.{picks, eq-same}
use Rattle.ground.proofs.Bools.{not_failed, either_none, agree}
use Rattle.text.specs.Letters.{letters}
use Rattle.text.specs.Numbers.{hex}
use Rattle.text.proofs.Laws.{hex_back}
use Rattle.calendar.specs.declared.Date.{Date}
use Rattle.des.specs.Des.{enciphered, deciphered}
use Rattle.des.proofs.Inverse.{enciphered-lt, deciphered-enciphered}
use Rattle.keys.specs.Parity.{odd_parity}
use Rattle.keys.specs.Maker.{made_of}
use Rattle.keys.proofs.Laws.{made_odd, made_lt}
use Rattle.digest.specs.Kept.{is_empty, kept, digest_of}
use Rattle.digest.specs.declared.Method.{Method}
use Rattle.customer.specs.declared.Customer.{Customer}
use Rattle.changeover.specs.Held.{held_key}
use Rattle.table.specs.Table.{Table, place_of, sound_table}
use Rattle.table.proofs.Places.{known_at, named_at}
use Rattle.message.specs.Layout.{total, layout, layout_length}
use Rattle.message.specs.Order.{first_failing}
use Rattle.message.specs.Rules.{form_of, form_checks}
use Rattle.message.specs.Fields.{sender_of, date_of_stamp, method_of, transport_generation_of, once_field_of, digest_field_of}
use Rattle.message.specs.declared.Kind.TheVariants.{Suo, Var}
use Rattle.message.specs.declared.About.TheVariants.{Answered, Closing}
use Rattle.message.specs.declared.Collected.{Collected}
use Rattle.message.proofs.Order.{NoneFails, accepted}
use Rattle.checks.specs.Checks.{party_checks, stamp_checks, type_checks, pair_checks, key_checks, frame_checks}
use Rattle.checks.specs.Checks.{checksum_differs, digest_differs, is_missing, key_or0}
use Rattle.checks.specs.declared.Frame.{Frame}
use Rattle.checks.proofs.Parts.{frame_parts, frame_parts_lem}
use Rattle.verdict.specs.Outcomes.{is_sound}
use Rattle.opening.specs.declared.Opening.{Opening}
use Rattle.whole_file.proofs.Known.{known_length}
use Rattle.whole_file.specs.Messages.{known_text, one_time, transport_held, one_time_of, once_of}
use Rattle.whole_file.specs.WholeFile.{Opened, in_frame, Standing, Step, moved, silent, suo_ends, frame_of, var_ends, suo_goes_on, var_goes_on}
use Rattle.whole_file.specs.WholeFile.{suo_starts, var_starts, frame_record, record_in}
use Rattle.desk.specs.Desk.{pte_checked}
use Rattle.desk.specs.declared.Held.{Held}
use Rattle.desk.specs.declared.Sent.{Sent}
use Rattle.reply.specs.Reply.{reply_of}
use Rattle.law_desk.proofs.Form.{none_join}
use Rattle.law_desk.proofs.Ends.{var_ends_pass}
use Rattle.law_demands.proofs.Accepted.{frame_judged}
use Rattle.build.specs.Messages.{tag_of, suo_built, var_front, var_built}
use Rattle.build.specs.Building.{breaks_rules}
use Rattle.build.proofs.Known.{known_method, known_sent}
use Rattle.law_build.specs.Premises.{customer_of, MaySendBatch, IsData}
use Rattle.law_build.specs.Accepted.{MayStand}
use Rattle.law_build.proofs.ByValue.{Accepts, PteFinds, stands_after_records, suo_of, BatchByValue}
use Rattle.law_build.proofs.Fields.{Sized, Says, Repeats, receiver_same, sender_same, stamp_same, says_same, suo_states, suo_says_lem, suo_long_fact}
use Rattle.law_build.proofs.Fields.{suo_once, var_states, var_front-length, var_digest, var_sum, var_repeats, known_repeats}
use Rattle.law_build.proofs.Taken.{collected, whole, whole_is, taken_whole, begins_as, form_sound, form_about, Well}
use Rattle.law_build.proofs.Checks.{mac-lt, sum_passes, sender_is, party_passes, stamp_passes, room_passes, transport_good, working_good}
use Rattle.law_build.proofs.Checks.{transport_held_lem, working_held, same_keys}
use Rattle.law_build.proofs.Accepts.{accepts_so, sized_by}
use Rattle.law_build.proofs.Digest.{digest_is}
use Rattle.law_build.proofs.Handed.{suo_in, digest_in, var_in, suo-text, suo_well, var-text, var_well}
use Rattle.law_build.proofs.Frames.{suo_opens, stands_in, records_added}

-- ---- SUO and VAR agree

alike : (x y : List ℕ) → x ≡ y → fails (same x y) ≡ false
alike x y e = not_failed _ (eq-same x y e)

pairs_pass : (a b : List ℕ) → Repeats a b → NoneFails (pair_checks a b)
unfolding pair_checks member either
pairs_pass a b r = (
  alike _ _ (r 30 refl),
  (
    alike _ _ (receiver_same a b r),
    (
      alike _ _ (sender_same a b r),
      (
        alike _ _ (r 150 refl),
        (alike _ _ (r 100 refl), (alike _ _ (r 110 refl), (alike _ _ (r 130 refl), (alike _ _ (stamp_same a b r), tt)))),
      ),
    ),
  ),
)

-- ---- a SUO, the VAR that closes it, and the key and the digest between them

module _ (h : Held) (software method stamp : List ℕ) (area once digest request : ℕ) (z : Sized h software method stamp)
    (fits : once < 2 ^ 64) (less : digest < 2 ^ 64) where
  abbrev suo : List ℕ
  suo = suo_built h software method stamp area once

  abbrev suo_long : length suo ≡ 128
  suo_long = suo_long_fact h software method stamp area once z

  -- as it is known
  abbrev suo_text : List ℕ
  suo_text = known_text Suo suo

  abbrev var : List ℕ
  var = var_built suo h.working.key digest request

  suo_says : Says h stamp suo_text
  suo_says = says_same suo_text suo (known_repeats suo suo_long) h stamp (suo_says_lem h software method stamp area once z)

  var_known : whole Var var ≡ collected var
  unfolding layout_length layout total
  var_known = whole_is Var var (var_states suo h.working.key digest request suo_long) refl

  -- ---- no check fails

  module _ (t : Table) (today : Date) (kind : ℕ) (sound : sound_table t ≡ true) (may : MaySendBatch t today kind h stamp once)
      (odd : odd_parity once ≡ true) (well : Well Suo h suo) (form : breaks_rules Var var ≡ false) where
    abbrev frame : Frame
    frame = record { suo = whole Suo suo; var = collected var; once = Some once; digest = Some digest }

    keys_pass : NoneFails (key_checks t (customer_of t h) today frame)
    unfolding key_checks is_missing key_or0 digest_differs digest_field_of var_built
    keys_pass =
        let m = may.message in
        let g = well.transport in
        let w = well.working in
        let d = date_of_stamp suo_text in
        let sum =
        sum_passes h.working.key request (var_front suo digest) var refl (var_front-length suo h.working.key digest request suo_long)
        (var_sum suo h.working.key digest request suo_long) in (
          either_none false _ refl (not_failed _ (transport_good t today h stamp suo_text sound m suo_says g w d)),
          (
            not_failed _ (working_good t today h stamp suo_text sound m suo_says g w d),
            (
              may.not_used,
              (
                not_failed _ odd,
                (
                  agree _ _ (sym (ap hex (var_digest suo h.working.key digest request suo_long) ∙ hex_back 16 digest less)),
                  (ap (λ (x : Option ℕ). checksum_differs x var) (working_held t today h stamp suo_text sound m suo_says g w) ∙ sum, tt),
                ),
              ),
            ),
          ),
        )

    type_passes : NoneFails (type_checks (customer_of t h) kind)
    unfolding type_checks
    type_passes = (not_failed _ may.allowed, tt)

    parts_pass : NoneFails (frame_parts t (customer_of t h) today kind frame)
    parts_pass =
        let c = customer_of t h in
        let m = may.message in
        none_join (form_checks (form_of Suo) Answered (whole Suo suo)) _ (accepted _ well.form)
        (none_join (form_checks (form_of Var) Closing (collected var)) _
        (form_about (form_of Var) Answered Closing (collected var)
        (accepted _ (subst (λ (x : Collected). first_failing (form_checks (form_of Var) Answered x) ≡ Ok tt) var_known (form_sound Var var form))))
        (none_join (party_checks t suo_text) _ (party_passes t today h stamp suo_text sound m suo_says)
        (none_join (type_checks c kind) _ type_passes
        (none_join (pair_checks suo_text var) _
        (pairs_pass suo_text var
        (λ i e. known_repeats suo suo_long i e ∙ var_repeats suo h.working.key digest request suo_long i e))
        (none_join (stamp_checks t c today suo_text) _ (stamp_passes t today h stamp suo_text sound m suo_says)
        (none_join (key_checks t c today frame) _ keys_pass (room_passes t today h stamp suo_text sound m suo_says)))))))

    pub frame_passes : NoneFails (frame_checks t today kind frame)
    frame_passes =
        subst NoneFails
        (sym
        (frame_parts_lem t today kind frame
        ∙ ap (λ (c : Customer). frame_parts t c today kind frame) (sender_is t today h stamp suo_text sound may.message suo_says)))
        parts_pass

    -- ---- the one-time key is read as it was made

    held_here : transport_held t (place_of t (sender_of suo_text)) suo_text ≡ Some h.transport.key
    unfolding transport_held
    held_here =
        let m = may.message in
        let p = known_at (place_of t h.own) m.known in
        ap (λ (f : Option ℕ). transport_held t f suo_text) (ap (place_of t) suo_says.sender ∙ p.1)
        ∙ ap (λ (c : Customer). held_key c.transport (transport_generation_of suo_text)) (sym (named_at t h.own p.0 p.1))
        ∙ transport_held_lem t today h stamp suo_text sound m suo_says well.transport well.working

    once_read : once_field_of suo_text ≡ enciphered h.transport.key once
    unfolding once_field_of member either
    once_read =
        ap hex (known_repeats suo suo_long 150 refl ∙ suo_once h software method stamp area once z)
        ∙ hex_back 16 _ (enciphered-lt h.transport.key once)

    pub once_is : once_of t (whole Suo suo) ≡ Some once
    unfolding once_of one_time_of one_time is_sound
    once_is =
        picks _ _ _ (ap is_sound well.form)
        ∙ ap (λ (k : Option ℕ). one_time k suo_text) held_here
        ∙ ap (λ (x : ℕ). Some (deciphered h.transport.key x)) once_read
        ∙ ap Some (deciphered-enciphered h.transport.key once fits)

  -- ---- the records of the file

  var_taken : (o : Opening) (s : Standing) (f : Opened) → record_in o s (in_frame f) var ≡ var_ends o s f (collected var)
  unfolding record_in frame_record var_starts var_goes_on tag_of letters same both
  var_taken o s f =
      let st = var_states suo h.working.key digest request suo_long in
      picks _ _ _ (begins_as Var var st ">>VAR") ∙ taken_whole Var var st _ _ (var_ends o s f) ∙ ap (var_ends o s f) var_known

  module _ (o : Opening) (s : Standing) (sound : sound_table s.table ≡ true) (stand : MayStand s.situation)
      (may : MaySendBatch s.table o.today o.kind h stamp once) (odd : odd_parity once ≡ true) (well : Well Suo h suo)
      (form : breaks_rules Var var ≡ false) where
    abbrev framed : List (List ℕ) → Opened
    framed records = record { suo = whole Suo suo; once = Some once; records = records }

    suo_standing : (record_in o s s.situation suo).after ≡ stands_in s (framed [])
    unfolding suo_starts suo_goes_on suo_ends silent tag_of letters same both
    suo_standing =
        let st = suo_states h software method stamp area once z in
        suo_opens o s suo (begins_as Suo suo st ">>SUO") (begins_as Suo suo st ">>VAR") s.situation stand
        ∙ ap (λ (x : Step). x.after) (taken_whole Suo suo st _ _ (suo_ends s))
        ∙ ap (λ (k : Option ℕ). stands_in s (record { suo = whole Suo suo; once = k; records = [] }))
        (once_is s.table o.today o.kind sound may odd well form)

    module _ (records : List (List ℕ)) (is : digest_of (enciphered once) (method_of suo) records ≡ Some digest) where
      abbrev judged : Frame
      judged = frame s.table o.today o.kind sound may odd well form

      frame_is : frame_of (framed records) (collected var) ≡ judged
      unfolding frame_of key_or0
      frame_is =
          ap (λ (a : Option ℕ). record { suo = whole Suo suo; var = collected var; once = Some once; digest = a })
          (ap (λ (m : Method). digest_of (enciphered once) m records) (known_method suo suo_long) ∙ is)

      var_accepts : Accepts (PteFinds h suo var) (record_in o (stands_in s (framed records)) (stands_in s (framed records)).situation var)
      unfolding moved layout_length layout total
      var_accepts =
          let there = stands_in s (framed records) in
          let f = framed records in
          let keys = same_keys s.table o.today h stamp suo_text sound may.message suo_says well.transport well.working in
          let long = (var_states suo h.working.key digest request suo_long).long in
          subst (Accepts (PteFinds h suo var)) (sym (var_taken o there f))
          (accepts_so _ _ _ _ (frame_judged o there f (collected var))
          (subst (λ (x : Frame). NoneFails (frame_checks s.table o.today o.kind x)) (sym frame_is)
          (frame_passes s.table o.today o.kind sound may odd well form))
          (λ a p k. subst (λ (x : Sent). (pte_checked h x (reply_of a)).finding ≡ Ok tt) (known_sent suo suo_long var)
          (var_ends_pass o there f (collected var) a h sound (known_length Suo suo) long p k (inl keys)).passes))

      pub batch_accepts : Each IsData records → (there : Standing) → there ≡ stands_after_records o s (suo ∷ records)
          → Accepts (PteFinds h suo var) (record_in o there there.situation var)
      unfolding stands_after_records
      batch_accepts d there e =
          subst (λ (x : Standing). Accepts (PteFinds h suo var) (record_in o x x.situation var))
          (sym (e ∙ ap (λ (x : Standing). stands_after_records o x records) suo_standing ∙ records_added o s (framed []) records d))
          var_accepts

pub batch_by_value : BatchByValue
batch_by_value o s h maker clock g records request sound stand z built may each some few there e =
    let once = (made_of maker clock).made in
    let suo = suo_in h maker clock g in
    let var' = var_in h maker clock g records request in
    let is = suo-text h maker clock g built.suo in
    let left : is_empty (kept (method_of suo) records) ≡ false = ap (λ (y : List ℕ). is_empty (kept (method_of y) records)) (sym is) ∙ some in
    subst (λ (y : List ℕ). Accepts (PteFinds h (suo_of h maker clock g) y) (record_in o there there.situation y))
    (sym (var-text h maker clock g records request built left few))
    (subst (λ (y : List ℕ). Accepts (PteFinds h y var') (record_in o there there.situation var')) (sym is)
    (batch_accepts h g.software g.method g.stamp g.area once (digest_in h maker clock g records) request
    (sized_by s.table o.today h g.stamp sound may.message g.software g.method z.software z.method z.stamp)
    (made_lt maker clock) (mac-lt once _) o s sound stand may (made_odd maker clock) (suo_well h maker clock g built.suo)
    (var_well h maker clock g records request built left few) records (digest_is (enciphered once) (method_of suo) records left few) each there
    (e ∙ ap (λ (y : List ℕ). stands_after_records o s (y ∷ records)) is)))

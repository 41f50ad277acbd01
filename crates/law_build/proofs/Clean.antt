-- A call that is served found no fault in the form of what it built, which is as long as its layout; so that is a line of bytes.
-- Assumes nothing.
use Rattle.std.specs.Prelude.{Ok}
use Prim.Native.Nat.{ℕ}
use mathlib.Core.Path.{◌≡◌, refl, sym, ap, ◌∙◌, subst}
use mathlib.Core.Bool.{true}
use mathlib.Core.List.{List}
use lib.ListN.{length}
use Rattle.splices.proofs.Splice.{AllBytes}
use Rattle.text.specs.Letters.{letters}
use Rattle.calendar.specs.declared.Date.{Date}
use Rattle.keys.specs.Maker.{made_of}
use Rattle.keys.specs.declared.KeyMaker.{KeyMaker}
use Rattle.table.specs.Table.{Table, sound_table}
use Rattle.message.specs.Layout.{layout_length, layout, total}
use Rattle.message.specs.Order.{first_failing}
use Rattle.message.specs.Rules.{form_of, form_checks}
use Rattle.message.specs.declared.Kind.{Kind}
use Rattle.message.specs.declared.Kind.TheVariants.{Esi, Suo, Var}
use Rattle.message.specs.declared.About.TheVariants.{Answered}
use Rattle.desk.specs.declared.Held.{Held}
use Rattle.build.specs.Building.{esi_building, suo_building, var_made}
use Rattle.build.specs.declared.Given.{Given}
use Rattle.law_build.specs.Premises.{MaySend}
use Rattle.law_build.proofs.ByValue.{esi_of, suo_of, var_of, all_added, Sized, Built}
use Rattle.law_build.proofs.Fields.{esi_states, suo_states, var_states}
use Rattle.law_build.proofs.Taken.{whole, form_sound}
use Rattle.law_build.proofs.Accepts.{sized_by}
use Rattle.law_build.proofs.Handed.{esi-text, esi_well, suo-text, suo_well, var_made_lem, var_rules, all_suo}
use Rattle.law_build.proofs.Lines.{Plain}
use Rattle.law_build.proofs.Characters.{message_plain, message_bytes}

-- a message of n characters that is a line of bytes
pub record Clean (n : ℕ) (m : List ℕ) : Type 0 where
  pub long : length m ≡ n
  pub plain : Plain m
  pub bytes : AllBytes m

clean : (k : Kind) (m : List ℕ) → length m ≡ layout_length k → first_failing (form_checks (form_of k) Answered (whole k m)) ≡ Ok tt
    → Clean (layout_length k) m
clean k m l s = record { long = l; plain = message_plain k m l s; bytes = message_bytes k m l s }

-- an ESI
pub esi_clean : (t : Table) (today : Date) (h : Held) (software stamp : List ℕ) (request : ℕ) → sound_table t ≡ true → MaySend t today h stamp
    → length software ≡ 16 → length stamp ≡ 15 → (esi_building h software stamp request).refusal ≡ 0
    → Clean 161 (esi_of h software stamp request)
unfolding letters layout_length layout total
esi_clean t today h software stamp request sound may i j y =
    let z = sized_by t today h stamp sound may software (letters "SMH") i refl j in
    subst (Clean 161) (sym (esi-text h software stamp request y))
    (clean Esi _ (esi_states h software stamp request z).long (esi_well h software stamp request y).form)

-- a batch's two
module _ (t : Table) (today : Date) (h : Held) (maker : KeyMaker) (clock : ℕ) (g : Given) (records : List (List ℕ)) (request : ℕ)
    (sound : sound_table t ≡ true) (may : MaySend t today h g.stamp) (z : Sized g) (b : Built h maker clock g records request) where
  pub suo_clean : Clean 128 (suo_of h maker clock g)
  unfolding layout_length layout total
  suo_clean =
      let k = sized_by t today h g.stamp sound may g.software g.method z.software z.method z.stamp in
      subst (Clean 128) (sym (suo-text h maker clock g b.suo))
      (clean Suo _ (suo_states h g.software g.method g.stamp g.area (made_of maker clock).made k).long
      (suo_well h maker clock g b.suo).form)

  pub var_clean : Clean 161 (var_of h maker clock g records request)
  unfolding var_made layout_length layout total
  var_clean =
      let all = all_added (suo_building h maker clock g).batch records in
      let n = ap length (all_suo h maker clock g records request b) ∙ suo_clean.long in
      subst (Clean 161) (sym (var_made_lem all request b.var))
      (clean Var (var_made all request) (var_states all.suo all.working _ request n).long
      (form_sound Var (var_made all request) (var_rules all request b.var)))

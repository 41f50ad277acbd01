-- A step that judges a message by a list of checks accepts it if none of them fails; the table and the premises give what is built its lengths.
-- Assumes nothing.
use mathlib.Core.Path.{◌≡◌, sym, ap, ◌∙◌}
use mathlib.Core.Bool.{true}
use mathlib.Core.List.{List, [], ◌∷◌}
use Prim.Native.Nat.{ℕ}
use borrow.Author.Tests.{eqb-true}
use lib.ListN.{length}
use Rattle.ground.proofs.Choices.{left}
use Rattle.calendar.specs.declared.Date.{Date}
use Rattle.table.specs.Table.{Table, place_of, nobody, customer_in, customer_fits, settings_fit, sound_table}
use Rattle.table.proofs.Sound.{parts}
use Rattle.table.proofs.Places.{known_at, found_is}
use Rattle.message.specs.declared.Check.{Check}
use Rattle.message.proofs.Order.{NoneFails}
use Rattle.notice.specs.Codes.{code_in, codes}
use Rattle.reply.specs.Reply.{reply_of}
use Rattle.reply.specs.declared.Answering.{Answering}
use Rattle.whole_file.specs.WholeFile.{Step}
use Rattle.desk.specs.declared.Held.{Held}
use Rattle.law_demands.specs.Demands.{Judges}
use Rattle.law_demands.proofs.Accepted.{none_true}
use Rattle.law_desk.proofs.Accepted.{each_at}
use Rattle.law_build.specs.Premises.{MaySend}
use Rattle.law_build.proofs.ByValue.{Accepts}
use Rattle.law_build.proofs.Fields.{Sized}

-- ---- no check fails

pub accepts_so : (P : List ℕ → Type 0) (cs : List Check) (x : Step) (t : Table) → Judges cs x t → NoneFails cs
    → ((a : Answering) → x.says ≡ a ∷ [] → (code_in a.code codes).accepted ≡ true → P (reply_of a)) → Accepts P x
accepts_so P cs x t j n p =
    let k = j.verdict.passes (none_true cs n) in
    record { answer = j.reply; says = j.one_reply; accepts = k; passes = p j.reply j.one_reply k }

-- ---- lengths

module _ (t : Table) (today : Date) (h : Held) (stamp : List ℕ) (sound : sound_table t ≡ true) (may : MaySend t today h stamp) where
  -- the bank's name is the table's, and the desk's own is a customer's
  pub sized_by : (software method : List ℕ) → length software ≡ 16 → length method ≡ 3 → length stamp ≡ 15 → Sized h software method stamp
  unfolding settings_fit customer_in customer_fits
  sized_by software method s m x =
      let p = known_at (place_of t h.own) may.known in
      let f = found_is t h.own p.0 p.1 in
      let c = (each_at t.customers p.0 nobody (parts t sound).each f.0).0 in
      record {
        software = s;
        method = m;
        bank = ap length may.this_bank ∙ eqb-true _ 25 (left _ _ (parts t sound).fit);
        own = ap length (sym f.1) ∙ eqb-true _ 25 (left _ _ c);
        stamp = x;
      }

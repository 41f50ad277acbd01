-- A record's end in a message is the same choice for each kind: it goes on, or the message is done.
-- Assumes nothing.
use Prim.Native.Nat.{ℕ}
use mathlib.Core.Path.{◌≡◌, refl}
use mathlib.Core.Bool.{Bool, true, false}
use mathlib.Core.List.{List}
use Rattle.ground.specs.Choice.{pick}
use Rattle.message.specs.declared.Extent.TheVariants.{Whole}
use Rattle.message.specs.declared.Kind.{Kind}
use Rattle.message.specs.declared.Kind.TheVariants.{Esi, Suo, Var}
use Rattle.whole_file.specs.Messages.{is_whole}
use Rattle.session.specs.Events.{silent, wants, keeps_on, extent_by, collecting_ends, esi_on, suo_on, var_on, esi_start, suo_start, var_start}
use Rattle.session.specs.declared.Session.{Session}
use Rattle.read_records.specs.Messages.{message_done, message_start}

silent_pick : (t : Bool) (x y : Session) (b : List ℕ) → silent (pick t x y) b ≡ pick t (silent x b) (silent y b)
unfolding pick
silent_pick true x y b = refl
silent_pick false x y b = refl

pub on_is : (k : Kind) (s : Session) (b : List ℕ)
    → collecting_ends k s b ≡ pick (wants s.gathered) (silent (keeps_on s k) b) (message_done k Whole s b)
unfolding collecting_ends message_done esi_on suo_on var_on
on_is Esi s b = refl
on_is Suo s b = silent_pick _ _ _ b
on_is Var s b = refl

pub start_is : (k : Kind) (s : Session) (b : List ℕ)
    → message_start k s b ≡ pick (is_whole (extent_by k s)) (collecting_ends k s b) (message_done k (extent_by k s) s b)
unfolding collecting_ends message_done message_start esi_start suo_start var_start
start_is Esi s b = refl
start_is Suo s b = silent_pick _ _ _ b
start_is Var s b = refl

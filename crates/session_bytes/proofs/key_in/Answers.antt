-- Its flag decides; the key is the number past it.
use mathlib.Core.List.{List}
use mathlib.Core.Path.{◌≡◌, sym, ap, ◌∙◌}
use Prim.Native.Nat.{ℕ}
use borrow.Author.Tests.{eqb-true, eq-eqb}
use lib.Dec.{eqb}
use Rattle.std.proofs.Common.{rules, tests}
use Rattle.std.specs.Prelude.{Option, None, Some, IfSome}
use Rattle.std.specs.Option.{is_some}
use Rattle.ground.specs.Lists.{part}
use Rattle.ground.proofs.Bools.{clash}
use Rattle.splices.specs.Bytes.{num}
use Rattle.codec.specs.Layout.{number, perhaps, dec, width}
use Rattle.codec.proofs.Laws.{dec-none, dec_some}
use Rattle.session_bytes.specs.Session.{once_shape, key_from, session_of}
use Rattle.session_bytes.proofs.key_in.Goals as goal

key_is : (r : Option ℕ) (l : List ℕ) → is_some r ≡ eqb (num (part 391 1 l)) 1 → IfSome r (λ x. x ≡ num (part 392 8 l))
    → r ≡ key_from (dec (perhaps once_shape) 391 l)
unfolding dec width
key_is None l e s = sym (ap key_from (dec-none (number 8) 391 l (λ q. clash (eqb (num (part 391 1 l)) 1) (eq-eqb _ _ q) (sym e))))
key_is (Some x) l e s = ap Some s ∙ sym (ap key_from (dec_some (number 8) 391 l (eqb-true _ _ (sym e))))

pub returns : goal.returns
unfolding session_of dec width
returns c =
    key_is c.then.result c.args.b.now (c.then.ensures.variant ∙ ap (λ (x : ℕ). eqb x 1) c.read1.ensures) (search (rules, tests))

-- As many characters as there is room for.
use mathlib.Core.Path.{◌≡◌, refl}
use Prim.Native.Nat.{◌+◌, ◌≤◌}
use native.Mathlib.Omega.{arith}
use lib.ListN.{length}
use Rattle.message.proofs.Places.{copied}
use Rattle.desk.proofs.Replies.{span_of}
use borrow.Author.Rules.{rules}
use Rattle.desk.proofs.sixteen_at.Goals as goal

pub returns : goal.returns
returns c =
    let m = c.args.m in
    let e : length m ≡ 161 = search rules in
    let h : c.args.at + 16 ≤ length m = omega (arith, c.requires) in
    copied c.args.at 16 _ m (span_of c.args.at 16 _ m c.between.ensures) _ _ c.copy.ensures refl h

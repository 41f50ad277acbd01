-- Receiver, sender, the generations' digits, stamp, field 13 and blanks are written one after the other.
use mathlib.Core.Path.{◌≡◌, ap₂}
use mathlib.Core.List.{◌++◌}
use native.Mathlib.Omega.{arith}
use lib.ListN.{length}
use Rattle.build.proofs.Written.{middle_written}
use borrow.Author.Rules.{rules}
use Rattle.build.proofs.put_middle.Goals as goal

pub write_bytes-requires : goal.write_bytes-requires
write_bytes-requires c =
    let bank : length c.args.h.bank ≡ 25 = search rules in omega (arith, bank, c.requires)

pub write_bytes-requires-2 : goal.write_bytes-requires-2
write_bytes-requires-2 c =
    let own : length c.args.h.own ≡ 25 = search rules in omega (arith, own, c.requires)

pub returns : goal.returns
returns c =
    let a = c.args in
    let bank : length a.h.bank ≡ 25 = search rules in
    let own : length a.h.own ≡ 25 = search rules in
    let stamp : length a.stamp ≡ 15 = search rules in
    middle_written a.h a.stamp a.area bank own stamp a.out.now c.requires
    (ap₂ ◌++◌ c.low_digit.ensures c.low_digit-2.ensures) c.write_bytes.ensures
    c.write_bytes-2.ensures c.write_bytes-3.ensures c.write_bytes-4.ensures
    c.write_bytes-5.ensures c.write_bytes-6.ensures

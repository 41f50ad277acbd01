-- Where there is no room nothing changes, else the bytes are written there.
use mathlib.Core.Path.{◌≡◌, sym, ◌∙◌}
use native.Mathlib.Omega.{arith}
use lib.ListN.{length}
use Prim.Native.Nat.{◌+◌, ◌≤◌, ◌<◌}
use Rattle.std.proofs.Common.{tests}
use Rattle.splices.proofs.Splice.{put_past, put_fits}
use Rattle.customer_bytes.specs.Layout.{settings_bytes}
use Rattle.customer_bytes.proofs.Laws.{settings_width_lem}
use borrow.Author.Rules.{rules}
use Rattle.customer_bytes.proofs.store_settings.Goals as goal

pub returns-else-fits : goal.returns-else-fits
returns-else-fits c =
    let a = c.args in
    let n₁ : length a.s.bank ≡ 25 = search rules in
    let n₂ : length a.s.software ≡ 16 = search rules in
    let h : length a.t.now < a.at + 58 = search (rules, tests) in
    sym (put_past a.at (settings_bytes a.s) a.t.now (omega (arith, settings_width_lem a.s (n₁, (n₂, (tt, (tt, tt)))))))

pub returns-then-fits : goal.returns-then-fits
returns-then-fits c =
    let a = c.args in
    let n₁ : length a.s.bank ≡ 25 = search rules in
    let n₂ : length a.s.software ≡ 16 = search rules in
    let h : a.at + 58 ≤ length a.t.now = search (rules, tests) in
    c.store_bank.ensures
    ∙ sym (put_fits a.at (settings_bytes a.s) a.t.now (omega (arith, settings_width_lem a.s (n₁, (n₂, (tt, (tt, tt)))))))

-- Where there is no room nothing changes, else the bytes are written there.
use mathlib.Core.Path.{◌≡◌, sym, ◌∙◌}
use native.Mathlib.Omega.{arith}
use lib.ListN.{length}
use Prim.Native.Nat.{◌+◌, ◌≤◌, ◌<◌}
use Rattle.std.proofs.Common.{tests}
use Rattle.splices.proofs.Splice.{put_past, put_fits}
use Rattle.customer_bytes.specs.Layout.{customer_bytes}
use Rattle.customer_bytes.proofs.Laws.{customer_sized, customer_width}
use borrow.Author.Rules.{rules}
use Rattle.customer_bytes.proofs.store_at.Goals as goal

pub returns-else-fits : goal.returns-else-fits
returns-else-fits c =
    let a = c.args in
    let n₁ : length a.c.who ≡ 25 = search rules in
    let n₂ : length a.c.stamps ≡ 64 = search rules in
    let n₃ : length a.c.once ≡ 64 = search rules in
    let h : length a.t.now < a.at + 1109 = search (rules, tests) in
    sym (put_past a.at (customer_bytes a.c) a.t.now (omega (arith, customer_width a.c (customer_sized a.c n₁ n₂ n₃))))

pub returns-then-fits : goal.returns-then-fits
returns-then-fits c =
    let a = c.args in
    let n₁ : length a.c.who ≡ 25 = search rules in
    let n₂ : length a.c.stamps ≡ 64 = search rules in
    let n₃ : length a.c.once ≡ 64 = search rules in
    let h : a.at + 1109 ≤ length a.t.now = search (rules, tests) in
    c.store_customer.ensures
    ∙ sym (put_fits a.at (customer_bytes a.c) a.t.now (omega (arith, customer_width a.c (customer_sized a.c n₁ n₂ n₃))))

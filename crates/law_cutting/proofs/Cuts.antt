-- Where the bytes are cut does not matter: a scan goes byte by byte, and stops at the first reply.
-- Assumes nothing.
use Prim.Native.Nat.{ℕ, suc, ◌+◌, ◌<◌, ◌≤◌}
use mathlib.Core.Path.{◌≡◌, refl, sym, ap, ◌∙◌}
use mathlib.Core.List.{List, [], ◌∷◌, ◌++◌}
use mathlib.Core.Bool.{Bool, true, false, false≢true}
use native.Mathlib.Omega.{arith}
use native.Mathlib.Numerals.{add-one}
use native.Mathlib.Nat.{add-zero}
use lib.ListN.{length, drop}
use Rattle.ground.specs.Choice.{pick}
use Rattle.ground.proofs.Choices.{picks}
use Rattle.ground.proofs.Bools.{picked}
use Rattle.reply.specs.declared.Answering.{Answering}
use Rattle.whole_file.specs.WholeFile.{given_at}
use Rattle.session.specs.Events.{Turn, silent}
use Rattle.session.specs.Machine.{Scan, scan_on, scanned, stepped}
use Rattle.session.specs.Told.{Answered, said_by, before, all_told}
use Rattle.session.specs.declared.Session.{Session}

-- a scan that n bytes went before
abbrev pub further : ℕ → Scan → Scan
further n r = record { turn = r.turn; taken = r.taken + n }

pub further_none : (r : Scan) → r ≡ further 0 r
further_none r = ap (λ (m : ℕ). record { turn = r.turn; taken = m }) (sym (add-zero r.taken))

pub further_one : (n : ℕ) (r : Scan) → further 1 (further n r) ≡ further (suc n) r
further_one n r =
    let k : r.taken + n + 1 ≡ r.taken + suc n = omega arith in ap (λ (m : ℕ). record { turn = r.turn; taken = m }) k

-- the scan from a byte on, where `t` says whether it gives a reply
abbrev on_by : Bool → Turn → Scan → Scan
on_by t x r = pick t (record { turn = x; taken = 1 }) (further 1 r)

-- ---- how many are taken

pub scan_taken : (xs : List ℕ) (s : Session) (w : List ℕ) → (scanned s w xs).taken ≤ length xs
unfolding scanned scan_on
scan_taken [] s w = omega arith
scan_taken (b ∷ bs) s w =
    let x = stepped s w b in
    let k = scan_taken bs x.out.session x.table in
    picked (λ (r : Scan). r.taken ≤ length (b ∷ bs)) x.out.reply.given _ _ (λ e. omega arith) (λ e. omega (arith, k))

-- of a list that is not empty at least one
pub scan_some : (b : ℕ) (bs : List ℕ) (s : Session) (w : List ℕ) → 0 < (scanned s w (b ∷ bs)).taken
unfolding scanned scan_on
scan_some b bs s w =
    picked (λ (r : Scan). 0 < r.taken) (stepped s w b).out.reply.given _ _ (λ e. omega arith) (λ e. omega arith)

-- all of them where no reply is given
pub scan_all : (xs : List ℕ) (s : Session) (w : List ℕ) → (scanned s w xs).turn.out.reply.given ≡ false → (scanned s w xs).taken
    ≡ length xs
unfolding scanned scan_on
scan_all [] s w q = refl
scan_all (b ∷ bs) s w q =
    let x = stepped s w b in
    let ih = scan_all bs x.out.session x.table in
    picked (λ (r : Scan). r.turn.out.reply.given ≡ false → r.taken ≡ length (b ∷ bs)) x.out.reply.given _ _
    (λ e q. absurd (false≢true (sym q ∙ e)))
    (λ e q. omega (arith, ih q))
    q

-- ---- a list cut in two

quiet_by : (t : Bool) (x : Turn) (r r' : Scan) (n : ℕ) (rest : Session → List ℕ → Scan) → x.out.reply.given ≡ t
    → (r.turn.out.reply.given ≡ false → r' ≡ further n (rest r.turn.out.session r.turn.table))
    → (on_by t x r).turn.out.reply.given ≡ false
    → on_by t x r' ≡ further (suc n) (rest (on_by t x r).turn.out.session (on_by t x r).turn.table)
unfolding pick
quiet_by true x r r' n rest e ih q = absurd (false≢true (sym q ∙ e))
quiet_by false x r r' n rest e ih q = ap (further 1) (ih q) ∙ further_one n (rest r.turn.out.session r.turn.table)

-- where the first bytes give no reply, the scan goes on from what they leave
pub scan_append_quiet : (xs ys : List ℕ) (s : Session) (w : List ℕ) → (scanned s w xs).turn.out.reply.given ≡ false
    → scanned s w (xs ++ ys) ≡ further (length xs) (scanned (scanned s w xs).turn.out.session (scanned s w xs).turn.table ys)
unfolding scanned scan_on silent
scan_append_quiet [] ys s w q = further_none (scanned s w ys)
scan_append_quiet (b ∷ bs) ys s w q =
    let x = stepped s w b in
    quiet_by x.out.reply.given x (scanned x.out.session x.table bs) (scanned x.out.session x.table (bs ++ ys))
    (length bs)
    (λ u v. scanned u v ys)
    refl
    (scan_append_quiet bs ys x.out.session x.table)
    q

given_by : (t : Bool) (x : Turn) (r r' : Scan) → (r.turn.out.reply.given ≡ true → r' ≡ r)
    → (on_by t x r).turn.out.reply.given ≡ true
    → on_by t x r' ≡ on_by t x r
unfolding pick
given_by true x r r' ih q = refl
given_by false x r r' ih q = ap (further 1) (ih q)

-- where they give one, the bytes after it do not count
pub scan_append_given : (xs ys : List ℕ) (s : Session) (w : List ℕ) → (scanned s w xs).turn.out.reply.given ≡ true
    → scanned s w (xs ++ ys) ≡ scanned s w xs
unfolding scanned scan_on silent
scan_append_given [] ys s w q = absurd (false≢true q)
scan_append_given (b ∷ bs) ys s w q =
    let x = stepped s w b in
    given_by x.out.reply.given x (scanned x.out.session x.table bs) (scanned x.out.session x.table (bs ++ ys))
    (scan_append_given bs ys x.out.session x.table)
    q

-- ---- all that is told: what a scan of the front says, and then what is told over the bytes that it did not take

abbrev told_after : ℕ → Scan → List ℕ → Answered
told_after at r rest =
    before (given_at (at + r.taken) (said_by r.turn)) (all_told (at + r.taken) r.turn.out.session r.turn.table rest)

said_given : (x : Turn) → x.out.reply.given ≡ true → said_by x ≡ x.out.reply.answer ∷ []
unfolding said_by
said_given x e = picks _ _ _ e

cut_by : (t : Bool) (b : ℕ) (bs ys : List ℕ) (at : ℕ) (x : Turn) (r : Scan) → x.out.reply.given ≡ t
    → all_told (at + 1) x.out.session x.table (bs ++ ys) ≡ told_after (at + 1) r (drop r.taken bs ++ ys)
    → before (given_at (at + 1) (pick t (x.out.reply.answer ∷ []) [])) (all_told (at + 1) x.out.session x.table (bs ++ ys))
    ≡ told_after at (on_by t x r) (drop (on_by t x r).taken (b ∷ bs) ++ ys)
unfolding pick before given_at
cut_by true b bs ys at x r e ih =
    ap (λ (l : List Answering). before (given_at (at + 1) l) (all_told (at + 1) x.out.session x.table (bs ++ ys)))
    (sym (said_given x e))
cut_by false b bs ys at x r e ih =
    let k : at + (r.taken + 1) ≡ at + 1 + r.taken = omega arith in
    rw (k, add-one r.taken) ih

pub scan_cut : (xs ys : List ℕ) (at : ℕ) (s : Session) (w : List ℕ)
    → all_told at s w (xs ++ ys)
    ≡ before (given_at (at + (scanned s w xs).taken) (said_by (scanned s w xs).turn))
    (all_told (at + (scanned s w xs).taken) (scanned s w xs).turn.out.session (scanned s w xs).turn.table
    (drop (scanned s w xs).taken xs ++ ys))
unfolding scanned scan_on all_told said_by silent pick before given_at
scan_cut [] ys at s w = rw add-zero
scan_cut (b ∷ bs) ys at s w =
    let x = stepped s w b in
    cut_by x.out.reply.given b bs ys at x (scanned x.out.session x.table bs) refl
    (scan_cut bs ys (at + 1) x.out.session x.table)

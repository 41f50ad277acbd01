-- What every layout's laws say of a session's: one that is written is read back, and bytes that are a session's are what it is written as.
-- Assumes nothing.
use mathlib.Core.Path.{◌≡◌, ap, ◌∙◌}
use mathlib.Core.Bool.{true}
use mathlib.Core.List.{List}
use Prim.Native.Nat.{ℕ}
use native.Mathlib.Omega.{arith}
use borrow.Author.Tests.{eqb-true, eq-eqb, ne_eqb}
use lib.Dec.{eqb}
use lib.ListN.{length}
use Rattle.ground.specs.Lists.{same}
use Rattle.ground.proofs.Choices.{left, right, join, picks, skips, same-eq, eq-same}
use Rattle.ground.proofs.Parts.{part_all}
use Rattle.codec.specs.Layout.{width}
use Rattle.codec.proofs.Laws.{wide, fits_sized}
use Rattle.codec.proofs.Laws as codec
use Rattle.session.specs.Machine.{unopened}
use Rattle.session.specs.Ranges.{Encodes}
use Rattle.session.specs.declared.Session.{Session}
use Rattle.session_bytes.specs.Session.{session_size, session_shape, session_from, session_to, session_bytes, session_of, is_session}
use Rattle.session_bytes.specs.Session.{session_in, session_stored}
use Rattle.session_bytes.proofs.Fields.{session_there, session_fits}

pub size : (s : Session) → Encodes s → length (session_bytes s) ≡ session_size
unfolding session_bytes width
size s h = wide session_shape (session_to s) (fits_sized session_shape (session_to s) (session_fits s h))

pub back : (s : Session) → Encodes s → session_of (session_bytes s) ≡ s
unfolding session_of session_bytes width
back s h =
    let e = part_all (session_bytes s) 472 (omega (arith, size s h)) in
    ap session_from (codec.back session_shape (session_to s) (session_fits s h) 0 (session_bytes s) e) ∙ session_there s

pub is_session_fact : (s : Session) → Encodes s → is_session (session_bytes s) ≡ true
unfolding is_session
is_session_fact s h =
    join (eqb (length (session_bytes s)) session_size) (same (session_bytes (session_of (session_bytes s))) (session_bytes s))
    (eq-eqb (length (session_bytes s)) session_size (size s h))
    (eq-same (session_bytes (session_of (session_bytes s))) (session_bytes s) (ap session_bytes (back s h)))

-- where the bytes are a session's, it is the one they say
pub said : (b : List ℕ) → is_session b ≡ true → session_in b ≡ session_of b
unfolding session_in
said b e = picks (is_session b) (session_of b) unopened e

pub long : (b : List ℕ) → is_session b ≡ true → length b ≡ session_size
unfolding is_session
long b e = eqb-true (length b) session_size (left (eqb (length b) session_size) (same (session_bytes (session_of b)) b) e)

pub exact : (b : List ℕ) → is_session b ≡ true → session_bytes (session_in b) ≡ b
unfolding is_session
exact b e =
    ap session_bytes (said b e)
    ∙ same-eq (session_bytes (session_of b)) b (right (eqb (length b) session_size) (same (session_bytes (session_of b)) b) e)

pub stored : (b : List ℕ) (s : Session) → length b ≡ session_size → session_stored b s ≡ session_bytes s
unfolding session_stored
stored b s n = picks (eqb (length b) session_size) (session_bytes s) b (eq-eqb (length b) session_size n)

pub stays : (b : List ℕ) (s : Session) → (length b ≡ session_size → ⊥) → session_stored b s ≡ b
unfolding session_stored
stays b s n = skips (eqb (length b) session_size) (session_bytes s) b (ne_eqb (length b) session_size n)

-- what is stored is loaded
pub loaded : (b : List ℕ) (s : Session) → Encodes s → length b ≡ session_size → session_in (session_stored b s) ≡ s
loaded b s h n = ap session_in (stored b s n) ∙ said (session_bytes s) (is_session_fact s h) ∙ back s h

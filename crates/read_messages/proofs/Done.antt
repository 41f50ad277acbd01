-- The frame at its VAR, made of the calls' results, is the definition's.
-- Assumes nothing.
use Rattle.std.specs.Prelude.{Option}
use mathlib.Core.Path.{◌≡◌}
use mathlib.Core.List.{List}
use Prim.Native.Nat.{ℕ}
use Rattle.des.specs.Des.{schedule_of}
use Rattle.des.specs.Joined.{joined, joined_by}
use Rattle.des.proofs.Joined.{joined-cipher}
use Rattle.digest.specs.Running.{answered}
use Rattle.checks.specs.Checks.{key_or0}
use Rattle.message.specs.declared.Collected.{Collected}
use Rattle.session.specs.Events.{frame_by, cipher_of}
use Rattle.session.specs.declared.Session.{Session}

pub frame_made : (s : Session) (m : Collected) {t k : List ℕ} {key : ℕ} {d : Option ℕ} → t ≡ joined → key ≡ key_or0 s.batch.once → k
    ≡ schedule_of key
    → d ≡ answered (joined_by t k) s.batch.running.start
    → record { suo = s.batch.suo; var = m; once = s.batch.once; digest = d } ≡ frame_by s m
unfolding frame_by cipher_of
frame_made s m et en ek ed = rw (ed, et, ek, en, joined-cipher (schedule_of (key_or0 s.batch.once)))

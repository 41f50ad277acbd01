-- What is written, and what is left of the number after it, is the whole.
use mathlib.Core.Path.{◌≡◌, sym, ap, ◌∙◌}
use mathlib.Core.List.{List, ◌++◌, append_assoc}
use Prim.Native.Nat.{ℕ, ◌+◌, ◌-◌, ◌≤◌}
use native.Mathlib.Omega.{arith}
use lib.ListN.{length, take, drop, length-take, length-drop}
use lib.Seq.{drop-drop}
use Rattle.splices.specs.Bytes.{bytes_of, splice}
use Rattle.splices.proofs.Chunks.{bytes_of-length}
use Rattle.codec.proofs.Rows.{number_more, number_end}
use Rattle.codec.proofs.write_number.Goals as goal

lent : (at w : ℕ) (t : List ℕ) → at + w ≤ length t → length (take (at + w - at) (drop at t)) ≡ w
lent at w t h = simp (length-take, length-drop) (omega arith)

put_back : (at w : ℕ) (b v t : List ℕ) → b ≡ v → length v ≡ w → take at t ++ (b ++ drop (at + w - at) (drop at t)) ≡ splice at v t
unfolding splice
put_back at w b v t e f =
    let k : at + (at + w - at) ≡ at + length v = omega arith in
    ap (λ (x : List ℕ). take at t ++ (x ++ drop (at + w - at) (drop at t))) e
    ∙ ap (λ (x : List ℕ). take at t ++ (v ++ x)) (drop-drop (at + w - at) at t ∙ ap (λ (j : ℕ). drop j t) k)
    ∙ sym (append_assoc (take at t) v (drop (at + length v) t))

pub loop-byte-preserved : goal.loop-byte-preserved
loop-byte-preserved c =
    let l = c.loop-byte in
    let e = lent c.args.at c.args.w c.args.t.now c.requires in
    number_more c.args.w l.rest l.byte-index l.byte-items (omega (arith, c.loop-byte-test.true, l.auto.byte-items)) (omega (arith, c.loop-byte-test.true, l.auto.byte-items)) ∙ l.invariant

pub returns : goal.returns
returns c =
    let l = c.loop-byte in
    let a = c.args in
    let e = lent a.at a.w a.t.now c.requires in
    put_back a.at a.w l.byte-items (bytes_of a.w a.n) a.t.now
    (number_end a.w l.rest l.byte-index l.byte-items (omega (arith, c.loop-byte-test.false, l.auto.byte-items)) (omega (arith, c.loop-byte-test.false, l.auto.byte-items)) ∙ l.invariant)
    (bytes_of-length a.w a.n)

-- What was sent, of its lengths, is read back from what it is written as.
-- Assumes nothing.
use Prim.Native.Nat.{◌<◌}
use mathlib.Core.Path.{◌≡◌, refl, ap, ◌∙◌}
use native.Mathlib.Omega.{arith}
use borrow.Author.Tests.{eq-eqb}
use lib.ListN.{length}
use Rattle.ground.proofs.Choices.{picks}
use Rattle.ground.proofs.Parts.{part_all}
use Rattle.codec.specs.Layout.{width, Fits}
use Rattle.codec.proofs.Laws.{wide, fits_sized}
use Rattle.codec.proofs.Laws as codec
use Rattle.desk.specs.declared.Sent.{Sent}
use Rattle.desk_bytes.specs.Layout.{sent_size, sent_shape, sent_from, sent_to}
use Rattle.desk_bytes.specs.Bytes.{sent_bytes, sent_of, sent_in}

pub record SentFits (s : Sent) : Type 0 where
  pub receiver : length s.receiver ≡ 25
  pub sender : length s.sender ≡ 25
  pub transport : s.transport < 256
  pub working : s.working < 256
  pub stamp : length s.stamp ≡ 15
  pub area : s.area < 256
  pub once : length s.once ≡ 16
  pub digest : length s.digest ≡ 16

module _ (s : Sent) (f : SentFits s) where
  sent_fits : Fits sent_shape (sent_to s)
  sent_fits =
      let t = f.transport in
      let w = f.working in
      let a = f.area in
      ((f.receiver, (f.sender, (omega (arith, t), omega (arith, w)))), (f.stamp, (omega (arith, a), (f.once, f.digest))))

  pub sent_size_fact : length (sent_bytes s) ≡ sent_size
  unfolding sent_bytes width
  sent_size_fact = wide sent_shape (sent_to s) (fits_sized sent_shape (sent_to s) sent_fits)

  pub sent_back : sent_in (sent_bytes s) ≡ s
  unfolding sent_in sent_of sent_bytes width
  sent_back =
      let e = part_all (sent_bytes s) 100 (omega (arith, sent_size_fact)) in
      picks _ _ _ (eq-eqb (length (sent_bytes s)) sent_size sent_size_fact)
      ∙ ap sent_from (codec.back sent_shape (sent_to s) sent_fits 0 (sent_bytes s) e)

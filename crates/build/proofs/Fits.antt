-- A batch fits its bytes: texts of their lengths make a SUO of 128 characters, a made key and the numbers of a digest are below 2 ^ 64, and a
-- record more leaves them there.
-- Assumes nothing.
use Prim.Native.Nat.{ℕ, ◌<◌, ◌^◌}
use mathlib.Core.Path.{◌≡◌, refl}
use mathlib.Core.Bool.{false}
use mathlib.Core.List.{List, []}
use borrow.Author.Tests.{eq-eqb}
use lib.ListN.{length}
use Rattle.ground.proofs.Choices.{picks}
use Rattle.des.specs.Des.{enciphered}
use Rattle.des.proofs.Inverse.{enciphered-lt}
use Rattle.digest.specs.Running.{begun, alike}
use Rattle.digest.specs.Ranges.{StateFits}
use Rattle.digest.proofs.Ranges.{begun_fits, alike_fits, took_fits, ended_fits}
use Rattle.keys.specs.Maker.{made_of}
use Rattle.keys.specs.declared.KeyMaker.{KeyMaker}
use Rattle.keys.proofs.Laws.{made_lt}
use Rattle.message.specs.Fields.{method_of}
use Rattle.message.specs.declared.Kind.TheVariants.{Suo}
use Rattle.refusals.proofs.Refused.{served}
use Rattle.desk.specs.declared.Held.{Held}
use Rattle.build.specs.Messages.{suo_built}
use Rattle.build.specs.Building.{breaks_rules, other_generation, building_refusals, no_batch, suo_made, suo_refusal, suo_building, record_added}
use Rattle.build.specs.declared.Given.{Given}
use Rattle.build.specs.declared.Batch.{Batch}
use Rattle.build.proofs.Written.{suo_length}

pub record BatchFits (x : Batch) : Type 0 where
  pub suo : length x.suo ≡ 128
  pub once : x.once < 2 ^ 64
  pub working : x.working < 2 ^ 64
  pub state : StateFits x.state

-- ---- a SUO that was built

module _ (h : Held) (maker : KeyMaker) (clock : ℕ) (g : Given) where
  -- what its batch begins as
  abbrev pub begun_batch : Batch
  begun_batch = record { suo = suo_made h maker clock g; once = (made_of maker clock).made; working = h.working.key; state = begun }

  module _ (z : (suo_building h maker clock g).refusal ≡ 0) where
    pub suo_batch : (suo_building h maker clock g).batch ≡ begun_batch
    unfolding suo_building
    suo_batch = picks _ begun_batch no_batch (eq-eqb _ 0 z)

    pub suo_rules : breaks_rules Suo (suo_made h maker clock g) ≡ false
    unfolding suo_building suo_refusal building_refusals
    suo_rules = (served 13 _ [] refl (served 11 (other_generation h) _ refl z).1).0

  pub suo_fits : length h.bank ≡ 25 → length h.own ≡ 25 → length g.software ≡ 16 → length g.method ≡ 3
      → length g.stamp ≡ 15 → h.working.key < 2 ^ 64 → BatchFits begun_batch
  unfolding suo_made suo_built
  suo_fits p q s m r w =
      record {
        suo = suo_length h g.software g.method g.stamp g.area _ s m p q r;
        once = made_lt maker clock;
        working = w;
        state = begun_fits;
      }

-- ---- a record more

pub added_fits : (x : Batch) (r : List ℕ) → BatchFits x → BatchFits (record_added x r)
unfolding record_added
added_fits x r f =
    record {
      suo = f.suo;
      once = f.once;
      working = f.working;
      state =
          (ended_fits (method_of x.suo) (took_fits (enciphered x.once) (enciphered-lt x.once) _ _ (alike_fits f.state))).last_fits;
    }

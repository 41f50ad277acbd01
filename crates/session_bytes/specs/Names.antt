-- The place in a file, 0 to 6, and what was collected of a message, 0 to 4, as numbers.
-- Assumes nothing.
use Rattle.std.specs.Prelude.{◌≡◌, refl, ℕ, zero, suc, ◌<◌}
use Rattle.std.proofs.Common.{arith, lit<}
use Rattle.codec.specs.Layout.{Named}
use Rattle.message.specs.declared.Extent.{Extent}
use Rattle.message.specs.declared.Extent.TheVariants.{Whole, TooShort, LengthNotDigits, OtherLength, CutShort}
use Rattle.message.specs.declared.Kind.{Kind}
use Rattle.message.specs.declared.Kind.TheVariants.{Esi, Suo, Var}
use Rattle.session.specs.declared.Place.{Place}
use Rattle.session.specs.declared.Place.TheVariants.{BeforeEsi, Outside, Collecting, InData, Closed}

-- ---- the place

abbrev pub kind_number : Kind → ℕ
kind_number Esi = 2
kind_number Suo = 3
kind_number Var = 4

abbrev pub place_number : Place → ℕ
place_number BeforeEsi = 0
place_number Outside = 1
place_number (Collecting kind) = kind_number kind
place_number InData = 5
place_number Closed = 6

unfoldable pub place_numbered : ℕ → Place
place_numbered zero = BeforeEsi
place_numbered (suc zero) = Outside
place_numbered (suc (suc zero)) = Collecting Esi
place_numbered (suc (suc (suc zero))) = Collecting Suo
place_numbered (suc (suc (suc (suc zero)))) = Collecting Var
place_numbered (suc (suc (suc (suc (suc zero))))) = InData
place_numbered (suc (suc (suc (suc (suc (suc x)))))) = Closed

pub place_small : (p : Place) → place_number p < 7
place_small BeforeEsi = lit< tt
place_small Outside = lit< tt
place_small (Collecting Esi) = lit< tt
place_small (Collecting Suo) = lit< tt
place_small (Collecting Var) = lit< tt
place_small InData = lit< tt
place_small Closed = lit< tt

pub place_there : (p : Place) → place_numbered (place_number p) ≡ p
unfolding place_numbered
place_there BeforeEsi = refl
place_there Outside = refl
place_there (Collecting Esi) = refl
place_there (Collecting Suo) = refl
place_there (Collecting Var) = refl
place_there InData = refl
place_there Closed = refl

pub place_back : (x : ℕ) → x < 7 → place_number (place_numbered x) ≡ x
unfolding place_numbered
place_back zero h = refl
place_back (suc zero) h = refl
place_back (suc (suc zero)) h = refl
place_back (suc (suc (suc zero))) h = refl
place_back (suc (suc (suc (suc zero)))) h = refl
place_back (suc (suc (suc (suc (suc zero))))) h = refl
place_back (suc (suc (suc (suc (suc (suc zero)))))) h = refl
place_back (suc (suc (suc (suc (suc (suc (suc x))))))) h = absurd (omega arith)

abbrev pub places : Named Place
places =
    record {
      size = 7;
      number = place_number;
      numbered = place_numbered;
      byte = omega arith;
      small = place_small;
      there = place_there;
      back = place_back;
    }

-- ---- what was collected

abbrev pub extent_number : Extent → ℕ
extent_number Whole = 0
extent_number TooShort = 1
extent_number LengthNotDigits = 2
extent_number OtherLength = 3
extent_number CutShort = 4

unfoldable pub extent_numbered : ℕ → Extent
extent_numbered zero = Whole
extent_numbered (suc zero) = TooShort
extent_numbered (suc (suc zero)) = LengthNotDigits
extent_numbered (suc (suc (suc zero))) = OtherLength
extent_numbered (suc (suc (suc (suc x)))) = CutShort

pub extent_small : (x : Extent) → extent_number x < 5
extent_small Whole = lit< tt
extent_small TooShort = lit< tt
extent_small LengthNotDigits = lit< tt
extent_small OtherLength = lit< tt
extent_small CutShort = lit< tt

pub extent_there : (x : Extent) → extent_numbered (extent_number x) ≡ x
unfolding extent_numbered
extent_there Whole = refl
extent_there TooShort = refl
extent_there LengthNotDigits = refl
extent_there OtherLength = refl
extent_there CutShort = refl

pub extent_back : (x : ℕ) → x < 5 → extent_number (extent_numbered x) ≡ x
unfolding extent_numbered
extent_back zero h = refl
extent_back (suc zero) h = refl
extent_back (suc (suc zero)) h = refl
extent_back (suc (suc (suc zero))) h = refl
extent_back (suc (suc (suc (suc zero)))) h = refl
extent_back (suc (suc (suc (suc (suc x))))) h = absurd (omega arith)

abbrev pub extents : Named Extent
extents =
    record {
      size = 5;
      number = extent_number;
      numbered = extent_numbered;
      byte = omega arith;
      small = extent_small;
      there = extent_there;
      back = extent_back;
    }

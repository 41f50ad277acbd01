-- A message of one record alone, or cut short, is told by that; of a whole one each field is looked at.
use Rattle.message.proofs.Tests.{too_short, cut_short, not_digits, other_length}
use Rattle.message.proofs.fault_of.Goals as goal

pub returns-in-Whole : goal.returns-in-Whole
returns-in-Whole c = rw c.in-Whole.is c.first_fault.ensures

pub returns-in-TooShort : goal.returns-in-TooShort
returns-in-TooShort c = rw c.in-TooShort.is (too_short _ _ _ _)

pub returns-in-LengthNotDigits : goal.returns-in-LengthNotDigits
returns-in-LengthNotDigits c = rw c.in-LengthNotDigits.is (not_digits _ _ _ _)

pub returns-in-OtherLength : goal.returns-in-OtherLength
returns-in-OtherLength c = rw c.in-OtherLength.is (other_length _ _ _ _)

pub returns-in-CutShort : goal.returns-in-CutShort
returns-in-CutShort c = rw c.in-CutShort.is (cut_short _ _ _ _)

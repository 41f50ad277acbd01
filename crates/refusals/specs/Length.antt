-- A changeover's length, given or left out (document 01, 'Keys').
-- Assumes nothing.
use Rattle.std.specs.Prelude.{None, Option, Some}
use Rattle.calendar.specs.declared.CalendarDays.{CalendarDays}

-- where no length is given: 30 calendar days
abbrev pub default_length : CalendarDays
default_length = record { 0 = 30 }

unfoldable pub length_of : Option CalendarDays → CalendarDays
length_of (Some n) = n
length_of None = default_length

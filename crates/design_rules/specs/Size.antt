-- How large a design may be: at most 65,536 places, 1,048,576 signals, and 1,048,576 drivers and clocked blocks together.
use Rattle.std.specs.Prelude.{◌+◌, Bool, ◌||◌, nat_lt, length}
use Rattle.design_core.specs.declared.design.Design.{Design}

-- whether some count passes its number
abbrev pub is_too_large : Design → Bool
is_too_large d =
    nat_lt 65536 (length d.places.items) || nat_lt 1048576 (length d.signals.items)
    || nat_lt 1048576 (length d.drivers.items + length d.clocked.items)

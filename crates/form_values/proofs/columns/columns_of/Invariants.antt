use Rattle.std.proofs.Common.{◌≡◌, map, take}
use Rattle.form_values.specs.Places.{columns_of}
use Rattle.form_values.proofs.columns.columns_of.Given as goal

abbrev pub invariant-loop-i : goal.invariant-loop-i
invariant-loop-i l = l.columns ≡ map (columns_of l.u.bits) (take l.i l.places)

use Rattle.std.proofs.Common.{◌≡◌, ◌++◌, drop}
use Rattle.form_values.specs.Places.{numbers_of}
use Rattle.form_values.proofs.places.listed.Given as goal

abbrev pub invariant-loop-place : goal.invariant-loop-place
invariant-loop-place l = numbers_of 0 l.table ≡ l.places.items ++ numbers_of l.place (drop l.place l.table)

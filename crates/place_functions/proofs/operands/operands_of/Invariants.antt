use Rattle.std.proofs.Common.{◌≡◌, map, take}
use Rattle.place_functions.specs.Operands.{operands_of}
use Rattle.place_functions.proofs.operands.operands_of.Given as goal

abbrev pub invariant-loop-place : goal.invariant-loop-place
invariant-loop-place l = l.rows.items ≡ map (operands_of l.design) (take l.place-index l.places)

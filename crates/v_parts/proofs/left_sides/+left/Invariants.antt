use Rattle.std.proofs.Common.{◌+◌, ◌-◌, ◌*◌}
use Rattle.v_syntax.specs.PartTree.{left_of}
use Rattle.v_parts.specs.Reading.{left_at}
use Rattle.v_parts.proofs.ListSteps.{Listing}
use Rattle.v_parts.proofs.left_sides.+left.Given as goal

abbrev pub decreases-left : goal.decreases-left
decreases-left l = 3 * l.nesting_left + 1

abbrev pub decreases-left_concat : goal.decreases-left_concat
decreases-left_concat l = 3 * l.nesting_left

abbrev pub decreases-lefts : goal.decreases-lefts
decreases-lefts l = 3 * l.nesting_left + 2

abbrev pub invariant-lefts-loop : goal.invariant-lefts-loop
invariant-lefts-loop l =
    Listing l.tokens (left_at l.tokens l.nesting_left) left_of l.at l.parts.items (l.end - l.counter) l.end-2

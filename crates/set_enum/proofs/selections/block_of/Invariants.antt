use Rattle.std.proofs.Common.{◌≡◌}
use Rattle.sat_core.specs.SolverState.{assignment_of}
use Rattle.set_enum.specs.Sets.{block_of, selected}
use Rattle.set_enum.proofs.selections.block_of.Given as goal

abbrev pub invariant-loop-before : goal.invariant-loop-before
invariant-loop-before l = l.literals.items ≡ block_of (selected l.before (assignment_of l.model))

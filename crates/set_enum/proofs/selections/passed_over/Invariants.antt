use Rattle.std.proofs.Common.{◌≡◌}
use Rattle.sat_core.specs.SolverState.{assignment_of}
use Rattle.set_enum.specs.Sets.{selected}
use Rattle.set_enum.proofs.Certifying.{left_out}
use Rattle.set_enum.proofs.selections.passed_over.Given as goal

abbrev pub invariant-loop-before : goal.invariant-loop-before
invariant-loop-before l = l.passed.items ≡ selected l.before (left_out (assignment_of l.model))

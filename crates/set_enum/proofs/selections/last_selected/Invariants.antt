use Rattle.sat_core.specs.SolverState.{assignment_of}
use Rattle.set_enum.specs.Certificate.{IsLastSelected}
use Rattle.set_enum.proofs.selections.last_selected.Given as goal

abbrev pub invariant-loop-before : goal.invariant-loop-before
invariant-loop-before l = IsLastSelected l.before (assignment_of l.model) l.last

use Rattle.std.proofs.Common.{◌≡◌, ◌≤◌, length, vec_capacity}
use Rattle.sat_core.specs.SolverState.{assignment_of}
use Rattle.set_enum.specs.Sets.{selected}
use Rattle.set_enum.proofs.selections.members_of.Given as goal

abbrev pub invariant-loop-before : goal.invariant-loop-before
invariant-loop-before l = record {
  so_far : l.room.items ≡ selected l.before (assignment_of l.model);
  enough : length (selected l.n (assignment_of l.model)) ≤ vec_capacity l.room;
}

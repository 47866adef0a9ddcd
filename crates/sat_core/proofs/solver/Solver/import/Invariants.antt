use Rattle.std.proofs.Common.{◌≡◌, length, take}
use Rattle.sat_core.specs.SolverState.{IsSolver}
use Rattle.sat_core.specs.Calls.{with_steps}
use Rattle.sat_core.proofs.solver.Solver.import.Given as goal

abbrev pub invariant-loop-place : goal.invariant-loop-place
invariant-loop-place l = record {
  state : l.self ≡ with_steps l.fn.self (take l.place l.log);
  solver : IsSolver l.self;
  end : l.place-end ≡ length l.log;
}

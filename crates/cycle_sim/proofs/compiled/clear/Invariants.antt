use Rattle.std.proofs.Common.{drop}
use Rattle.cycle_code.specs.Program.{program_of}
use Rattle.cycle_code.specs.Fitting.{IsSound}
use Rattle.cycle_sim.specs.Compiled.{Pushes, cleared_now, none}
use Rattle.cycle_sim.proofs.compiled.clear.Given as goal

abbrev pub invariant-loop-k : goal.invariant-loop-k
invariant-loop-k l = record {
  pushes : Pushes (program_of l.initial.code) (program_of l.code) (cleared_now (drop l.k l.masks)) none;
  sound : IsSound (program_of l.code);
}

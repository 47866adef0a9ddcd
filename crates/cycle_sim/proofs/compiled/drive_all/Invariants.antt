use Rattle.std.proofs.Common.{drop}
use Rattle.design_core.specs.Drives.{is_driven}
use Rattle.cycle_code.specs.Program.{program_of}
use Rattle.cycle_code.specs.Fitting.{IsSound}
use Rattle.cycle_sim.specs.Compiled.{Pushes, numbers_now}
use Rattle.cycle_sim.proofs.compiled.drive_all.Given as goal

abbrev pub invariant-loop-k : goal.invariant-loop-k
invariant-loop-k l = record {
  pushes : Pushes (program_of l.initial.code) (program_of l.code) (numbers_now (drop l.k l.order)) (is_driven l.design);
  sound : IsSound (program_of l.code);
}

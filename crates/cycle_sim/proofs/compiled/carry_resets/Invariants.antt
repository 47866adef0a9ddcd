use Rattle.cycle_code.specs.Program.{program_of, Grown}
use Rattle.cycle_code.specs.Fitting.{IsSound}
use Rattle.cycle_sim.specs.Compiled.{CarriesReset}
use Rattle.cycle_sim.proofs.Ranges.{RangesSoFar}
use Rattle.cycle_sim.proofs.compiled.carry_resets.Given as goal

abbrev pub invariant-loop-block : goal.invariant-loop-block
invariant-loop-block l = record {
  grown : Grown (program_of l.initial.code) (program_of l.code);
  sound : IsSound (program_of l.code);
  ranges : RangesSoFar (CarriesReset (program_of l.code)) l.blocks l.ranges.items l.block-index;
}

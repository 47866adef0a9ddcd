use Rattle.std.proofs.Common.{◌≡◌, ℕ, true}
use Rattle.design_core.specs.Words.{valuation_of}
use Rattle.cycle_code.specs.Choosing.{as_choice}
use Rattle.design_core.specs.Drives.{is_register_bit}
use Rattle.design_core.specs.WellFormed.{IsWellFormed}
use Rattle.design_core.specs.DrivenOnce.{IsDrivenOnce}
use Rattle.cycle_code.specs.Program.{program_of}
use Rattle.cycle_sim.specs.Compiled.{AreCells, now_in, later_in}
use Rattle.cycle_sim.proofs.Bodies.{RunSoFar}
use Rattle.cycle_sim.proofs.block.run_blocks.Given as goal

abbrev pub invariant-loop-i : goal.invariant-loop-i
invariant-loop-i l =
    record {
      cells : AreCells (program_of l.code) l.cells;
      same : now_in (program_of l.code) (valuation_of l.cells) ≡ now_in (program_of l.code) (valuation_of l.initial.cells);
      run : IsWellFormed l.code.design.now → IsDrivenOnce l.code.design.now
          → ((s b : ℕ) → is_register_bit l.code.design.now s b ≡ true
          → later_in (program_of l.code) (valuation_of l.initial.cells) s b
          ≡ now_in (program_of l.code) (valuation_of l.initial.cells) s b)
          → RunSoFar l.code.design.now (as_choice l.choices) (now_in (program_of l.code) (valuation_of l.initial.cells))
          (later_in (program_of l.code) (valuation_of l.cells)) l.i;
    }

use Rattle.std.proofs.Common.{◌≡◌, ℕ, true, false}
use Rattle.design_core.specs.Valuation.{Valuation}
use Rattle.design_core.specs.Drives.{is_driven, is_register_bit}
use Rattle.design_core.specs.WellFormed.{IsWellFormed}
use Rattle.design_core.specs.DrivenOnce.{IsDrivenOnce}
use Rattle.design_core.specs.Words.{valuation_of}
use Rattle.cycle_code.specs.Choosing.{as_choice}
use Rattle.cycle_code.specs.Program.{program_of}
use Rattle.cycle_sim.specs.Compiled.{AreCells, now_in, later_in}
use Rattle.cycle_sim.proofs.Resets.{ResetSoFar}
use Rattle.cycle_sim.proofs.block.reset_blocks.Given as goal

abbrev pub invariant-loop-i : goal.invariant-loop-i
invariant-loop-i l =
    record {
      cells : AreCells (program_of l.code) l.cells;
      reset : IsWellFormed l.code.design.now → IsDrivenOnce l.code.design.now
          → ((s b : ℕ) → is_register_bit l.code.design.now s b ≡ true
          → later_in (program_of l.code) (valuation_of l.initial.cells) s b
          ≡ now_in (program_of l.code) (valuation_of l.initial.cells) s b)
          → (E : Valuation)
          → ((s b : ℕ) → is_driven l.code.design.now s b ≡ false → now_in (program_of l.code)
          (valuation_of l.initial.cells) s b ≡ E s b)
          → ResetSoFar l.code.design.now (as_choice l.choices) E (now_in (program_of l.code) (valuation_of l.cells))
          (later_in (program_of l.code) (valuation_of l.cells)) l.i;
    }

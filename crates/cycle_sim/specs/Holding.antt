-- How the fields of a simulator stand for what contracts see of it.
use Rattle.std.specs.Prelude.{ℕ, ◌≡◌, false, List, slice_get}
use Rattle.std.specs.Option.{option_map_or}
use Rattle.loc_base.specs.Bits.{bit_of}
use Rattle.design_core.specs.declared.signal.Signal.{Signal}
use Rattle.design_core.specs.declared.design.Design.{Design}
use Rattle.design_core.specs.Valuation.{Valuation}
use Rattle.design_core.specs.Drives.{is_driven, is_listed, is_register_bit}
use Rattle.design_core.specs.Steps.{kept}
use Rattle.design_core.specs.Words.{valuation_of}
use Rattle.cycle_code.specs.Program.{program_of}
use Rattle.cycle_sim.specs.declared.machine.Machine.{Machine}
use Rattle.cycle_sim.specs.declared.plan.Plan.{Plan}
use Rattle.cycle_sim.specs.Masks.{AreRegisters, AreSplit, AreDriverMasks, AreClockedMasks, widths_of}
use Rattle.cycle_sim.specs.Compiled.{AreCells, IsCompiled, now_in, later_in}
use Rattle.cycle_sim.specs.Simulated.{Simulated, IsSimulable, CanSimulate}

-- the start values of the signals, as a valuation
abbrev pub starts : List Signal → Valuation
starts signals s b = option_map_or (λ signal. bit_of signal.start b) (slice_get signals s) false

-- what the fields stand for
abbrev pub simulated_of : Machine → Simulated
simulated_of a = record {
  design = a.design.now;
  order = a.order.now;
  values = now_in (program_of a.compiled.code) (valuation_of a.cells.items);
  state = kept a.design.now (later_in (program_of a.compiled.code) (valuation_of a.cells.items));
}

-- the masks are those of the design
pub record IsPlan (d : Design) (plan : Plan) : Type 0 where
  pub registers : AreRegisters d plan.registers.masks.items
  pub split : AreSplit (widths_of d.signals.items) plan.registers
  pub drivers : AreDriverMasks d plan.drivers
  pub blocks : AreClockedMasks d plan.blocks.own plan.blocks.at_once plan.blocks.now

-- bits that are no input's, no register's and no driver's are 0
abbrev pub AreQuiet : Design → Valuation → Type 0
AreQuiet d V = (s b : ℕ) → is_listed d s ≡ false → is_register_bit d s b ≡ false → is_driven d s b ≡ false → V s b ≡ false

-- what holds of the fields
pub record IsHolding (a : Machine) : Type 0 where
  pub can : CanSimulate a.design.now a.order.now
  pub plan : IsPlan a.design.now a.plan
  pub compiled : IsCompiled a.design.now a.order.now a.compiled
  pub cells : AreCells (program_of a.compiled.code) a.cells.items
  pub quiet : IsSimulable a.design.now a.order.now
      → AreQuiet a.design.now (now_in (program_of a.compiled.code) (valuation_of a.cells.items))

-- What a simulator of a design holds, as contracts see it.
use Rattle.std.specs.Prelude.{ℕ, ◌≡◌, IsTrue, List, length, nat_lt}
use Rattle.std.specs.List.{list_all}
use Rattle.loc_base.specs.declared.bits.Bits.{Bits}
use Rattle.design_core.specs.declared.design.Design.{Design}
use Rattle.design_core.specs.Valuation.{Valuation}
use Rattle.design_core.specs.Constant.{zeros}
use Rattle.design_core.specs.After.{Choice}
use Rattle.design_core.specs.Cycle.{Cycle}
use Rattle.design_core.specs.Run.{start_state}
use Rattle.design_core.specs.WellFormed.{IsWellFormed}
use Rattle.design_core.specs.DrivenOnce.{IsDrivenOnce}
use Rattle.design_core.specs.Reads.{IsOrder}
use Rattle.design_core.specs.Given.{CanRun}

-- a design that has one cycle for all samples, states and choices: its drivers stand in an order, and each bit gets its
-- value once
pub record IsSimulable (d : Design) (order : List ℕ) : Type 0 where
  pub well_formed : IsWellFormed d
  pub once : IsDrivenOnce d
  pub ordered : IsOrder d order

-- what can be simulated without a fault: the design's signals and assignments fit, and the numbers are some of its drivers'
pub record CanSimulate (d : Design) (order : List ℕ) : Type 0 where
  pub can_run : CanRun d
  pub numbers : IsTrue (list_all (λ i. nat_lt i (length d.drivers.items)) order)

-- the design and the order of its drivers, the values of the last step, and the states with which the next one begins
pub record Simulated : Type 0 where
  pub design : Design
  pub order : List ℕ
  pub values : Valuation
  pub state : Valuation

-- before the first step: all values are 0, and each register has its start value
abbrev pub at_start : Design → List ℕ → Simulated
at_start d order = record { design = d; order = order; values = zeros; state = start_state d }

-- one step: in a design that has one cycle the values are those of the cycle, and the states its next ones
pub record Steps (samples : List Bits) (choice : Choice) (old new : Simulated) : Type 0 where
  pub design : new.design ≡ old.design
  pub order : new.order ≡ old.order
  pub cycle : IsSimulable old.design old.order → Cycle old.design samples old.state choice new.values new.state

-- Which call of a shelf or a sink in memory is to fail.
use Rattle.std.specs.Prelude.{◌≡◌, ℕ, Contains}
use Rattle.io_ports.specs.Faults.{one_more, Rose}
use Rattle.io_ports.specs.declared.fault_plan.FaultPlan.{FaultPlan}

-- a number names the next call
abbrev pub IsNextToFail : FaultPlan → Type 0
IsNextToFail plan = Contains plan.fails.items plan.calls

-- one call was counted
abbrev pub Counts : FaultPlan → FaultPlan → Type 0
Counts old new = (new.fails ≡ old.fails) × (new.calls ≡ one_more old.calls)

-- one fault was counted, so that the count rose
abbrev pub IsOneMore : ℕ → ℕ → Type 0
IsOneMore old new = (new ≡ one_more old) × Rose old new

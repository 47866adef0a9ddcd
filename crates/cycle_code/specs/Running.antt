-- A run: from a number down, until the number is at most another one.
use Rattle.std.specs.Prelude.{ℕ, zero, suc, ◌-◌, if◌then◌else◌, nat_le, slice_get}
use Rattle.std.specs.Option.{option_map_or}
use Rattle.design_core.specs.Valuation.{Valuation}
use Rattle.design_core.specs.After.{Choice}
use Rattle.cycle_code.specs.Program.{Program}
use Rattle.cycle_code.specs.Effects.{effect, next}

-- what at most a number of instructions leave, from the number `at` down to `to`
unfoldable pub run_for : ℕ → Program → Choice → ℕ → ℕ → Valuation → Valuation
run_for zero p choice to at V = V
run_for (suc fuel) p choice to at V =
    if nat_le at to then V
    else option_map_or (λ i. run_for fuel p choice to (next p i (at - 1) V) (effect p choice i V)) (slice_get p.instructions (at - 1)) V

-- what the run leaves: each instruction leads down, so that it takes no more of them than its number
unfoldable pub run : Program → Choice → ℕ → ℕ → Valuation → Valuation
run p choice to at V = run_for at p choice to at V

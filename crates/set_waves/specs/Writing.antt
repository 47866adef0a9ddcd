-- Private, for the functions inside this crate: what writes waves.
use Rattle.std.specs.Prelude.{ℕ, ◌≡◌, ◌+◌, ◌<◌, ◌^◌, List, length, slice_get, Some}
use Rattle.design_core.specs.declared.trace.Trace.{Trace}
use Rattle.design_core.specs.declared.values.Values.{Values}
use Rattle.design_core.specs.Explained.{choices_in, cycles_before, is_one_of}
use Rattle.design_core.specs.Run.{IsRun}
use Rattle.design_core.specs.Valuation.{Valuation}
use Rattle.cycle_sim.specs.Misses.{AreValuesFor}
use Rattle.cycle_sim.specs.Simulator.{IsSim, held_by}
use Rattle.set_waves.specs.declared.writer.Shown.{Shown}
use Rattle.set_waves.specs.declared.writer.Writer.{Writer}
use Rattle.set_waves.specs.Waved.{CanBeWaved, Waved, waved_of}

-- what is true of each writer
pub record IsWriter (w : Writer) : Type 0 where
  pub sim : IsSim w.sim
  pub design : (held_by w.sim).design ≡ w.waves.design.now
  pub order : (held_by w.sim).order ≡ w.waves.order.now
  pub can : CanBeWaved (waved_of w.waves) w.waves.order.now

-- one of the traces, with values of places of the design
pub record IsShown (w : Waved) (shown : Shown) : Type 0 where
  pub within : shown.trace < length w.traces
  pub first : shown.first ≡ cycles_before w.traces shown.trace
  pub numbered : shown.trace + 1 < 2 ^ 64
  pub values : AreValuesFor w.design w.traces shown.values.now

-- a run of a trace of a number, with values that are chosen for places
abbrev pub IsRunWith : Waved → Values → ℕ → Trace → List Valuation → Type 0
IsRunWith w values j trace run = IsRun w.design trace (is_one_of values.places.items) (choices_in w.traces values j) run

-- and one for each trace
abbrev pub AreRunsWith : Waved → Values → (ℕ → List Valuation) → Type 0
AreRunsWith w values runs = (j : ℕ) (trace : Trace) → slice_get w.traces j ≡ Some trace → IsRunWith w values j trace (runs j)

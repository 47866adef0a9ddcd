-- Private, for the functions inside this crate: what is known while a trace is simulated.
use Rattle.std.specs.Prelude.{ℕ, ◌≡◌, ◌<◌, Bool, false, List, length, All, Option, Some, None}
use Rattle.loc_base.specs.declared.bits.Bits.{Bits}
use Rattle.loc_base.specs.Bits.{value_of}
use Rattle.design_core.specs.declared.design.Design.{Design}
use Rattle.design_core.specs.After.{Choice}
use Rattle.design_core.specs.declared.trace.Checked.{Checked}
use Rattle.design_core.specs.Run.{IsRight}
use Rattle.design_core.specs.Valuation.{Valuation}
use Rattle.cycle_sim.specs.Replaying.{FirstWrong}
use Rattle.cycle_sim.specs.Simulator.{IsSim, held_by}
use Rattle.sim_lines.specs.declared.lines.Wrong.{Wrong}
use Rattle.sim_lines.specs.declared.runner.Runner.{Runner}
use Rattle.sim_lines.specs.Lines.{no_place}
use Rattle.sim_lines.specs.CanShow.{CanShow}

-- the outputs are signals
abbrev pub AreSignals : Design → List ℕ → Type 0
AreSignals d outputs = All (λ s. s < length d.signals.items) outputs

-- an entry for each place, none of them freed, each with the value 0
pub record FreesNone (d : Design) (freed : List Bool) (choice : List Bits) : Type 0 where
  pub frees : length freed ≡ length d.places.items
  pub values : length choice ≡ length d.places.items
  pub none : All (λ b. b ≡ false) freed
  pub zeros : All (λ w. value_of w ≡ 0) choice

abbrev pub design_of : Runner → Design
design_of r = (held_by r.sim).design

abbrev pub order_of : Runner → List ℕ
order_of r = (held_by r.sim).order

-- what is true of each runner
pub record IsRunner (r : Runner) : Type 0 where
  pub sim : IsSim r.sim
  pub design : r.design.now ≡ design_of r
  pub frees : FreesNone (design_of r) r.freed.items r.choice.items
  pub can : CanShow (design_of r) (order_of r)

-- it runs the same design in the same order
pub record IsSameRunner (old new : Runner) : Type 0 where
  pub design : design_of new ≡ design_of old
  pub order : order_of new ≡ order_of old

-- nothing is chosen
abbrev pub no_choice : Choice
no_choice = record { frees = no_place; chosen = λ p. 0 }

-- where a miss is in its trace
abbrev pub place_of : Wrong → ℕ × ℕ
place_of miss = (miss.cycle, miss.output)

-- where a trace first is not right up to a cycle, by where it first is not before it
abbrev pub EndAfter : Design → List Checked → Valuation → ℕ → Option Wrong → Option Wrong → Type 0
EndAfter d expected V t (Some miss) after = after ≡ Some miss
EndAfter d expected V t None None = IsRight d expected V
EndAfter d expected V t None (Some miss) = (miss.cycle ≡ t) × FirstWrong d expected V (Some miss.output)

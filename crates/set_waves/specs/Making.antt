-- Private, for the functions inside this crate: what is known while a wave is made.
use Rattle.std.specs.Prelude.{◌≡◌, ◌+◌, ◌-◌, ◌*◌, ◌<◌, ◌≤◌, ◌^◌, List, length, map, All}
use Rattle.std.specs.List.{flat_map}
use Rattle.loc_base.specs.declared.bits.Bits.{Bits}
use Rattle.loc_base.specs.Bits.{value_of, width_of}
use Rattle.design_core.specs.declared.design.Design.{Design}
use Rattle.design_core.specs.Explained.{is_one_of}
use Rattle.design_core.specs.Given.{AreChosen}
use Rattle.design_core.specs.Run.{IsRun}
use Rattle.design_core.specs.TraceFits.{IsTraceOf}
use Rattle.design_core.specs.Valuation.{Valuation}
use Rattle.cycle_sim.specs.Replaying.{AreReady, choices_from}
use Rattle.cycle_sim.specs.Simulated.{IsSimulable, Simulated}
use Rattle.vcd_waves.specs.Lines.{Shown}
use Rattle.set_waves.specs.declared.entries.Entries.{Entries}
use Rattle.set_waves.specs.declared.rerun.Rerun.{Rerun}
use Rattle.set_waves.specs.Scenes.{given}

-- a word of which every bit is known
abbrev pub all_known : Bits → Shown
all_known word = record { width = width_of word; value = value_of word; mask = 2 ^ width_of word - 1 }

-- the outputs of the cycles of a run
abbrev pub given_in : Design → List Valuation → List Shown
given_in d run = flat_map (λ V. map (given d V) d.outputs.items) run

-- a trace of a design, and values of places of it: the rows from the first on are those of the trace's cycles
pub record IsRerun (s : Rerun) : Type 0 where
  pub trace : IsTraceOf s.design.now s.trace.now
  pub outputs : All (λ o. o < length s.design.now.signals.items) s.design.now.outputs.items
  pub places : All (λ p. p < length s.design.now.places.items) s.values.now.places.items
  pub rows : (s.first + s.trace.now.cycles) * length s.values.now.places.items ≤ length s.values.now.rows.items
  pub numbers : s.first + s.trace.now.cycles < 2 ^ 64

-- the entries free the places of the values alone
pub record AreEntries (s : Rerun) (e : Entries) : Type 0 where
  pub chosen : AreChosen s.design.now e.freed.items e.choice.items
  pub ready : AreReady s.values.now e.freed.items e.choice.items

-- the design of a simulator is that of a rerun, and has one cycle for all samples and states
pub record Simulates (s : Rerun) (held : Simulated) : Type 0 where
  pub design : held.design ≡ s.design.now
  pub simulable : IsSimulable held.design held.order

-- the simulator has the same design and order
pub record IsSameSim (old new : Simulated) : Type 0 where
  pub design : new.design ≡ old.design
  pub order : new.order ≡ old.order

-- a run of the trace with the places freed
abbrev pub IsRunOf : Rerun → List Valuation → Type 0
IsRunOf s run = IsRun s.design.now s.trace.now (is_one_of s.values.now.places.items) (choices_from s.values.now s.first) run

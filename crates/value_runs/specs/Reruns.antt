-- A trace that is run again with values for places, and the entries by which a simulator takes them.
use Rattle.std.specs.Prelude.{ℕ, ◌≡◌, ◌+◌, ◌*◌, ◌<◌, ◌≤◌, ◌^◌, List, length, All}
use Rattle.design_core.specs.Explained.{is_one_of}
use Rattle.design_core.specs.Given.{AreChosen}
use Rattle.design_core.specs.Run.{IsRun, choice_at}
use Rattle.design_core.specs.TraceFits.{IsTraceOf}
use Rattle.design_core.specs.Valuation.{Valuation}
use Rattle.design_core.specs.Words.{choice_of}
use Rattle.cycle_sim.specs.Replaying.{AreReady, choices_from}
use Rattle.value_runs.specs.declared.entries.Entries.{Entries}
use Rattle.value_runs.specs.declared.rerun.Rerun.{Rerun}

-- a trace of a design, and values of places of it: the rows from the first on are those of the trace's cycles
pub record IsRerun (r : Rerun) : Type 0 where
  pub trace : IsTraceOf r.design.now r.trace.now
  pub places : All (λ p. p < length r.design.now.places.items) r.values.now.places.items
  pub rows : (r.first + r.trace.now.cycles) * length r.values.now.places.items ≤ length r.values.now.rows.items
  pub numbers : r.first + r.trace.now.cycles < 2 ^ 64

-- the entries free the places of the values alone
pub record AreEntries (r : Rerun) (e : Entries) : Type 0 where
  pub chosen : AreChosen r.design.now e.freed.items e.choice.items
  pub ready : AreReady r.values.now e.freed.items e.choice.items

-- and choose for them the values of a cycle
abbrev pub ChoosesAt : Rerun → ℕ → Entries → Type 0
ChoosesAt r t e = choice_of e.freed.items e.choice.items ≡ choice_at (is_one_of r.values.now.places.items) (choices_from r.values.now r.first) t

-- a run of the trace with the places freed, and the values chosen for them
abbrev pub IsRunOf : Rerun → List Valuation → Type 0
IsRunOf r run = IsRun r.design.now r.trace.now (is_one_of r.values.now.places.items) (choices_from r.values.now r.first) run

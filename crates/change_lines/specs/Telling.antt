-- Private, for the functions inside this crate: what is told of, as code has it. `CanBeListed` is what is asked of a caller.
use Rattle.std.specs.Prelude.{ℕ, ◌≡◌, ◌<◌, ◌^◌, ◌+◌, List, length, map, All}
use Rattle.design_core.specs.declared.trace.Trace.{Trace}
use Rattle.design_core.specs.declared.values.SetWithValues.{SetWithValues}
use Rattle.design_core.specs.Explained.{IsRow, cycles_before, place_width, row_of}
use Rattle.design_core.specs.TraceFits.{IsTraceOf}
use Rattle.suspect_map.specs.declared.group.Group.{Group}
use Rattle.cycle_sim.specs.Simulated.{IsSimulable, Simulated}
use Rattle.changes.specs.Moments.{choice_in}
use Rattle.value_runs.specs.Reruns.{IsRerun}
use Rattle.change_lines.specs.declared.change.Site.{Site as SiteInCode}
use Rattle.change_lines.specs.declared.set.Listed.{Listed}
use Rattle.change_lines.specs.declared.trace.Scene.{Scene}
use Rattle.change_lines.specs.Lines.{Site, Told}

-- the places of a suspect
abbrev pub places_in : Group → List ℕ
places_in group = group.places

-- ---- a cycle
abbrev pub site_in : SiteInCode → Site
site_in s = record {
  design = s.moment.design.now;
  groups = map places_in s.groups.now;
  members = s.members.now;
  trace = s.trace;
  cycle = s.cycle;
}

-- what a place takes has its width
abbrev pub IsTaken : SiteInCode → ℕ → Type 0
IsTaken s p = (choice_in s.moment).chosen p < 2 ^ place_width s.moment.design.now p

-- ---- a trace
abbrev pub told_in : Scene → Told
told_in s = record {
  design = s.rerun.design.now;
  groups = map places_in s.groups.now;
  members = s.members.now;
  values = s.rerun.values.now;
}

-- it can be run again, with rows of words of the places' widths
pub record IsScene (s : Scene) : Type 0 where
  pub rerun : IsRerun s.rerun
  pub few : length s.rerun.design.now.signals.items < 2 ^ 32
  pub rows : (t : ℕ) → t < s.rerun.trace.now.cycles
      → IsRow s.rerun.design.now s.rerun.values.now.places.items (row_of s.rerun.values.now.places.items s.rerun.values.now.rows.items (s.rerun.first + t))

-- the design of a simulator is that of a scene, and has one cycle for all samples and states
pub record Simulates (s : Scene) (held : Simulated) : Type 0 where
  pub design : held.design ≡ s.rerun.design.now
  pub simulable : IsSimulable held.design held.order

-- the simulator has the same design and order
pub record IsSameSim (old new : Simulated) : Type 0 where
  pub design : new.design ≡ old.design
  pub order : new.order ≡ old.order

-- ---- a set
-- the simulator is one of the design, which has one cycle for all samples and states; the traces are of it, and their cycles have numbers
pub record CanBeListed (l : Listed) (held : Simulated) : Type 0 where
  pub design : held.design ≡ l.design.now
  pub simulable : IsSimulable held.design held.order
  pub few_signals : length l.design.now.signals.items < 2 ^ 32
  pub traces : All (IsTraceOf l.design.now) l.traces.now
  pub few_traces : length l.traces.now < 2 ^ 32
  pub few_cycles : cycles_before l.traces.now (length l.traces.now) < 2 ^ 32

abbrev pub told_of : Listed → SetWithValues → Told
told_of l set = record {
  design = l.design.now;
  groups = map places_in l.groups.now;
  members = set.members;
  values = set.values;
}

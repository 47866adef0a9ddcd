-- What loading and reading texts leaves: the shelf's faults, the trace at which reading stops, and a refusal that comes
-- although a text means something.
use Rattle.std.specs.Prelude.{ℕ, ◌≡◌, ◌⊎◌, List, [], take, slice_get, unwrap_or, Some, Result, Ok, Err}
use Rattle.io_ports.specs.Faults.{FaultCounts, LoadRoseOf}
use Rattle.command_contract.specs.Contract.{Texts}
use Rattle.design_core.specs.declared.design.Design.{Design}
use Rattle.design_core.specs.declared.trace.Trace.{Trace}
use Rattle.load_texts.specs.declared.faults.LoadFault.TheVariants as load
use Rattle.load_texts.specs.declared.faults.DesignFault.{DesignFault}
use Rattle.load_texts.specs.declared.faults.DesignFault.TheVariants as design
use Rattle.load_texts.specs.declared.faults.TraceFault.{TraceFault}
use Rattle.load_texts.specs.declared.faults.TraceFault.TheVariants as trace
use Rattle.requests.specs.Asked.{SourcesAsked}
use Rattle.load_texts.specs.By.{manner_asked}
use Rattle.load_texts.specs.Causes.{TraceCause}
use Rattle.load_texts.specs.Means.{MeansTrace, MeanTraces}
use Rattle.load_texts.specs.Refusals.{design_fault_status, trace_fault_status}

-- ---- the shelf's faults, after the text under a name was loaded
abbrev pub DesignCounts : List ℕ → FaultCounts → FaultCounts → DesignFault → Type 0
DesignCounts name old new (design.Load load.Fault) = LoadRoseOf name old new
DesignCounts name old new (design.Load load.Size) = new ≡ old
DesignCounts name old new (design.Load load.NoMemory) = new ≡ old
DesignCounts name old new (design.Text fault) = new ≡ old

abbrev pub TraceCounts : List ℕ → FaultCounts → FaultCounts → TraceFault → Type 0
TraceCounts name old new (trace.Load load.Fault) = LoadRoseOf name old new
TraceCounts name old new (trace.Load load.Size) = new ≡ old
TraceCounts name old new (trace.Load load.NoMemory) = new ≡ old
TraceCounts name old new (trace.Text fault) = new ≡ old

-- the design's, and a trace's
abbrev pub CountsOfDesign : {X : Type 0} → List ℕ → FaultCounts → FaultCounts → Result X DesignFault → Type 0
CountsOfDesign name old new (Ok _) = new ≡ old
CountsOfDesign name old new (Err fault) = DesignCounts name old new fault

abbrev pub CountsOfTrace : {X : Type 0} → List ℕ → FaultCounts → FaultCounts → Result X TraceFault → Type 0
CountsOfTrace name old new (Ok _) = new ≡ old
CountsOfTrace name old new (Err fault) = TraceCounts name old new fault

-- the name of the text of the trace at a place
abbrev pub trace_at : SourcesAsked → ℕ → List ℕ
trace_at asked place = unwrap_or (slice_get asked.texts.traces place) []

-- the traces before a place are read, and the one there is refused
pub record StopsAt (texts : Texts) (asked : SourcesAsked) (d : Design) (place : ℕ) (fault : TraceFault) : Type 0 where
  pub before : List Trace
  pub mean : MeanTraces texts (manner_asked asked) d (take place asked.texts.traces) before
  pub name : List ℕ
  pub at : slice_get asked.texts.traces place ≡ Some name
  pub cause : TraceCause (texts name) d (manner_asked asked) fault

-- a refusal that comes although the text means a design, or a trace: a fault of the shelf, or want of memory
abbrev pub DesignSpared : DesignFault → Type 0
DesignSpared fault = (design_fault_status fault ≡ 5) ⊎ (design_fault_status fault ≡ 7)

abbrev pub TraceSpared : TraceFault → Type 0
TraceSpared fault = (trace_fault_status fault ≡ 5) ⊎ (trace_fault_status fault ≡ 7)

-- the text under a name means some trace
abbrev pub HasTrace : Texts → SourcesAsked → Design → List ℕ → Type 0
HasTrace texts asked d name = (found : Trace) × MeansTrace texts (manner_asked asked) d name found

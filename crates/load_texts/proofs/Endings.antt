-- From the fault of a text to the line that says so.
use Rattle.std.proofs.Common.{ℕ, ◌+◌, ◌≡◌, List, sym, subst, ◌∙◌, arith, Some, ◌⊎◌, inl, inr}
use Rattle.std.specs.Prelude.{slice_get}
use Rattle.io_ports.specs.Faults.{FaultCounts}
use Rattle.command_contract.specs.Contract.{Texts}
use Rattle.command_contract.proofs.Statuses.{input-range}
use Rattle.design_core.specs.declared.design.Design.{Design}
use Rattle.design_core.specs.declared.signal.Signal.{Signal}
use Rattle.front_end.specs.Means.{Refusing}
use Rattle.refusal.specs.declared.last_line.LastLine.{LastLine}
use Rattle.refusal.specs.declared.last_line.LastLine.TheVariants.{Line, Memory}
use Rattle.refusal.specs.Ends.{HasCause, HasStatus, IsSpared, RefusalCounts, Says}
use Rattle.load_texts.specs.declared.faults.DesignFault.{DesignFault}
use Rattle.load_texts.specs.declared.faults.TraceFault.{TraceFault}
use Rattle.requests.specs.Asked.{SourcesAsked}
use Rattle.load_texts.specs.Causes.{DesignCause}
use Rattle.load_texts.specs.Lines.{DesignRefused, TracesRefused, design_refused, trace_refused}
use Rattle.load_texts.specs.Loading.{DesignCounts, DesignSpared, StopsAt, TraceCounts, TraceSpared, trace_at}
use Rattle.load_texts.specs.Refusals.{design_fault_line, design_fault_status, trace_fault_line, trace_fault_status}
use Rattle.load_texts.proofs.Counting.{design-named, design-stays, trace-named_at, trace-stays}

-- what a line says has the cause of that
pub said : (P : ℕ → List ℕ → Type 0) (r : LastLine) (status : ℕ) (line : List ℕ) → P status line → Says r status line → HasCause P r
said P (Line s l) status line holds (e, f) =
    subst (λ n. P n l.items) (sym e) (subst (λ (text : List ℕ). P status text) (sym f) holds)
said P Memory status line holds says = tt

-- a line that says a fault of the shelf, or want of memory
pub spared : (r : LastLine) (status : ℕ) (line : List ℕ) → HasStatus r → Says r status line → (status ≡ 5) ⊎ (status ≡ 7) → IsSpared r
spared (Line s l) status line has (e, f) (inl five) = e ∙ five
spared (Line s l) status line has (e, f) (inr seven) = absurd (omega (arith, e, seven, input-range s has))
spared Memory status line has says which = tt

-- ---- the design
-- its line by another form of its name
pub design-says : (r : LastLine) (fault : DesignFault) (given name : List ℕ) → given ≡ name
    → Says r (design_fault_status fault) (design_fault_line given fault) → Says r (design_fault_status fault) (design_fault_line name fault)
design-says r fault given name same says =
    subst (λ (n : List ℕ). Says r (design_fault_status fault) (design_fault_line n fault)) same says

pub design-cause : (R : Refusing) (asked : SourcesAsked) (texts : Texts) (fault : DesignFault) (r : LastLine)
    → DesignCause R asked texts fault → Says r (design_fault_status fault) (design_fault_line asked.texts.design fault)
    → HasCause (DesignRefused R asked texts) r
design-cause R asked texts fault r cause says =
    said (DesignRefused R asked texts) r (design_fault_status fault) (design_fault_line asked.texts.design fault)
    (design_refused fault cause) says

pub design-spared : (fault : DesignFault) (r : LastLine) (name : List ℕ) → HasStatus r
    → Says r (design_fault_status fault) (design_fault_line name fault) → DesignSpared fault → IsSpared r
design-spared fault r name has says which =
    spared r (design_fault_status fault) (design_fault_line name fault) has says which

pub design-counts : (old new : FaultCounts) (name : List ℕ) (fault : DesignFault) (r : LastLine)
    → Says r (design_fault_status fault) (design_fault_line name fault) → DesignCounts name old new fault → RefusalCounts old new r
design-counts old new name fault (Line s l) (e, f) counts = (
  λ five.
      let named = design-named name old new fault counts (sym e ∙ five) in
      (named.0, f ∙ named.1),
  λ other. design-stays name old new fault counts (λ five. other (e ∙ five)),
)
design-counts old new name fault Memory says counts = tt

-- ---- a trace
pub trace-cause : (asked : SourcesAsked) (texts : Texts) (d : Design) (place : ℕ) (fault : TraceFault) (r : LastLine)
    (signals : List Signal) (name : List ℕ) (number : ℕ) → signals ≡ d.signals.items → number ≡ place + 1
    → slice_get asked.texts.traces place ≡ Some name → StopsAt texts asked d place fault
    → Says r (trace_fault_status fault) (trace_fault_line signals name number fault)
    → HasCause (TracesRefused asked texts d) r
trace-cause asked texts d place fault r signals name number of counted at stops says =
    said (TracesRefused asked texts d) r (trace_fault_status fault) (trace_fault_line d.signals.items name (place + 1) fault)
    (trace_refused place name fault stops at)
    (subst (λ (n : ℕ). Says r (trace_fault_status fault) (trace_fault_line d.signals.items name n fault)) counted
    (subst (λ (s : List Signal). Says r (trace_fault_status fault) (trace_fault_line s name number fault)) of says))

pub trace-spared : (fault : TraceFault) (r : LastLine) (line : List ℕ) → HasStatus r → Says r (trace_fault_status fault) line
    → TraceSpared fault → IsSpared r
trace-spared fault r line has says which = spared r (trace_fault_status fault) line has says which

pub trace-counts : (old new : FaultCounts) (asked : SourcesAsked) (place : ℕ) (signals : List Signal) (name : List ℕ) (number : ℕ)
    (fault : TraceFault) (r : LastLine) → slice_get asked.texts.traces place ≡ Some name
    → Says r (trace_fault_status fault) (trace_fault_line signals name number fault)
    → TraceCounts (trace_at asked place) old new fault → RefusalCounts old new r
trace-counts old new asked place signals name number fault (Line s l) at (e, f) counts = (
  λ five.
      let named = trace-named_at signals asked place name number old new fault at counts (sym e ∙ five) in
      (named.0, f ∙ named.1),
  λ other. trace-stays (trace_at asked place) old new fault counts (λ five. other (e ∙ five)),
)
trace-counts old new asked place signals name number fault Memory at says counts = tt

-- Why there is no design, and no traces, by the status and the line that a run ends with.
use Rattle.std.specs.Prelude.{ℕ, ◌≡◌, ◌+◌, List, slice_get, Some}
use Rattle.command_contract.specs.Contract.{Texts}
use Rattle.design_core.specs.declared.design.Design.{Design}
use Rattle.front_end.specs.Means.{Refusing}
use Rattle.load_texts.specs.declared.faults.DesignFault.{DesignFault}
use Rattle.load_texts.specs.declared.faults.TraceFault.{TraceFault}
use Rattle.requests.specs.Asked.{SourcesAsked}
use Rattle.load_texts.specs.Causes.{DesignCause}
use Rattle.load_texts.specs.Loading.{StopsAt}
use Rattle.load_texts.specs.Refusals.{design_fault_line, design_fault_status, trace_fault_line, trace_fault_status}

-- the design's text is refused
pub data DesignRefused (R : Refusing) (asked : SourcesAsked) (texts : Texts) : ℕ → List ℕ → Type 0 where
  design_refused : (fault : DesignFault) → DesignCause R asked texts fault
      → DesignRefused R asked texts (design_fault_status fault) (design_fault_line asked.texts.design fault)

-- the texts of the traces before a place are read, and the one there, counted from 1, is refused
pub data TracesRefused (asked : SourcesAsked) (texts : Texts) (d : Design) : ℕ → List ℕ → Type 0 where
  trace_refused : (place : ℕ) (name : List ℕ) (fault : TraceFault) → StopsAt texts asked d place fault
      → slice_get asked.texts.traces place ≡ Some name
      → TracesRefused asked texts d (trace_fault_status fault) (trace_fault_line d.signals.items name (place + 1) fault)

-- Why a text is refused: it isn't handed over, or it is, and means nothing; and the trace at which reading stops.
use Rattle.std.specs.Prelude.{ℕ, ◌≡◌, ◌≢◌, ◌<◌, List, length, take, slice_get, Option, Some, IsSomeAnd}
use Rattle.command_contract.specs.Contract.{Texts}
use Rattle.design_core.specs.declared.design.Design.{Design}
use Rattle.design_core.specs.declared.trace.Trace.{Trace}
use Rattle.vcd_reading.specs.declared.error.VcdErr.TheVariants as vcd
use Rattle.vcd_traces.specs.Samples.{IsRefused, Manner}
use Rattle.front_end.specs.Means.{Meaning, Refuses, Refusing}
use Rattle.load_texts.specs.declared.faults.LoadFault.{LoadFault}
use Rattle.load_texts.specs.declared.faults.LoadFault.TheVariants as load
use Rattle.load_texts.specs.declared.faults.DesignFault.{DesignFault}
use Rattle.load_texts.specs.declared.faults.DesignFault.TheVariants as design
use Rattle.load_texts.specs.declared.faults.TraceFault.{TraceFault}
use Rattle.load_texts.specs.declared.faults.TraceFault.TheVariants as trace
use Rattle.load_texts.specs.By.{by_of, manner_asked}
use Rattle.requests.specs.Asked.{SourcesAsked}
use Rattle.load_texts.specs.Means.{IsReadAnd, MeansDesign, MeanTraces, most_bytes}

-- a text that isn't handed over: too big only where it is; of a fault and of want of memory nothing is said here
abbrev pub LoadCause : Option (List ℕ) → LoadFault → Type 0
LoadCause text load.Size = IsSomeAnd text (λ bytes. most_bytes < length bytes)
LoadCause text load.Fault = Unit {0}
LoadCause text load.NoMemory = Unit {0}

-- the design's text is refused: it isn't handed over, or it is, and means no design
abbrev pub DesignCause : Refusing → SourcesAsked → Texts → DesignFault → Type 0
DesignCause R asked texts (design.Load fault) = LoadCause (texts asked.texts.design) fault
DesignCause R asked texts (design.Text refusal) =
    IsReadAnd (texts asked.texts.design) (λ text. Refuses (R text (by_of asked)) refusal)

-- and that of a trace
abbrev pub TraceCause : Option (List ℕ) → Design → Manner → TraceFault → Type 0
TraceCause text d manner (trace.Load fault) = LoadCause text fault
TraceCause text d manner (trace.Text fault) = IsReadAnd text (λ bytes. fault ≢ vcd.NoMemory → IsRefused bytes d manner fault)

-- the design's text means a design, those of the traces before one mean traces of it, and that one's is refused
pub record TraceRefused (M : Meaning) (asked : SourcesAsked) (texts : Texts)
    (d : Design) (place : ℕ) (name : List ℕ) (fault : TraceFault) : Type 0 where
  pub design : MeansDesign M asked texts d
  pub before : List Trace
  pub mean : MeanTraces texts (manner_asked asked) d (take place asked.texts.traces) before
  pub at : slice_get asked.texts.traces place ≡ Some name
  pub cause : TraceCause (texts name) d (manner_asked asked) fault

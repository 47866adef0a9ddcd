-- Private, for the functions inside this crate: a text that is loaded, and what is read of it.
use Rattle.std.specs.Prelude.{ℕ, ◌+◌, ◌≡◌, ◌≢◌, ◌≤◌, List, length, take, slice_get, Option, Some, Result, Ok, Err}
use Rattle.io_ports.specs.Faults.{FaultCounts, LoadRoseOf}
use Rattle.command_contract.specs.Contract.{Texts}
use Rattle.design_core.specs.declared.design.Design.{Design}
use Rattle.design_core.specs.declared.trace.Trace.{Trace}
use Rattle.vcd_reading.specs.declared.error.VcdErr.TheVariants as vcd
use Rattle.vcd_traces.specs.Samples.{IsRefused, Manner}
use Rattle.refusal.specs.declared.code.Code.{Code}
use Rattle.front_end.specs.Means.{Refuses}
use Rattle.load_texts.specs.declared.faults.LoadFault.{LoadFault}
use Rattle.load_texts.specs.declared.faults.LoadFault.TheVariants as load
use Rattle.load_texts.specs.declared.faults.DesignFault.{DesignFault}
use Rattle.load_texts.specs.declared.faults.DesignFault.TheVariants as design
use Rattle.load_texts.specs.declared.faults.TraceFault.{TraceFault}
use Rattle.load_texts.specs.declared.faults.TraceFault.TheVariants as trace
use Rattle.requests.specs.Asked.{SourcesAsked}
use Rattle.load_texts.specs.By.{manner_asked}
use Rattle.load_texts.specs.Causes.{LoadCause, TraceCause}
use Rattle.load_texts.specs.Means.{AreKeptOf, MeanTraces, most_bytes}

-- a text that is handed over
pub record IsLoaded (text : Option (List ℕ)) (loaded : List ℕ) : Type 0 where
  pub is : text ≡ Some loaded
  pub short : length loaded ≤ most_bytes

-- the text under a name, or why it isn't handed over
abbrev pub Loads : Option (List ℕ) → Result (List ℕ) LoadFault → Type 0
Loads text (Ok loaded) = IsLoaded text loaded
Loads text (Err fault) = LoadCause text fault

-- the same, as the design's and as a trace's
abbrev pub LoadsDesign : Option (List ℕ) → Result (List ℕ) DesignFault → Type 0
LoadsDesign text (Ok loaded) = IsLoaded text loaded
LoadsDesign text (Err (design.Load fault)) = LoadCause text fault
LoadsDesign text (Err (design.Text fault)) = ⊥

abbrev pub LoadsTrace : Option (List ℕ) → Result (List ℕ) TraceFault → Type 0
LoadsTrace text (Ok loaded) = IsLoaded text loaded
LoadsTrace text (Err (trace.Load fault)) = LoadCause text fault
LoadsTrace text (Err (trace.Text fault)) = ⊥

-- a text that is there is refused
abbrev pub RefusesText : (Code → Type 0) → DesignFault → Type 0
RefusesText R (design.Load _) = ⊥
RefusesText R (design.Text refusal) = Refuses R refusal

abbrev pub RefusesDump : List ℕ → Design → Manner → TraceFault → Type 0
RefusesDump text d manner (trace.Load _) = ⊥
RefusesDump text d manner (trace.Text fault) = fault ≢ vcd.NoMemory → IsRefused text d manner fault

-- the shelf's faults, after the text under a name was loaded
abbrev pub LoadCounts : {X : Type 0} → List ℕ → FaultCounts → FaultCounts → Result X LoadFault → Type 0
LoadCounts name old new (Ok _) = new ≡ old
LoadCounts name old new (Err load.Fault) = LoadRoseOf name old new
LoadCounts name old new (Err load.Size) = new ≡ old
LoadCounts name old new (Err load.NoMemory) = new ≡ old

-- the traces before a place and then the one there, or why it is refused
abbrev pub ReadsNext : {X : Type 0}
    → Texts → SourcesAsked → Design → ℕ → List Trace → List Trace → Result X TraceFault → Type 0
ReadsNext texts asked d place old new (Ok _) =
    MeanTraces texts (manner_asked asked) d (take place asked.texts.traces) old
    → MeanTraces texts (manner_asked asked) d (take (place + 1) asked.texts.traces) new
ReadsNext texts asked d place old new (Err fault) =
    (name : List ℕ) × (slice_get asked.texts.traces place ≡ Some name) × TraceCause (texts name) d (manner_asked asked) fault

-- what is kept of the texts before a place, and then of the one there
abbrev pub KeepsNext : {X K : Type 0}
    → (K → List ℕ → Type 0) → Texts → SourcesAsked → ℕ → List K → List K → Result X TraceFault → Type 0
KeepsNext is_of texts asked place old new (Ok _) =
    AreKeptOf is_of texts (take place asked.texts.traces) old → AreKeptOf is_of texts (take (place + 1) asked.texts.traces) new
KeepsNext is_of texts asked place old new (Err fault) = Unit {0}

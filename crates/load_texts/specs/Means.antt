-- Which design and which traces the texts mean.
use Rattle.std.specs.Prelude.{ℕ, ◌≤◌, List, length, Option, IsSomeAnd}
use Rattle.std.specs.List.{AllZip}
use Rattle.command_contract.specs.Contract.{Texts}
use Rattle.design_core.specs.declared.design.Design.{Design}
use Rattle.design_core.specs.declared.trace.Trace.{Trace}
use Rattle.design_core.specs.TraceFits.{IsTraceOf}
use Rattle.front_end.specs.Means.{Meaning}
use Rattle.load_texts.specs.By.{by_of, manner_asked}
use Rattle.requests.specs.Asked.{SourcesAsked}
use Rattle.vcd_traces.specs.Samples.{HasSamples, Manner}

-- the most bytes that a text may have
abbrev pub most_bytes : ℕ
most_bytes = 1073741824

-- a text is there, it is short enough to be read, and something holds of it
abbrev pub IsReadAnd : Option (List ℕ) → (List ℕ → Type 0) → Type 0
IsReadAnd text P = IsSomeAnd text (λ bytes. (length bytes ≤ most_bytes) × P bytes)

-- ---- traces
-- the text under a name means a trace, by the manner in which it is read
abbrev pub MeansTrace : Texts → Manner → Design → List ℕ → Trace → Type 0
MeansTrace texts manner d name trace = IsReadAnd (texts name) (λ text. HasSamples text d manner trace)

-- the texts under names mean traces, one each
abbrev pub MeanTraces : Texts → Manner → Design → List (List ℕ) → List Trace → Type 0
MeanTraces texts manner d names traces = AllZip (MeansTrace texts manner d) names traces

-- the most cycles of a trace that is read
abbrev pub most_cycles : ℕ
most_cycles = 100000

-- a trace that was read is one of the design, and no longer
pub record IsReadOf (d : Design) (trace : Trace) : Type 0 where
  pub fits : IsTraceOf d trace
  pub few : trace.cycles ≤ most_cycles

-- ---- all of them
-- the text under the design's name means a design
abbrev pub MeansDesign : Meaning → SourcesAsked → Texts → Design → Type 0
MeansDesign M asked texts d = IsReadAnd (texts asked.texts.design) (λ text. M text (by_of asked) d)

-- and those under the traces' names traces of it
pub record Means (M : Meaning) (asked : SourcesAsked) (texts : Texts) (d : Design) (traces : List Trace) : Type 0 where
  pub design : MeansDesign M asked texts d
  pub mean : MeanTraces texts (manner_asked asked) d asked.texts.traces traces

-- ---- what is kept of texts
-- something is kept of the text under a name
abbrev pub IsKeptOf : {K : Type 0} → (K → List ℕ → Type 0) → Texts → List ℕ → K → Type 0
IsKeptOf is_of texts name kept = IsReadAnd (texts name) (is_of kept)

-- and of those under names, one each
abbrev pub AreKeptOf : {K : Type 0} → (K → List ℕ → Type 0) → Texts → List (List ℕ) → List K → Type 0
AreKeptOf is_of texts names kept = AllZip (IsKeptOf is_of texts) names kept

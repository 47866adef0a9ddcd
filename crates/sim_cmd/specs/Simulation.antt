-- The case of a simulation: it prints the lines of the traces, for the design and the traces that the texts mean.
use Rattle.std.specs.Prelude.{ℕ, ◌+◌, ◌≡◌, ◌⊎◌, Bool, true, not, ◌&&◌, if◌then◌else◌, List, [], ◌++◌, All, take}
use Rattle.io_ports.specs.Faults.{Rose}
use Rattle.io_ports.specs.Shelf.{AppendsFront}
use Rattle.command_contract.specs.Contract.{Case, Counts, IsInputRefusal, NamesFault, NothingWritten, Run, Texts}
use Rattle.design_core.specs.declared.design.Design.{Design}
use Rattle.design_core.specs.declared.trace.Trace.{Trace}
use Rattle.refusal.specs.Lines.{memory_line}
use Rattle.sim_lines.specs.Lines.{AreLines, Line, are_right, text_of}
use Rattle.front_end.specs.Means.{Meaning, Refusing}
use Rattle.load_texts.specs.declared.faults.DesignFault.{DesignFault}
use Rattle.load_texts.specs.declared.faults.TraceFault.{TraceFault}
use Rattle.requests.specs.Asked.{SimAsked, SourcesAsked}
use Rattle.load_texts.specs.Causes.{DesignCause, TraceRefused}
use Rattle.load_texts.specs.By.{manner_asked}
use Rattle.load_texts.specs.Means.{Means, MeansDesign, MeansTrace}
use Rattle.load_texts.specs.Refusals.{design_fault_line, design_fault_status, trace_fault_line, trace_fault_status}

-- ---- what is simulated
pub record Simulated (M : Meaning) (asked : SourcesAsked) (texts : Texts) (lines : List Line) : Type 0 where
  pub design : Design
  pub traces : List Trace
  pub means : Means M asked texts design traces
  pub are : AreLines design 1 traces lines

-- ---- refusals
-- a refusal with its status and its line: traces are counted from 1
pub data Refused (M : Meaning) (R : Refusing) (asked : SourcesAsked) (texts : Texts) : ℕ → List ℕ → Type 0 where
  for_design : (fault : DesignFault) → DesignCause R asked texts fault
      → Refused M R asked texts (design_fault_status fault) (design_fault_line asked.texts.design fault)
  for_trace : (d : Design) (place : ℕ) (name : List ℕ) (fault : TraceFault)
      → TraceRefused M asked texts d place name fault
      → Refused M R asked texts (trace_fault_status fault) (trace_fault_line d.signals.items name (place + 1) fault)

-- ---- want of memory, and a put that fails
-- all texts were loaded, and some of the lines, from the first one on, and `memory`, where there was memory for that
pub record SomeLines (M : Meaning) (asked : SourcesAsked) (texts : Texts) (counts : Counts) (front : List ℕ) : Type 0 where
  pub lines : List Line
  pub simulated : Simulated M asked texts lines
  pub untroubled : counts.now_shelf ≡ counts.shelf
  pub count : ℕ
  pub is : (front ≡ text_of (take count lines)) ⊎ (front ≡ text_of (take count lines) ++ memory_line)

abbrev pub MayStand : Meaning → SourcesAsked → Texts → Counts → List ℕ → Type 0
MayStand M asked texts counts front = (front ≡ []) ⊎ ((front ≡ memory_line) ⊎ SomeLines M asked texts counts front)

-- all lines, of texts that were all loaded, or a refusal's, with 5 by the load that failed, or what stands where memory was wanted
abbrev pub IsDue : Meaning → Refusing → SourcesAsked → Texts → Counts → List ℕ → Type 0
IsDue M R asked texts counts due =
    ((lines : List Line) × Simulated M asked texts lines × (counts.now_shelf ≡ counts.shelf) × (due ≡ text_of lines))
    ⊎ (((status : ℕ) × Refused M R asked texts status due × NamesFault counts.shelf counts.now_shelf status due)
    ⊎ MayStand M asked texts counts due)

-- ---- the case
-- 9 where the status is to say that a trace isn't right, and one isn't; else 0
abbrev pub told_status : Bool → List Line → ℕ
told_status exit_code lines = if exit_code && not (are_right lines) then 9 else 0

abbrev pub IsAnswer : Bool → ℕ → Type 0
IsAnswer exit_code status = (status ≡ 0) ⊎ ((exit_code ≡ true) × (status ≡ 9))

-- all lines are printed, each once and in order, and nothing is written
pub record IsDone (M : Meaning) (asked : SimAsked) (run : Run) (status : ℕ) : Type 0 where
  pub lines : List Line
  pub simulated : Simulated M asked.sources run.texts lines
  pub tells : status ≡ told_status asked.exit_code lines
  pub printed : run.now_printed ≡ run.printed ++ text_of lines
  pub nothing_written : run.now_written ≡ run.written

-- the sink failed: a front of what was due is printed, and nothing is written
pub record IsStopped (M : Meaning) (R : Refusing) (asked : SourcesAsked) (run : Run) : Type 0 where
  pub due : List ℕ
  pub is_due : IsDue M R asked run.texts run.counts due
  pub printed : AppendsFront due run.printed run.now_printed
  pub sink_failed : Rose run.counts.sink run.counts.now_sink
  pub nothing_written : run.now_written ≡ run.written

-- memory was wanted: some of what was due is printed, in whole lines, and nothing is written
pub record IsCut (M : Meaning) (asked : SourcesAsked) (run : Run) : Type 0 where
  pub front : List ℕ
  pub may_stand : MayStand M asked run.texts run.counts front
  pub printed : run.now_printed ≡ run.printed ++ front
  pub nothing_written : run.now_written ≡ run.written

-- the design's text means a design, and for each design that it means each of the traces' texts means a trace of it
pub record IsReady (M : Meaning) (asked : SourcesAsked) (texts : Texts) : Type 0 where
  pub design : Design
  pub means : MeansDesign M asked texts design
  pub traces : (d : Design) → MeansDesign M asked texts d
      → All (λ name. (found : Trace) × MeansTrace texts (manner_asked asked) d name found) asked.texts.traces

-- it may write no text
abbrev pub simulation : Meaning → Refusing → SimAsked → Case
simulation M R asked = record {
  MayAnswer = IsAnswer asked.exit_code;
  MayRefuse = IsInputRefusal;
  Answered = IsDone M asked;
  Refused = λ run. Refused M R asked.sources run.texts;
  Stands = NothingWritten;
  Stopped = IsStopped M R asked.sources;
  Cut = IsCut M asked.sources;
  Writes = λ name. ⊥;
  Ready = λ run. IsReady M asked.sources run.texts;
}

-- What a run of `find` shows: which design and traces the texts mean, which sets of suspects are listed, and what is printed (Smith,
-- Veneris, Ali and Viglas, Fault diagnosis and logic debugging using Boolean satisfiability, IEEE TCAD 2005).
use Rattle.std.specs.Prelude.{ℕ, ◌≡◌, ◌≤◌, ◌⊎◌, ◌++◌, List, All, IfSome, IsSomeAnd, Option, codes, decimal, length, map}
use Rattle.std.specs.List.{AllZip, flat_map}
use Rattle.printed_text.specs.Numerals.{newline}
use Rattle.design_core.specs.declared.design.Design.{Design}
use Rattle.design_core.specs.declared.trace.Trace.{Trace}
use Rattle.design_core.specs.declared.values.SetWithValues.{SetWithValues}
use Rattle.design_core.specs.Explained.{AreValuesOf, Explains}
use Rattle.design_core.specs.Listing.{IsFront, IsList}
use Rattle.suspect_map.specs.declared.group.Group.{Group}
use Rattle.vcd_traces.specs.Samples.{HasSamples, Manner}
use Rattle.report_doc.specs.declared.types.Report.{Report}
use Rattle.report_doc.specs.declared.types.ReportSet.{ReportSet}
use Rattle.report_doc.specs.Lines.{set_lines}
use Rattle.report_reading.specs.Reading.{IsReportOf}
use Rattle.report_sets.specs.Written.{IsWritten}
use Rattle.requests.specs.Asked.{SessionNames, SourcesAsked}
use Rattle.localise_cmd.specs.Formats.{MeansIn}
use Rattle.headline.specs.Runs.{FindRun, WordsRun}

-- ---- what is looked at
-- a design, traces of it, and the suspects among its places
pub record Subject : Type 0 where
  pub design : Design
  pub traces : List Trace
  pub suspects : List Group

-- the places of each suspect
abbrev pub groups_of : Subject → List (List ℕ)
groups_of s = map (λ (group : Group). group.places) s.suspects

-- there is a text of at most 1 GiB, and something holds of it
abbrev pub IsTextAnd : Option (List ℕ) → (List ℕ → Type 0) → Type 0
IsTextAnd text P = IsSomeAnd text (λ bytes. (length bytes ≤ 1073741824) × P bytes)

-- how the traces' texts are read: by the clock, in the scope of the path that is named, and with unknown inputs as 0 where that is asked
abbrev pub manner_of : SourcesAsked → Manner
manner_of sources = record { clock = sources.clock; scope = sources.texts.scope; zero_inputs = sources.texts.zero_inputs }

-- the text under the design's name means the design in the format that is asked for, each text under a trace's name holds that trace of
-- it, in order, and the suspects are those that kinds make of the design's places
pub record IsMeant (of : WordsRun) (sources : SourcesAsked) (kinds : List (List ℕ)) (s : Subject) : Type 0 where
  pub design : IsTextAnd (of.run.texts sources.texts.design) (λ text. MeansIn sources.texts.format text sources.texts.top sources.clock s.design)
  pub traces : AllZip (λ name trace. IsTextAnd (of.run.texts name) (λ text. HasSamples text s.design (manner_of sources) trace))
      sources.texts.traces s.traces
  pub suspects : s.suspects ≡ of.suspecting kinds s.design.places.items

-- the values are of the places of a set's members, a row of them for each cycle of the traces, and with them every trace is right
pub record IsExplained (s : Subject) (set : SetWithValues) : Type 0 where
  pub rows : AreValuesOf s.design s.traces (groups_of s) set.members set.values
  pub explains : Explains s.design s.traces (groups_of s) set.members set.values

-- ---- what a list goes on from
-- a set of a report, taken up: its members, with the values that its texts say
pub record IsTakenUp (s : Subject) (set : ReportSet) (found : SetWithValues) : Type 0 where
  pub members : found.members ≡ set.members
  pub values : IsWritten s.design s.traces (groups_of s) set found.values

-- the text under the name of a session's report is that of a report, and the first of the sets are those of its sets, one each
pub record BeginWith (r : FindRun) (s : Subject) (sets : List SetWithValues) (names : SessionNames) : Type 0 where
  pub report : Report
  pub is_report : IsTextAnd (r.of.run.texts names.report) (λ text. IsReportOf text report)
  pub first : List SetWithValues
  pub taken_up : AllZip (IsTakenUp s) report.sets first
  pub more : List SetWithValues
  pub parts : sets ≡ first ++ more

-- ---- a list
-- what the texts mean, and sets of its suspects that were found; where the list goes on from a session, the first are those of its report
pub record Found (r : FindRun) : Type 0 where
  pub subject : Subject
  pub is_meant : IsMeant r.of r.asked.sources r.asked.listing.suspects subject
  pub sets : List SetWithValues
  pub explained : All (IsExplained subject) sets
  pub goes_on : IfSome r.asked.resume (BeginWith r subject sets)

-- their members
abbrev pub members_of : List SetWithValues → List (List ℕ)
members_of sets = map (λ (set : SetWithValues). set.members) sets

-- the lines of the sets that were found were printed, and then a last line
abbrev pub IsPrinted : (r : FindRun) → Found r → List ℕ → Type 0
IsPrinted r found last =
    r.of.run.now_printed
    ≡ r.of.run.printed
    ++ (flat_map (set_lines found.subject.suspects found.subject.design.places.items) (members_of found.sets) ++ last)

-- the sets are the whole list of the minimal sets, of at most the asked size, that can explain the traces
pub record ListsAll (r : FindRun) : Type 0 where
  pub found : Found r
  pub is_list : IsList found.subject.design found.subject.traces (groups_of found.subject) r.asked.listing.size (members_of found.sets)
  pub printed : IsPrinted r found (codes "complete " ++ decimal (length found.sets) ++ newline)

-- they are a front of that list, and the last line says why it isn't more
pub record ListsFront (r : FindRun) : Type 0 where
  pub found : Found r
  pub is_front : IsFront found.subject.design found.subject.traces (groups_of found.subject) r.asked.listing.size (members_of found.sets)
  pub why : List ℕ
  pub is_why : (why ≡ codes "budget") ⊎ (why ≡ codes "sets")
  pub printed : IsPrinted r found (codes "front " ++ decimal (length found.sets) ++ codes " " ++ why ++ newline)

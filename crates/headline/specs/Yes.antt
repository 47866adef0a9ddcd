-- What a `yes` of `check` shows: the report's sets are the whole list of what the texts mean, and its suspects are the design's.
use Rattle.std.specs.Prelude.{◌≡◌, ◌++◌, List, All, codes, decimal, length, map}
use Rattle.printed_text.specs.Numerals.{newline}
use Rattle.design_core.specs.declared.values.Values.{Values}
use Rattle.design_core.specs.Explained.{Explains}
use Rattle.design_core.specs.Listing.{IsList}
use Rattle.report_doc.specs.declared.types.Report.{Report}
use Rattle.report_doc.specs.declared.types.ReportSet.{ReportSet}
use Rattle.report_reading.specs.Reading.{IsReportOf}
use Rattle.report_sets.specs.Found.{suspect_of}
use Rattle.report_sets.specs.Written.{IsWritten}
use Rattle.requests.specs.Asked.{SourcesAsked}
use Rattle.headline.specs.Runs.{CheckRun}
use Rattle.headline.specs.Headline.{IsMeant, IsTextAnd, Subject, groups_of}

-- the texts of a report's set are those of values with which every trace is right
pub record IsShown (s : Subject) (set : ReportSet) : Type 0 where
  pub values : Values
  pub written : IsWritten s.design s.traces (groups_of s) set values
  pub explains : Explains s.design s.traces (groups_of s) set.members values

-- what a report's list is read by: the texts by the words, the clock by the report
abbrev pub sources_by : CheckRun → Report → SourcesAsked
sources_by r report = record { texts = r.asked.texts; clock = report.clock }

-- the text under the report's name is that of a report whose sets are the whole list of what the texts mean, with the top of the words, and
-- for each suspect its kind, its label and the line of its first place; and `yes N` was printed
pub record SaysYes (r : CheckRun) : Type 0 where
  pub report : Report
  pub is_report : IsTextAnd (r.of.run.texts r.asked.report) (λ text. IsReportOf text report)
  pub subject : Subject
  pub is_meant : IsMeant r.of (sources_by r report) report.kinds subject
  pub is_list : IsList subject.design subject.traces (groups_of subject) report.size (map (λ (set : ReportSet). set.members) report.sets)
  pub top : report.top ≡ r.asked.texts.top
  pub suspects : report.suspects ≡ map (suspect_of subject.design.places.items) subject.suspects
  pub shown : All (IsShown subject) report.sets
  pub printed : r.of.run.now_printed ≡ r.of.run.printed ++ (codes "yes " ++ decimal (length report.sets) ++ newline)

-- What a listing writes of its sets: the lines of a set, the report, and the waves.
use Rattle.std.specs.Prelude.{ℕ, List, map}
use Rattle.design_core.specs.declared.values.SetWithValues.{SetWithValues}
use Rattle.report_doc.specs.declared.types.Ending.{Ending}
use Rattle.report_doc.specs.declared.types.Report.{Report}
use Rattle.report_doc.specs.Document.{text_of}
use Rattle.report_doc.specs.Lines.{set_lines}
use Rattle.report_sets.specs.Found.{set_of, suspect_of}
use Rattle.write_order.specs.Writes.{Write}
use Rattle.set_waves.specs.Waved.{Runs, Waved}
use Rattle.set_waves.specs.Writes.{waves_of}
use Rattle.list_writer.specs.Asked.{Asked}

-- the lines of a set: its own, and of each member its number, its kind, its line and its label
abbrev pub lines_of : Asked → SetWithValues → List ℕ
lines_of asked set = set_lines asked.problem.groups asked.problem.design.places.items set.members

-- ---- the report
-- the report of the sets that were found, with their values
abbrev pub report_for : Asked → List SetWithValues → Ending → Report
report_for asked found ending = record {
  clock = asked.clock;
  ending = ending;
  inputs = asked.inputs;
  kinds = asked.kinds;
  sets = map (set_of asked.problem.traces) found;
  size = asked.problem.k;
  suspects = map (suspect_of asked.problem.design.places.items) asked.problem.groups;
  top = asked.top;
}

abbrev pub report_of : Asked → List SetWithValues → Ending → List ℕ
report_of asked found ending = text_of (report_for asked found ending)

-- ---- the waves
-- what they are of
abbrev pub waved_for : Asked → Waved
waved_for asked = record { top = asked.top; clock = asked.clock; design = asked.problem.design; traces = asked.problem.traces }

-- a wave for each set that was found and each trace, where waves are asked for; `runs` has their runs
abbrev pub waves : Asked → List SetWithValues → Runs → List Write
waves asked found runs = waves_of asked.waves (waved_for asked) runs found

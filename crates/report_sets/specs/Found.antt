-- The report of what a run found.
use Rattle.std.specs.Prelude.{ℕ, zero, suc, ◌≡◌, ◌+◌, ◌*◌, ◌<◌, ◌^◌, List, [], ◌∷◌, length, map}
use Rattle.std.specs.Option.{option_copied}
use Rattle.loc_base.specs.declared.bits.Bits.{Bits}
use Rattle.loc_base.specs.Bits.{width_of, value_of}
use Rattle.printed_text.specs.Numerals.{value_text}
use Rattle.design_core.specs.declared.place.Place.{Place}
use Rattle.design_core.specs.declared.trace.Trace.{Trace}
use Rattle.design_core.specs.declared.values.SetWithValues.{SetWithValues}
use Rattle.design_core.specs.declared.values.Values.{Values}
use Rattle.design_core.specs.Explained.{cycles_before, row_of}
use Rattle.suspect_map.specs.declared.group.Group.{Group}
use Rattle.report_sets.specs.declared.findings.Findings.{Findings}
use Rattle.report_doc.specs.declared.types.Report.{Report}
use Rattle.report_doc.specs.declared.types.ReportSet.{ReportSet}
use Rattle.report_doc.specs.declared.types.ReportSuspect.{ReportSuspect}
use Rattle.report_doc.specs.Lines.{line_of}

-- ---- the values of a set
-- a row of values: each in lower-case hex, a digit for every four bits
abbrev pub word_text : Bits → List ℕ
word_text word = value_text (width_of word) (value_of word)

abbrev pub row_texts : Values → ℕ → List (List ℕ)
row_texts values row = map word_text (row_of values.places.items values.rows.items row)

-- the rows from one on, so many
unfoldable pub rows_texts : Values → ℕ → ℕ → List (List (List ℕ))
rows_texts values row zero = []
rows_texts values row (suc count) = row_texts values row ∷ rows_texts values (row + 1) count

-- for each trace the rows of its cycles, those of the first from one on
unfoldable pub traces_texts : Values → ℕ → List Trace → List (List (List (List ℕ)))
traces_texts values row [] = []
traces_texts values row (trace ∷ traces) = rows_texts values row trace.cycles ∷ traces_texts values (row + trace.cycles) traces

-- a row for each cycle of the traces, of which there are fewer than 2^32
pub record HasRows (traces : List Trace) (values : Values) : Type 0 where
  pub rows : length values.rows.items ≡ cycles_before traces (length traces) * length values.places.items
  pub few : cycles_before traces (length traces) < 2 ^ 32

-- ---- the parts of the report
abbrev pub set_of : List Trace → SetWithValues → ReportSet
set_of traces set = record { members = set.members; values = traces_texts set.values 0 traces }

abbrev pub suspect_of : List Place → Group → ReportSuspect
suspect_of places group = record { kind = group.kind; label = group.label; line = line_of places group.places }

-- the report: what is found, each value in hex digits
abbrev pub report_of : Findings → Report
report_of found = record {
  clock = option_copied found.clock;
  ending = found.ending;
  inputs = found.inputs;
  kinds = found.kinds.now;
  sets = map (set_of found.traces.now) found.sets.now;
  size = found.size;
  suspects = map (suspect_of found.places.now) found.groups.now;
  top = found.top.now;
}

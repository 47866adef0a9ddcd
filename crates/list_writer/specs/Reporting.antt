-- Private, for the functions inside this crate: values that a report can hold.
use Rattle.std.specs.Prelude.{◌≤◌, List, All}
use Rattle.design_core.specs.declared.trace.Trace.{Trace}
use Rattle.design_core.specs.declared.values.SetWithValues.{SetWithValues}
use Rattle.report_sets.specs.Found.{HasRows}
use Rattle.report_doc.specs.Lines.{AreWithin}
use Rattle.report_doc.specs.Shape.{AreKinds}
use Rattle.list_writer.specs.Asked.{Asked}

-- the values of each set have a row for each cycle of the traces
abbrev pub AreReportable : List Trace → List SetWithValues → Type 0
AreReportable traces found = All (λ set. HasRows traces set.values) found

-- the report of these sets can be written
pub record CanBeReported (asked : Asked) (found : List SetWithValues) : Type 0 where
  pub kinds : AreKinds asked.kinds
  pub size : asked.problem.k ≤ 8
  pub sets : AreReportable asked.problem.traces found
  pub within : AreWithin asked.problem.design.places.items asked.problem.groups

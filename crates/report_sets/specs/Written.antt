-- The values that a report has of a set: those that it was written of.
use Rattle.std.specs.Prelude.{◌≡◌, List}
use Rattle.design_core.specs.declared.design.Design.{Design}
use Rattle.design_core.specs.declared.trace.Trace.{Trace}
use Rattle.design_core.specs.declared.values.Values.{Values}
use Rattle.design_core.specs.Explained.{AreValuesOf}
use Rattle.design_core.specs.Works.{Groups}
use Rattle.report_sets.specs.Found.{traces_texts}
use Rattle.report_doc.specs.declared.types.ReportSet.{ReportSet}

-- the values are of the places of the set's members, ascending, a word of its place's width for each in each cycle of the traces;
-- and the texts of the set are theirs: for each trace, cycle and place one, a lower-case hex digit for every four bits
pub record IsWritten (d : Design) (traces : List Trace) (groups : Groups) (set : ReportSet) (values : Values) : Type 0 where
  pub rows : AreValuesOf d traces groups set.members values
  pub texts : set.values ≡ traces_texts values 0 traces

-- the texts of the set are those of some values
abbrev pub HasValues : Design → List Trace → Groups → ReportSet → Type 0
HasValues d traces groups set = (values : Values) × IsWritten d traces groups set values

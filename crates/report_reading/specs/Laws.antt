-- What the laws of reading speak of.
use Rattle.std.specs.Prelude.{ℕ, List}
use Rattle.report_doc.specs.declared.types.Report.{Report}

-- a text and two reports
pub record TwoReports : Type 0 where
  pub text : List ℕ
  pub one : Report
  pub other : Report

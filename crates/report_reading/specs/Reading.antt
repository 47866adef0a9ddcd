-- Which report a text is.
use Rattle.std.specs.Prelude.{◌≡◌, ℕ, ◌≤◌, ◌⊎◌, List, length, All}
use Rattle.report_doc.specs.declared.types.Report.{Report}
use Rattle.report_doc.specs.Document.{report_data}
use Rattle.report_doc.specs.Json.{IsJsonOf}
use Rattle.report_doc.specs.Shape.{IsReport}

-- a small letter, a digit or `_`
abbrev pub IsKindByte : ℕ → Type 0
IsKindByte byte = ((97 ≤ byte) × (byte ≤ 122)) ⊎ (((48 ≤ byte) × (byte ≤ 57)) ⊎ (byte ≡ 95))

-- the name of a kind: 1 to 32 small letters, digits and `_`
pub record IsKindName (name : List ℕ) : Type 0 where
  pub least : 1 ≤ length name
  pub most : length name ≤ 32
  pub bytes : All IsKindByte name

-- the text is JSON, its value is that of the report, and the report's kinds have names of kinds
pub record IsReportOf (text : List ℕ) (r : Report) : Type 0 where
  pub json : IsJsonOf (report_data r) text
  pub report : IsReport r
  pub kinds : All IsKindName r.kinds

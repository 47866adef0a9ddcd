-- Why a text was refused.
use Rattle.std.specs.Prelude.{⊤, Result, Ok, Err}
use Rattle.report_doc.specs.declared.types.ReportErr.{ReportErr}
use Rattle.report_doc.specs.declared.types.ReportErr.TheVariants.{Syntax, Shape, NoMemory}

abbrev OfSyntax : Type 0 → ReportErr → Type 0
OfSyntax P Syntax = P
OfSyntax P Shape = ⊤
OfSyntax P NoMemory = ⊤

abbrev OfShape : Type 0 → ReportErr → Type 0
OfShape P Syntax = ⊤
OfShape P Shape = P
OfShape P NoMemory = ⊤

-- P holds where the answer is `Syntax`
abbrev pub OnSyntax : {T : Type 0} → Result T ReportErr → Type 0 → Type 0
OnSyntax (Ok value) P = ⊤
OnSyntax (Err error) P = OfSyntax P error

-- P holds where the answer is `Shape`
abbrev pub OnShape : {T : Type 0} → Result T ReportErr → Type 0 → Type 0
OnShape (Ok value) P = ⊤
OnShape (Err error) P = OfShape P error

-- What a code prints, its status, and the span that it names.
use Rattle.std.specs.Prelude.{ℕ, List, Option, Some, None}
use Rattle.loc_base.specs.declared.span.Span.{Span}
use Rattle.refusal.specs.declared.code.Code.{Code}
use Rattle.refusal.specs.declared.code.Code.TheVariants.{Bare, At, Line, Limit, Memory}
use Rattle.refusal.specs.Lines.{input_line, limit_line, memory_line, number_line, span_line}

abbrev pub code_line : Code → List ℕ
code_line (Bare code) = input_line code.now
code_line (At code span) = span_line code.now span
code_line (Line code line) = number_line code.now line
code_line (Limit code) = limit_line code.now
code_line Memory = memory_line

-- 3, at a limit 4, at want of memory 7
abbrev pub code_status : Code → ℕ
code_status (Bare code) = 3
code_status (At code span) = 3
code_status (Line code line) = 3
code_status (Limit code) = 4
code_status Memory = 7

abbrev pub code_span : Code → Option Span
code_span (At code span) = Some span
code_span _ = None

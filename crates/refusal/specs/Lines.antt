-- The lines of refusals. Spans are of bytes, from 0; lines of a text are counted from 1.
use Rattle.std.specs.Prelude.{ℕ, List, ◌++◌, codes, decimal}
use Rattle.loc_base.specs.declared.span.Span.{Span}
use Rattle.printed_text.specs.Numerals.{newline}

-- `input CODE`, `limit CODE`, `memory`
abbrev pub input_line : List ℕ → List ℕ
input_line code = codes "input " ++ code ++ newline

abbrev pub limit_line : List ℕ → List ℕ
limit_line code = codes "limit " ++ code ++ newline

abbrev pub memory_line : List ℕ
memory_line = codes "memory" ++ newline

-- `input CODE FROM TO`
abbrev pub span_line : List ℕ → Span → List ℕ
span_line code span = codes "input " ++ code ++ codes " " ++ decimal span.from ++ codes " " ++ decimal span.to ++ newline

-- `input CODE LINE`
abbrev pub number_line : List ℕ → ℕ → List ℕ
number_line code line = codes "input " ++ code ++ codes " " ++ decimal line ++ newline

-- `read fault NAME`
abbrev pub fault_line : List ℕ → List ℕ
fault_line name = codes "read fault " ++ name ++ newline

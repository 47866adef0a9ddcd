-- What is printed where an AIGER text means no design, and the status of the program.
use Rattle.std.specs.Prelude.{ℕ, ◌≡◌, ◌≢◌, List, codes}
use Rattle.aiger_text.specs.declared.fault.AigerErr.{AigerErr}
use Rattle.aiger_text.specs.declared.fault.AigerErr.TheVariants.{TooLong, Header, Shape, Literal, Naming, Places, NoMemory}
use Rattle.refusal.specs.declared.code.Code.{Code}
use Rattle.refusal.specs.Codes.{code_line, code_status}
use Rattle.refusal.specs.Lines.{limit_line, memory_line, number_line, span_line}
use Rattle.aiger_front_end.specs.declared.error.GraphErr.{GraphErr}
use Rattle.aiger_front_end.specs.declared.error.GraphErr.TheVariants.{Text, Circle}

-- ---- lines
-- a text that breaks a rule of the format: a code with the line of the text, counted from 1, or a limit
abbrev pub text_line : AigerErr → List ℕ
text_line TooLong = limit_line (codes "L9")
text_line Header = number_line (codes "A1") 1
text_line (Shape line) = number_line (codes "A2") line
text_line (Literal line) = number_line (codes "A3") line
text_line (Naming line) = number_line (codes "A4") line
text_line Places = limit_line (codes "Z1")
text_line NoMemory = memory_line

-- a text that means no design; drivers that depend on each other in a circle are named by the least of them
abbrev pub graph_line : GraphErr → List ℕ
graph_line (Text fault) = text_line fault
graph_line (Circle span) = span_line (codes "S4") span

-- ---- statuses: 3, at a limit 4, at want of memory 7
abbrev pub text_status : AigerErr → ℕ
text_status TooLong = 4
text_status Header = 3
text_status (Shape line) = 3
text_status (Literal line) = 3
text_status (Naming line) = 3
text_status Places = 4
text_status NoMemory = 7

abbrev pub graph_status : GraphErr → ℕ
graph_status (Text fault) = text_status fault
graph_status (Circle span) = 3

-- ---- codes
-- a code is printed as the error's line, with its status
pub record IsCodeOf (fault : GraphErr) (code : Code) : Type 0 where
  pub line : code_line code ≡ graph_line fault
  pub status : code_status code ≡ graph_status fault

-- ---- refusals
-- a refusal that is no want of memory has a cause
abbrev pub Refuses : (GraphErr → Type 0) → GraphErr → Type 0
Refuses R fault = graph_status fault ≢ 7 → R fault

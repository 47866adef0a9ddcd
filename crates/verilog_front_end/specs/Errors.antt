-- What is printed where a step between a Verilog text and its design refuses, and the status of the program.
use Rattle.std.specs.Prelude.{ℕ, ◌≡◌, ◌≢◌, List, codes}
use Rattle.loc_base.specs.declared.span.Span.{Span}
use Rattle.v_lexer.specs.declared.types.refusal.LexErr.{LexErr}
use Rattle.v_lexer.specs.declared.types.refusal.LexErr.TheVariants as lex
use Rattle.v_tree.specs.declared.fault.ParseErr.{ParseErr}
use Rattle.v_tree.specs.declared.fault.ParseErr.TheVariants as parse
use Rattle.v_hierarchy.specs.declared.error.ElabErr.{ElabErr}
use Rattle.v_hierarchy.specs.declared.error.ElabErr.TheVariants as elab
use Rattle.v_binding.specs.declared.error.BindErr.{BindErr}
use Rattle.v_binding.specs.declared.error.BindErr.TheVariants as bind
use Rattle.refusal.specs.declared.code.Code.{Code}
use Rattle.refusal.specs.Codes.{code_line, code_status}
use Rattle.refusal.specs.Lines.{input_line, limit_line, memory_line, span_line}
use Rattle.verilog_front_end.specs.declared.error.DesignErr.{DesignErr}
use Rattle.verilog_front_end.specs.declared.error.DesignErr.TheVariants.{Lexical, Syntax, Elaboration, Binding, Circle, NoMemory}

-- ---- lines
-- a text that has no tokens
abbrev pub lexical_line : LexErr → List ℕ
lexical_line (lex.BadByte span) = span_line (codes "L1") span
lexical_line (lex.OpenComment span) = span_line (codes "L2") span
lexical_line (lex.BadNumber span) = span_line (codes "L3") span
lexical_line (lex.UnknownValue span) = span_line (codes "L4") span
lexical_line (lex.WideNumber span) = span_line (codes "L5") span
lexical_line (lex.Directive span) = span_line (codes "L6") span
lexical_line (lex.OpenIf span) = span_line (codes "L7") span
lexical_line (lex.MacroDepth span) = span_line (codes "L8") span
lexical_line (lex.TooLong span) = limit_line (codes "L9")
lexical_line lex.NoMemory = memory_line

-- tokens that have no tree
abbrev pub syntax_line : ParseErr → List ℕ
syntax_line (parse.Unexpected span) = span_line (codes "P1") span
syntax_line (parse.Unsupported span) = span_line (codes "P2") span
syntax_line (parse.Deep span) = span_line (codes "P3") span
syntax_line parse.NoMemory = memory_line

-- a tree that has no instances
abbrev pub elaboration_line : ElabErr → List ℕ
elaboration_line (elab.UnknownName span) = span_line (codes "E1") span
elaboration_line (elab.NotConstant span) = span_line (codes "E2") span
elaboration_line (elab.ZeroDivisor span) = span_line (codes "E3") span
elaboration_line (elab.Range span) = span_line (codes "E4") span
elaboration_line elab.NoTop = input_line (codes "E5")
elaboration_line (elab.UnknownModule span) = span_line (codes "E6") span
elaboration_line (elab.DoubleName span) = span_line (codes "E7") span
elaboration_line (elab.PortName span) = span_line (codes "E8") span
elaboration_line (elab.Depth span) = span_line (codes "E9") span
elaboration_line (elab.Turns span) = limit_line (codes "E10")
elaboration_line (elab.Parameter span) = span_line (codes "E11") span
elaboration_line elab.NoMemory = memory_line

-- instances that mean no design
abbrev pub binding_line : BindErr → List ℕ
binding_line (bind.UnknownName span) = span_line (codes "E1") span
binding_line (bind.NotConstant span) = span_line (codes "E2") span
binding_line (bind.ZeroDivisor span) = span_line (codes "E3") span
binding_line (bind.Range span) = span_line (codes "E4") span
binding_line (bind.PortName span) = span_line (codes "E8") span
binding_line bind.Places = limit_line (codes "Z1")
binding_line (bind.MultiDriver span) = span_line (codes "S1") span
binding_line (bind.Undriven span) = span_line (codes "S2") span
binding_line (bind.Latch span) = span_line (codes "S3") span
binding_line (bind.Clock span) = span_line (codes "S5") span
binding_line (bind.MixedAssign span) = span_line (codes "S6") span
binding_line (bind.RaceRead span) = span_line (codes "S7") span
binding_line bind.NoMemory = memory_line

-- drivers that depend on each other in a circle: the span is that of the least of them
abbrev pub circle_line : Span → List ℕ
circle_line span = span_line (codes "S4") span

-- a text that means no design
abbrev pub design_err_line : DesignErr → List ℕ
design_err_line (Lexical fault) = lexical_line fault
design_err_line (Syntax fault) = syntax_line fault
design_err_line (Elaboration fault) = elaboration_line fault
design_err_line (Binding fault) = binding_line fault
design_err_line (Circle span) = circle_line span
design_err_line NoMemory = memory_line

-- ---- statuses: 3, at a limit 4, at want of memory 7
abbrev pub lexical_status : LexErr → ℕ
lexical_status (lex.TooLong span) = 4
lexical_status lex.NoMemory = 7
lexical_status _ = 3

abbrev pub syntax_status : ParseErr → ℕ
syntax_status parse.NoMemory = 7
syntax_status _ = 3

abbrev pub elaboration_status : ElabErr → ℕ
elaboration_status (elab.Turns span) = 4
elaboration_status elab.NoMemory = 7
elaboration_status _ = 3

abbrev pub binding_status : BindErr → ℕ
binding_status bind.Places = 4
binding_status bind.NoMemory = 7
binding_status _ = 3

abbrev pub design_status : DesignErr → ℕ
design_status (Lexical fault) = lexical_status fault
design_status (Syntax fault) = syntax_status fault
design_status (Elaboration fault) = elaboration_status fault
design_status (Binding fault) = binding_status fault
design_status (Circle span) = 3
design_status NoMemory = 7

-- ---- codes
-- a code is printed as the error's line, with its status
pub record IsCodeOf (fault : DesignErr) (code : Code) : Type 0 where
  pub line : code_line code ≡ design_err_line fault
  pub status : code_status code ≡ design_status fault

-- ---- refusals
-- a refusal that is no want of memory has a cause
abbrev pub Refuses : (DesignErr → Type 0) → DesignErr → Type 0
Refuses R fault = design_status fault ≢ 7 → R fault

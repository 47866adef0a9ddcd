-- The tokens of a text (IEEE 1364-2005, clauses 3 and 19): the text is cut into pieces, none of which can be made longer,
-- a use of a macro stands for the tokens of the macro's text, and the first piece that has no place is the fault.
use Rattle.std.specs.Prelude.{◌≡◌, ℕ, suc, ◌<◌, ◌≤◌, true, List, [], ◌∷◌, ◌++◌, length, drop, nat_eq, if◌then◌else◌, Some, Result, Ok, Err}
use Rattle.std.specs.FinMap as map
use Rattle.std.specs.List.{starts_with}
use Rattle.v_lexer.specs.declared.types.refusal.LexErr.{LexErr}
use Rattle.v_lexer.specs.declared.types.refusal.LexErr.TheVariants.{TooLong, OpenIf}
use Rattle.v_lexer.specs.declared.pieces.Piece.{Piece}
use Rattle.v_lexer.specs.declared.position.Position.{Position}
use Rattle.v_lexer.specs.declared.position.Position.TheVariants.{Text}
use Rattle.v_lexer.specs.declared.conditionals.Conditional.{Conditional}
use Rattle.v_lexer.specs.declared.state.State.{State}
use Rattle.v_lexer.specs.Lexeme.{Lexeme}
use Rattle.v_lexer.specs.Pieces.{IsPiece}
use Rattle.v_lexer.specs.Acts.{Step, goes, stops, expands, does, past, inside, nowhere}
use Rattle.v_lexer.specs.Conditionals.{is_skipping, outermost}

-- `text` is a piece and what stands behind it, and this is what the piece does
pub record Turn (left : ℕ) (s : State) (place : Position) (text piece behind : List ℕ) (step : Step) : Type 0 where
  pub kind : Piece
  pub joins : text ≡ piece ++ behind
  pub is_piece : IsPiece (is_skipping s.conditionals) kind piece behind
  pub does_it : does left s place kind piece ≡ step

-- reading `text` piece by piece leads from the state to this one, or to this refusal; `left` more levels of macros may open
pub data Reads : ℕ → State → Position → List ℕ → Result State LexErr → Type 0 where
  at_end : {left : ℕ} {s : State} {place : Position} → Reads left s place [] (Ok s)
  at_fault : {left : ℕ} {s : State} {place : Position} {text piece behind : List ℕ} {fault : LexErr}
      → Turn left s place text piece behind (stops fault)
      → Reads left s place text (Err fault)
  behind_piece : {left : ℕ} {s t : State} {place : Position} {text piece behind : List ℕ} {outcome : Result State LexErr}
      → Turn left s place text piece behind (goes t)
      → Reads left t (past place piece) behind outcome
      → Reads left s place text outcome
  within_macro : {left less : ℕ} {s t : State} {place : Position} {text piece behind body : List ℕ} {fault : LexErr}
      → Turn left s place text piece behind (expands body t) → left ≡ suc less
      → Reads less t (inside place piece) body (Err fault)
      → Reads left s place text (Err fault)
  behind_macro : {left less : ℕ} {s t u : State} {place : Position} {text piece behind body : List ℕ} {outcome : Result State LexErr}
      → Turn left s place text piece behind (expands body t) → left ≡ suc less
      → Reads less t (inside place piece) body (Ok u)
      → Reads left u (past place piece) behind outcome
      → Reads left s place text outcome

-- before a text: no macros, no conditional, no token, and 268,435,456 bytes of macro texts to come
abbrev pub start : State
start = record { macros = map.empty; conditionals = []; tokens = []; macro_bytes_left = 268435456 }

-- the byte-order mark of a text in UTF-8
abbrev pub mark : List ℕ
mark = 239 ∷ 187 ∷ 191 ∷ []

-- how many bytes of a text are passed over before its first piece: those of a byte-order mark, where it begins with one
abbrev pub mark_size : List ℕ → ℕ
mark_size text = if starts_with nat_eq text mark then 3 else 0

-- a text is read from its first byte, or behind its byte-order mark, in line 1, and 64 levels of macros may open
abbrev pub ReadsText : List ℕ → Result State LexErr → Type 0
ReadsText text outcome = Reads 64 start (Text (mark_size text) 1 true) (drop (mark_size text) text) outcome

-- a text's tokens, or its fault: too many bytes, the first piece that has no place, or a conditional open at the end
pub data HasOutcome (text : List ℕ) : Result (List Lexeme) LexErr → Type 0 where
  is_long : 16777216 < length text → HasOutcome text (Err (TooLong nowhere))
  is_faulty : {fault : LexErr} → length text ≤ 16777216 → ReadsText text (Err fault) → HasOutcome text (Err fault)
  is_open : {last : State} {first : Conditional} → length text ≤ 16777216 → ReadsText text (Ok last) → outermost last.conditionals ≡ Some first
      → HasOutcome text (Err (OpenIf first.opener))
  is_whole : {last : State} → length text ≤ 16777216 → ReadsText text (Ok last) → last.conditionals ≡ [] → HasOutcome text (Ok last.tokens)

-- the text has these tokens
abbrev pub HasTokens : List ℕ → List Lexeme → Type 0
HasTokens text tokens = HasOutcome text (Ok tokens)

-- the text has no tokens, and this is the first fault from the left
abbrev pub HasFault : List ℕ → LexErr → Type 0
HasFault text fault = HasOutcome text (Err fault)

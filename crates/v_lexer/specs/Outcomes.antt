-- What the contracts of the reading functions say: the state or the refusal that a definition gives, but for want of memory.
use Rattle.std.specs.Prelude.{◌≡◌, ℕ, suc, Bool, true, false, ◌+◌, ◌<◌, ◌≤◌, List, Result, Ok, Err}
use Rattle.v_syntax.specs.declared.token_kind.TokenKind.{TokenKind}
use Rattle.v_syntax.specs.declared.token_kind.TokenKind.TheVariants.{Name, Word, System, Symbol, Number, Wild}
use Rattle.v_lexer.specs.declared.types.refusal.LexErr.{LexErr}
use Rattle.v_lexer.specs.declared.types.refusal.LexErr.TheVariants.{BadByte, OpenComment, BadNumber, UnknownValue, WideNumber, Directive, OpenIf, MacroDepth, TooLong, NoMemory}
use Rattle.v_lexer.specs.declared.pieces.Piece.{Piece}
use Rattle.v_lexer.specs.declared.pieces.Piece.TheVariants as piece
use Rattle.v_lexer.specs.declared.directives.Directive.TheVariants.{Define, Undef, Ifdef, Ifndef, Elsif, Else, Endif, Line, ToLineEnd, Alone, Use}
use Rattle.v_lexer.specs.declared.position.Position.{Position}
use Rattle.v_lexer.specs.declared.position.Position.TheVariants.{Text, Macro}
use Rattle.v_lexer.specs.declared.state.State.{State}
use Rattle.v_lexer.specs.Acts.{Step, goes, stops, expands, inside}
use Rattle.v_lexer.specs.Tokens.{Reads}

-- a fact of a refusal that is no want of memory
abbrev pub UnlessNoMemory : LexErr → Type 0 → Type 0
UnlessNoMemory NoMemory fact = Unit {0}
UnlessNoMemory (BadByte span) fact = fact
UnlessNoMemory (OpenComment span) fact = fact
UnlessNoMemory (BadNumber span) fact = fact
UnlessNoMemory (UnknownValue span) fact = fact
UnlessNoMemory (WideNumber span) fact = fact
UnlessNoMemory (Directive span) fact = fact
UnlessNoMemory (OpenIf span) fact = fact
UnlessNoMemory (MacroDepth span) fact = fact
UnlessNoMemory (TooLong span) fact = fact

-- a call that leaves a state does what a step says
abbrev pub Gives : Step → Result (Unit {0}) LexErr → State → Type 0
Gives step (Ok done) new = step ≡ goes new
Gives step (Err fault) new = UnlessNoMemory fault (step ≡ stops fault)

-- what comes of a step, with a macro's text read to its end
abbrev pub Becomes : ℕ → Position → List ℕ → Step → Result State LexErr → Type 0
Becomes left place piece (goes t) outcome = outcome ≡ Ok t
Becomes left place piece (stops fault) outcome = outcome ≡ Err fault
Becomes left place piece (expands body t) outcome = (less : ℕ) × (left ≡ suc less) × Reads less t (inside place piece) body outcome

-- a call that leaves a state does what becomes of a step
abbrev pub Turns : ℕ → Position → List ℕ → Step → Result (Unit {0}) LexErr → State → Type 0
Turns left place piece step (Ok done) new = Becomes left place piece step (Ok new)
Turns left place piece step (Err fault) new = UnlessNoMemory fault (Becomes left place piece step (Err fault))

-- a call that leaves a state reads a text
abbrev pub ReadsTo : ℕ → State → Position → List ℕ → Result (Unit {0}) LexErr → State → Type 0
ReadsTo left old place text (Ok done) new = Reads left old place text (Ok new)
ReadsTo left old place text (Err fault) new = UnlessNoMemory fault (Reads left old place text (Err fault))

-- a place with so many bytes behind it stands in a text of at most 16,777,216 bytes
abbrev pub IsWithin : Position → ℕ → Type 0
IsWithin (Text from line fresh) size = (from + size ≤ 16777216) × (line ≤ from + 1)
IsWithin (Macro span line) size = Unit {0}

-- a span of so many bytes can be written down
abbrev pub HasSpan : Position → ℕ → Type 0
HasSpan (Text from line fresh) size = from + size < 4294967296
HasSpan (Macro span line) size = Unit {0}

-- the use of a macro
abbrev pub is_use : Piece → Bool
is_use piece.Blank = false
is_use piece.OpenComment = false
is_use piece.Name = false
is_use piece.Escaped = false
is_use piece.System = false
is_use piece.Symbol = false
is_use piece.RealDelay = false
is_use piece.Number = false
is_use piece.Stray = false
is_use (piece.Directive Use) = true
is_use (piece.Directive Define) = false
is_use (piece.Directive Undef) = false
is_use (piece.Directive Ifdef) = false
is_use (piece.Directive Ifndef) = false
is_use (piece.Directive Elsif) = false
is_use (piece.Directive Else) = false
is_use (piece.Directive Endif) = false
is_use (piece.Directive Line) = false
is_use (piece.Directive ToLineEnd) = false
is_use (piece.Directive Alone) = false

-- the kinds that a number can have
abbrev pub IsNumberKind : TokenKind → Type 0
IsNumberKind Number = Unit {0}
IsNumberKind Wild = Unit {0}
IsNumberKind Name = ⊥
IsNumberKind Word = ⊥
IsNumberKind System = ⊥
IsNumberKind Symbol = ⊥

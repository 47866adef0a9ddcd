-- What a piece of a text does: it gives a token, carries out a directive, stands for a macro's text, or has no place
-- (IEEE 1364-2005, clauses 3 and 19). Spans, lines and limits are this project's own.
use Rattle.std.specs.Prelude.{ℕ, Bool, true, false, not, ◌+◌, ◌-◌, ◌&&◌, ◌||◌, List, [], ◌∷◌, ◌++◌, length, drop, count_by, if◌then◌else◌, ◌==◌, nat_lt, codes, Some, None, Ok, Err}
use Rattle.std.specs.List.{list_all, list_any}
use Rattle.std.specs.FinMap as map
use Rattle.loc_base.specs.declared.span.Span.{Span}
use Rattle.v_syntax.specs.declared.token_kind.TokenKind.{TokenKind}
use Rattle.v_syntax.specs.declared.token_kind.TokenKind.TheVariants.{Name, Word, System, Symbol, Number}
use Rattle.v_lexer.specs.declared.types.refusal.LexErr.{LexErr}
use Rattle.v_lexer.specs.declared.types.refusal.LexErr.TheVariants as refused
use Rattle.v_syntax.specs.declared.literal.NumberFault.{NumberFault}
use Rattle.v_syntax.specs.declared.literal.NumberFault.TheVariants.{Malformed, Unknown, Wide}
use Rattle.v_lexer.specs.declared.directives.Directive.{Directive}
use Rattle.v_lexer.specs.declared.directives.Directive.TheVariants.{Define, Undef, Ifdef, Ifndef, Elsif, Else, Endif, Line, ToLineEnd, Alone, Use}
use Rattle.v_lexer.specs.declared.pieces.Piece.{Piece}
use Rattle.v_lexer.specs.declared.pieces.Piece.TheVariants as piece
use Rattle.v_lexer.specs.declared.position.Position.{Position}
use Rattle.v_lexer.specs.declared.position.Position.TheVariants.{Text, Macro}
use Rattle.v_lexer.specs.declared.conditionals.Arm.{Arm}
use Rattle.v_lexer.specs.declared.conditionals.Arm.TheVariants.{Taken, Waiting, Nested}
use Rattle.v_lexer.specs.declared.state.State.{State}
use Rattle.v_lexer.specs.Conditionals.{next_arm, is_nested, is_skipping}
use Rattle.v_syntax.specs.Bytes.{is_visible, is_white}
use Rattle.v_lexer.specs.Words.{is_reserved, is_system}
use Rattle.v_syntax.specs.Literals.{judge, skip_white}
use Rattle.v_lexer.specs.Directives.{word_of, tail_of, definition_of}
use Rattle.v_lexer.specs.LineDirectives.{is_line_tail}
use Rattle.v_lexer.specs.Lexeme.{Lexeme}

-- the span of so many bytes from a place on; in a macro's text, that of the macro's use
abbrev pub span_of : Position → ℕ → Span
span_of (Text from line fresh) size = record { from = from; to = from + size }
span_of (Macro span line) size = span

-- the line of a place
abbrev pub line_of : Position → ℕ
line_of (Text from line fresh) = line
line_of (Macro span line) = line

-- whether only white space stands on a line behind a piece, by whether only white space stood there before it
abbrev pub stays_fresh : Bool → List ℕ → Bool
stays_fresh fresh piece = list_all is_white piece && (fresh || list_any (λ byte. byte == 10) piece)

-- the place behind a piece
abbrev pub past : Position → List ℕ → Position
past (Text from line fresh) piece = Text (from + length piece) (line + count_by (λ byte. byte == 10) piece) (stays_fresh fresh piece)
past (Macro span line) piece = Macro span line

-- any place in the text of a macro that a piece uses
abbrev pub inside : Position → List ℕ → Position
inside place piece = Macro (span_of place (length piece)) (line_of place)

-- a directive that stands alone on its line
abbrev pub is_line : Directive → Bool
is_line Line = true
is_line Define = false
is_line Undef = false
is_line Ifdef = false
is_line Ifndef = false
is_line Elsif = false
is_line Else = false
is_line Endif = false
is_line ToLineEnd = false
is_line Alone = false
is_line Use = false

-- whether a directive may stand at a place: in the text itself, and a `line` behind nothing but white space on its line
abbrev pub may_stand : Position → Directive → Bool
may_stand (Text from line fresh) word = fresh || not (is_line word)
may_stand (Macro span line) word = false

-- the span of what counts a whole text
abbrev pub nowhere : Span
nowhere = record { from = 0; to = 0 }

-- what comes of a piece: another state, a refusal, or a macro's text to be read
pub data Step : Type 0 where
  goes : State → Step
  stops : LexErr → Step
  expands : List ℕ → State → Step

-- one more token, of which there are at most 2,000,000
unfoldable pub adds : State → Position → ℕ → TokenKind → List ℕ → Step
adds s place size kind text =
    let token : Lexeme = record { kind = kind; span = span_of place size; line = line_of place; text = text } in
    if nat_lt (length s.tokens) 2000000 then goes (record s { tokens = s.tokens ++ token ∷ [] }) else stops (refused.TooLong nowhere)

-- a simple identifier or a reserved word
abbrev pub adds_name : State → Position → List ℕ → Step
adds_name s place piece = adds s place (length piece) (if is_reserved piece then Word else Name) piece

-- the bytes behind the backslash are a name where there are some, all of them printable and no space
abbrev pub is_escaped_name : List ℕ → Bool
is_escaped_name [] = false
is_escaped_name (byte ∷ rest) = list_all is_visible (byte ∷ rest)

-- an escaped identifier
abbrev pub adds_escaped : State → Position → List ℕ → Step
adds_escaped s place piece =
    if is_escaped_name (drop 1 piece) then adds s place (length piece) Name (drop 1 piece) else stops (refused.BadByte (span_of place 1))

-- the name of a system function
abbrev pub adds_system : State → Position → List ℕ → Step
adds_system s place piece = if is_system piece then adds s place (length piece) System piece else stops (refused.BadByte (span_of place 1))

-- a symbol
abbrev pub adds_symbol : State → Position → List ℕ → Step
adds_symbol s place piece = adds s place (length piece) Symbol piece

-- a step, and another one behind it
abbrev pub followed : Step → (State → Step) → Step
followed (goes t) next = next t
followed (stops fault) next = stops fault
followed (expands body t) next = expands body t

-- a `#` and a real number directly behind it, which is ignored as every delay is: it stands as the number 0
abbrev pub adds_real_delay : State → Position → List ℕ → Step
adds_real_delay s place piece =
    followed (adds s place 1 Symbol (codes "#")) (λ t. adds t (past place (codes "#")) (length piece - 1) Number (codes "0"))

-- the refusal for a fault of a number
abbrev pub number_refusal : NumberFault → Span → LexErr
number_refusal Malformed span = refused.BadNumber span
number_refusal Unknown span = refused.UnknownValue span
number_refusal Wide span = refused.WideNumber span

-- a number
abbrev pub adds_number : State → Position → List ℕ → Step
adds_number s place piece =
    elim (judge piece) [ Ok kind ↦ adds s place (length piece) kind piece | Err fault ↦ stops (number_refusal fault (span_of place 1)) ]

-- a conditional opens
abbrev pub opens : State → Span → Arm → Step
opens s span arm = goes (record s { conditionals = record { opener = span; arm = arm; is_last = false } ∷ s.conditionals })

-- `ifdef` and `ifndef`, by whether the part behind it is taken
abbrev pub opens_if : State → Span → List ℕ → Bool → Step
opens_if s span [] holds = stops (refused.Directive span)
opens_if s span (byte ∷ rest) holds = opens s span (if holds then Taken else Waiting)

-- `else` and `elsif` go on in the innermost conditional; behind an `else` there is no more
abbrev pub goes_on : State → Span → Bool → Bool → Bool → Step
goes_on s span fits holds last =
    elim s.conditionals [
      | [] ↦ stops (refused.Directive span)
      | inner ∷ outer ↦
          if is_nested inner.arm then goes s
          else if inner.is_last || not fits then stops (refused.Directive span)
          else goes (record s { conditionals = record { opener = inner.opener; arm = next_arm inner.arm holds; is_last = last } ∷ outer })
    ]

-- `endif` closes the innermost conditional
abbrev pub closes : State → Span → Step
closes s span = elim s.conditionals [ [] ↦ stops (refused.Directive span) | inner ∷ outer ↦ goes (record s { conditionals = outer }) ]

-- whether a macro of this name is defined
abbrev pub is_defined : State → List ℕ → Bool
is_defined s name = map.contains_key s.macros name

-- a name is there
abbrev pub is_some_name : List ℕ → Bool
is_some_name [] = false
is_some_name (byte ∷ rest) = true

-- `define`
abbrev pub defines : State → Span → List ℕ → Step
defines s span tail =
    elim (definition_of tail) [
      | Some definition ↦ goes (record s { macros = map.insert s.macros definition.0 definition.1 })
      | None ↦ stops (refused.Directive span)
    ]

-- `undef`
abbrev pub undefines : State → Span → List ℕ → Step
undefines s span [] = stops (refused.Directive span)
undefines s span (byte ∷ rest) = goes (record s { macros = map.remove s.macros (byte ∷ rest) })

-- a `line` directive, which is read and ignored
abbrev pub lines : State → Span → List ℕ → Step
lines s span tail = if is_line_tail tail then goes s else stops (refused.Directive span)

-- a directive in a part that is taken, by its span and what stands behind its word
abbrev pub directs : State → Span → Directive → List ℕ → Step
directs s span Define tail = defines s span tail
directs s span Undef tail = undefines s span (skip_white tail)
directs s span Ifdef tail = opens_if s span (skip_white tail) (is_defined s (skip_white tail))
directs s span Ifndef tail = opens_if s span (skip_white tail) (not (is_defined s (skip_white tail)))
directs s span Elsif tail = goes_on s span (is_some_name (skip_white tail)) (is_defined s (skip_white tail)) false
directs s span Else tail = goes_on s span true true true
directs s span Endif tail = closes s span
directs s span Line tail = lines s span tail
directs s span ToLineEnd tail = goes s
directs s span Alone tail = goes s
directs s span Use tail = goes s

-- a directive in a part that isn't taken
abbrev pub skips : State → Span → Directive → List ℕ → Step
skips s span Define tail = goes s
skips s span Undef tail = goes s
skips s span Ifdef tail = opens s span Nested
skips s span Ifndef tail = opens s span Nested
skips s span Elsif tail = goes_on s span (is_some_name (skip_white tail)) (is_defined s (skip_white tail)) false
skips s span Else tail = goes_on s span true true true
skips s span Endif tail = closes s span
skips s span Line tail = goes s
skips s span ToLineEnd tail = goes s
skips s span Alone tail = goes s
skips s span Use tail = goes s

-- the text of a macro that is used, where `left` more levels of expansion may open
abbrev pub enters : ℕ → State → Span → List ℕ → Step
enters left s span text =
    if left == 0 then stops (refused.MacroDepth span)
    else if nat_lt s.macro_bytes_left (length text) then stops (refused.TooLong nowhere)
    else expands text (record s { macro_bytes_left = s.macro_bytes_left - length text })

-- the use of a macro
abbrev pub uses : ℕ → State → Span → List ℕ → Step
uses left s span name =
    elim (map.get s.macros name) [ Some text ↦ enters left s span text | None ↦ stops (refused.Directive span) ]

-- the backtick and the word behind it
abbrev pub word_span : Position → List ℕ → Span
word_span place piece = span_of place (1 + length (word_of (drop 1 piece)))

-- a directive; in a macro's text there is only the use of macros
abbrev pub commands : ℕ → State → Position → Directive → List ℕ → Step
commands left s place Use piece = uses left s (word_span place piece) (drop 1 piece)
commands left s place word piece =
    if may_stand place word then directs s (word_span place piece) word (tail_of (drop 1 piece))
    else stops (refused.Directive (word_span place piece))

-- what a piece does in a part that is taken
abbrev pub takes : ℕ → State → Position → Piece → List ℕ → Step
takes left s place piece.Blank text = goes s
takes left s place piece.OpenComment text = stops (refused.OpenComment (span_of place 2))
takes left s place piece.Name text = adds_name s place text
takes left s place piece.Escaped text = adds_escaped s place text
takes left s place piece.System text = adds_system s place text
takes left s place piece.Symbol text = adds_symbol s place text
takes left s place piece.RealDelay text = adds_real_delay s place text
takes left s place piece.Number text = adds_number s place text
takes left s place (piece.Directive word) text = commands left s place word text
takes left s place piece.Stray text = stops (refused.BadByte (span_of place 1))

-- what a piece does in a part that isn't taken
abbrev pub passes : State → Position → Piece → List ℕ → Step
passes s place piece.Blank text = goes s
passes s place piece.OpenComment text = goes s
passes s place piece.Name text = goes s
passes s place piece.Escaped text = goes s
passes s place piece.System text = goes s
passes s place piece.Symbol text = goes s
passes s place piece.RealDelay text = goes s
passes s place piece.Number text = goes s
passes s place (piece.Directive word) text = skips s (word_span place text) word (tail_of (drop 1 text))
passes s place piece.Stray text = goes s

-- what a piece does
abbrev pub does : ℕ → State → Position → Piece → List ℕ → Step
does left s place kind text = if is_skipping s.conditionals then passes s place kind text else takes left s place kind text

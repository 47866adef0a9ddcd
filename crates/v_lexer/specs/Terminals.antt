-- The terminals of the grammar: what each token is to it (IEEE 1364-2005, clause 3, 17 and annex B). The tables of spellings
-- are those of the code.
use Rattle.std.specs.Prelude.{ℕ, Bool, true, ◌&&◌, List, [], ◌∷◌, map, Option, unwrap_or, bytes_eq}
use Rattle.std.specs.Map.{lookup}
use Rattle.std.specs.Ordering.{nat_cmp, is_lt}
use Rattle.std.specs.Cmp.Lexicographic.{slice_cmp}
use Rattle.v_syntax.specs.declared.token_kind.TokenKind.{TokenKind}
use Rattle.v_syntax.specs.declared.token_kind.TokenKind.TheVariants as kind
use Rattle.v_lexer.specs.declared.types.terminal.Terminal.{Terminal}
use Rattle.v_lexer.specs.declared.types.terminal.Terminal.TheVariants.{Nothing, Name, Number, Wild}
use Rattle.v_lexer.specs.declared.terminals.TheConstants.{SYMBOLS, SYSTEM_FUNCTIONS, RESERVED_WORDS}

-- a spelling and the terminal that it has
abbrev pub Row : Type 0
Row = List ℕ × Terminal

-- the terminal that a table has for a text
abbrev pub spelled : List Row → List ℕ → Option Terminal
spelled rows text = lookup (bytes_eq text) rows

-- each spelling of a table is below the next
abbrev pub ascends : List Row → Bool
ascends [] = true
ascends (row ∷ []) = true
ascends (row ∷ next ∷ rows) = is_lt (slice_cmp nat_cmp row.0 next.0) && ascends (next ∷ rows)

-- the terminals of the symbols, of the system functions and of the reserved words
unfoldable pub symbol : List ℕ → Option Terminal
symbol = spelled (map (λ row. (row.0.now, row.1)) SYMBOLS)

unfoldable pub system_function : List ℕ → Option Terminal
system_function = spelled (map (λ row. (row.0.now, row.1)) SYSTEM_FUNCTIONS)

unfoldable pub reserved_word : List ℕ → Option Terminal
reserved_word = spelled (map (λ row. (row.0.now, row.1)) RESERVED_WORDS)

-- what a token of this kind and this text is to the grammar
abbrev pub terminal_of : TokenKind → List ℕ → Terminal
terminal_of kind.Name text = Name
terminal_of kind.Number text = Number
terminal_of kind.Wild text = Wild
terminal_of kind.System text = unwrap_or (system_function text) Nothing
terminal_of kind.Symbol text = unwrap_or (symbol text) Nothing
terminal_of kind.Word text = unwrap_or (reserved_word text) Nothing

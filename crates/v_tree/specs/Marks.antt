-- What a token is to the grammar.
use Rattle.std.specs.Prelude.{ℕ, Bool, List, Option, Some, None, slice_get}
use denote.Enum.Bare.{sameb}
use Rattle.v_lexer.specs.Lexeme.{Lexeme}
use Rattle.v_lexer.specs.Terminals.{terminal_of}
use Rattle.v_lexer.specs.contracts.types.terminal.Terminal.{the_type}
use Rattle.v_lexer.specs.declared.types.terminal.Terminal.{Terminal}
use Rattle.v_lexer.specs.declared.types.terminal.Terminal.TheVariants.{Nothing}

abbrev pub mark_in : Option Lexeme → Terminal
mark_in None = Nothing
mark_in (Some token) = terminal_of token.kind token.text

-- what the token of that number is, counted from 0, and `Nothing` behind the last
unfoldable pub mark_at : List Lexeme → ℕ → Terminal
mark_at tokens n = mark_in (slice_get tokens n)

-- the two are one terminal
abbrev pub same : Terminal → Terminal → Bool
same = sameb the_type

-- Where a node of the tree stands, and where a refusal is shown.
use Rattle.std.specs.Prelude.{ℕ, ◌-◌, List, [], Option, Some, None, length, slice_get}
use Rattle.loc_base.specs.declared.span.Span.{Span}
use Rattle.v_lexer.specs.Lexeme.{Lexeme}
use Rattle.v_syntax.specs.declared.site.Site.{Site}

abbrev pub span_in : Option Lexeme → Span
span_in None = record { from = 0; to = 0 }
span_in (Some token) = token.span

abbrev pub line_in : Option Lexeme → ℕ
line_in None = 0
line_in (Some token) = token.line

abbrev pub text_in : Option Lexeme → List ℕ
text_in None = []
text_in (Some token) = token.text

-- the span, the line and the text of the token of that number
unfoldable pub span_at : List Lexeme → ℕ → Span
span_at tokens n = span_in (slice_get tokens n)

unfoldable pub line_at : List Lexeme → ℕ → ℕ
line_at tokens n = line_in (slice_get tokens n)

unfoldable pub text_at : List Lexeme → ℕ → List ℕ
text_at tokens n = text_in (slice_get tokens n)

-- what the tokens from `from` up to `to` span, with the number and the line of the first
unfoldable pub site : List Lexeme → ℕ → ℕ → Site
site tokens from to =
    record { span = record { from = (span_at tokens from).from; to = (span_at tokens (to - 1)).to }; token = from; line = line_at tokens from }

-- the end of the last token twice, and 0 to 0 where there is none
unfoldable pub end_span : List Lexeme → Span
end_span tokens = let last = (span_at tokens (length tokens - 1)).to in record { from = last; to = last }

abbrev pub span_or : Span → Option Lexeme → Span
span_or otherwise None = otherwise
span_or otherwise (Some token) = token.span

-- the span of the token of that number, or of the end
unfoldable pub place_span : List Lexeme → ℕ → Span
place_span tokens n = span_or (end_span tokens) (slice_get tokens n)

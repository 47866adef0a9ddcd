-- A token as contracts see it (IEEE 1364-2005, clause 3).
use Rattle.std.specs.Prelude.{ℕ, List}
use Rattle.loc_base.specs.declared.span.Span.{Span}
use Rattle.v_syntax.specs.declared.token_kind.TokenKind.{TokenKind}

-- what a token is, where it stands, and its text
pub record Lexeme : Type 0 where
  pub kind : TokenKind
  pub span : Span
  pub line : ℕ
  pub text : List ℕ

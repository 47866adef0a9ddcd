-- The texts of a token of each kind (IEEE 1364-2005, clause 3).
use Rattle.std.specs.Prelude.{◌≡◌, ◌≢◌, ℕ, false, List, [], IsTrue, Some, Ok}
use Rattle.std.specs.List.{list_all}
use Rattle.v_syntax.specs.declared.token_kind.TokenKind.{TokenKind}
use Rattle.v_syntax.specs.declared.token_kind.TokenKind.TheVariants.{Name, Word, System, Symbol, Number, Wild}
use Rattle.v_lexer.specs.declared.pieces.Piece.TheVariants.{Number as NumberPiece}
use Rattle.v_syntax.specs.Bytes.{is_visible}
use Rattle.v_lexer.specs.Words.{is_reserved, is_system}
use Rattle.v_lexer.specs.Symbols.{is_symbol}
use Rattle.v_syntax.specs.Literals.{judge}
use Rattle.v_lexer.specs.Pieces.{kind_in}

-- a text that a token of this kind can have
abbrev pub IsTokenText : TokenKind → List ℕ → Type 0
IsTokenText Name text = (text ≢ []) × IsTrue (list_all is_visible text)
IsTokenText Word text = IsTrue (is_reserved text)
IsTokenText System text = IsTrue (is_system text)
IsTokenText Symbol text = IsTrue (is_symbol text)
IsTokenText Number text = (kind_in false text ≡ Some NumberPiece) × (judge text ≡ Ok Number)
IsTokenText Wild text = (kind_in false text ≡ Some NumberPiece) × (judge text ≡ Ok Wild)

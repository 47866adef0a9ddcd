-- What a string of bytes is as a whole piece of a text (IEEE 1364-2005, clauses 3 and 19), one row for each first byte.
-- Faulty pieces are pieces too: a byte that begins nothing, a comment that isn't closed, a number without its digits.
use Rattle.std.specs.Prelude.{◌≡◌, ◌≢◌, ℕ, Bool, false, true, ◌&&◌, not, List, [], ◌∷◌, ◌++◌, if◌then◌else◌, ◌==◌, Option, Some, None}
use Rattle.std.specs.List.{list_all}
use Rattle.v_lexer.specs.declared.pieces.Piece.{Piece}
use Rattle.v_lexer.specs.declared.pieces.Piece.TheVariants.{Blank, OpenComment, Name, Escaped, System, Symbol, RealDelay, Number, Directive, Stray}
use Rattle.v_syntax.specs.Bytes.{is_white, not_white, not_newline, is_letter, is_decimal, is_name_byte, is_mark}
use Rattle.v_lexer.specs.Symbols.{is_symbol}
use Rattle.v_lexer.specs.RealDelays.{is_real_rest}
use Rattle.v_syntax.specs.Numbers.{is_number_rest, is_based}
use Rattle.v_lexer.specs.Directives.{directive_of, is_tail, word_of, tail_of, is_nothing}

-- a piece of this kind where the test holds
abbrev pub when : Bool → Piece → Option Piece
when test kind = if test then Some kind else None

-- a piece of this kind goes on with the bytes for which the test holds
unfoldable pub if_all : (List ℕ → Bool) → Piece → List ℕ → Option Piece
if_all test kind rest = when (test rest) kind

-- a piece goes on with any number of bytes of a class
unfoldable pub run_of : (ℕ → Bool) → Piece → List ℕ → Option Piece
run_of test kind rest = when (list_all test rest) kind

-- inside a block comment or an attribute: the first byte of this sort behind a star closes it; `star` says that one stands before these
-- bytes
unfoldable pub block_rest : ℕ → Bool → List ℕ → Option Piece
block_rest close star [] = Some OpenComment
block_rest close star (byte ∷ rest) = if star && byte == close then when (is_nothing rest) Blank else block_rest close (byte == 42) rest

-- behind a slash: a comment to the line's end, a block comment, or nothing
unfoldable pub slash_rest : List ℕ → Option Piece
slash_rest [] = Some Symbol
slash_rest (byte ∷ rest) =
    if byte == 47 then run_of not_newline Blank rest else if byte == 42 then block_rest 47 false rest else None

-- behind the two bytes that open an attribute (3.8): up to a star and a closing parenthesis; where nothing but white space stands before
-- the first parenthesis, there is none
unfoldable pub attribute_rest : List ℕ → Option Piece
attribute_rest [] = None
attribute_rest (byte ∷ rest) =
    if is_white byte then attribute_rest rest else if byte == 41 then None else block_rest 41 (byte == 42) rest

-- behind an opening parenthesis: an attribute, or nothing
unfoldable pub paren_rest : List ℕ → Option Piece
paren_rest [] = Some Symbol
paren_rest (byte ∷ rest) = if byte == 42 then attribute_rest rest else None

-- behind a backtick: a word, and as much as its directive takes
unfoldable pub directive_rest : Bool → List ℕ → Option Piece
directive_rest skipping rest =
    let word = directive_of (word_of rest) in when (is_tail skipping word (tail_of rest)) (Directive word)

-- behind the first byte of a symbol
unfoldable pub symbol_rest : ℕ → List ℕ → Option Piece
symbol_rest first rest = when (is_symbol (first ∷ rest)) Symbol

-- behind a `#`: a real number (3.5.2), or nothing
unfoldable pub hash_rest : List ℕ → Option Piece
hash_rest [] = Some Symbol
hash_rest (byte ∷ rest) = when (is_decimal byte && is_real_rest rest) RealDelay

-- what a piece is that begins with this byte, by the bytes behind it
unfoldable pub taken_rest : ℕ → List ℕ → Option Piece
taken_rest first =
    if is_white first then run_of is_white Blank
    else if is_letter first then run_of is_name_byte Name
    else if first == 92 then run_of not_white Escaped
    else if first == 36 then run_of is_name_byte System
    else if is_decimal first then if_all is_number_rest Number
    else if first == 39 then if_all is_based Number
    else if first == 96 then directive_rest false
    else if first == 47 then slash_rest
    else if first == 40 then paren_rest
    else if first == 35 then hash_rest
    else if is_mark first then symbol_rest first
    else if_all is_nothing Stray

-- a byte that begins no comment and no directive
abbrev pub is_plain : ℕ → Bool
is_plain byte = not (byte == 96) && not (byte == 47)

-- the same in a part that isn't taken: comments, directives, and the runs of bytes between them
unfoldable pub skipped_rest : ℕ → List ℕ → Option Piece
skipped_rest first =
    if first == 96 then directive_rest true else if first == 47 then slash_rest else run_of is_plain Blank

-- what a string of bytes is as a whole
abbrev pub kind_in : Bool → List ℕ → Option Piece
kind_in skipping [] = None
kind_in skipping (first ∷ rest) = (if skipping then skipped_rest first else taken_rest first) rest

-- `piece` is a piece of this kind, and with what stands behind it no longer one begins where it begins
pub record IsPiece (skipping : Bool) (kind : Piece) (piece behind : List ℕ) : Type 0 where
  pub is_one : kind_in skipping piece ≡ Some kind
  pub longest : (more rest : List ℕ) → more ++ rest ≡ behind → more ≢ [] → kind_in skipping (piece ++ more) ≡ None

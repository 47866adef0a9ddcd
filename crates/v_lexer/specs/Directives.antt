-- Compiler directives (IEEE 1364-2005, clause 19): the word behind the backtick, and how far the directive goes.
use Rattle.std.specs.Prelude.{ℕ, Bool, true, false, not, ◌&&◌, ◌+◌, List, [], ◌∷◌, take, drop, if◌then◌else◌, ◌==◌, bytes_eq, codes, Option, Some, None}
use Rattle.std.specs.List.{list_all, prefix_len}
use Rattle.v_lexer.specs.declared.directives.Directive.{Directive}
use Rattle.v_lexer.specs.declared.directives.Directive.TheVariants.{Define, Undef, Ifdef, Ifndef, Elsif, Else, Endif, Line, ToLineEnd, Alone, Use}
use Rattle.v_syntax.specs.Bytes.{is_white, is_letter, is_name_byte, not_newline}
use Rattle.v_lexer.specs.Words.{is_among}
use Rattle.v_syntax.specs.Literals.{skip_white}

-- the directive that a word names; any other word is the use of a macro
unfoldable pub directive_of : List ℕ → Directive
directive_of word =
    if bytes_eq word (codes "define") then Define
    else if bytes_eq word (codes "undef") then Undef
    else if bytes_eq word (codes "ifdef") then Ifdef
    else if bytes_eq word (codes "ifndef") then Ifndef
    else if bytes_eq word (codes "elsif") then Elsif
    else if bytes_eq word (codes "else") then Else
    else if bytes_eq word (codes "endif") then Endif
    else if bytes_eq word (codes "line") then Line
    else if is_among word (codes "timescale" ∷ codes "default_nettype" ∷ []) then ToLineEnd
    else if is_among word (codes "celldefine" ∷ codes "endcelldefine" ∷ codes "resetall" ∷ []) then Alone
    else Use

-- the name of a macro: a simple identifier
abbrev pub is_identifier : List ℕ → Bool
is_identifier [] = false
is_identifier (byte ∷ rest) = is_letter byte && list_all is_name_byte rest

-- behind white space: more of it, and a macro's name
unfoldable pub is_spaced_name : List ℕ → Bool
is_spaced_name [] = false
is_spaced_name (byte ∷ rest) = if is_white byte then is_spaced_name rest else is_letter byte && list_all is_name_byte rest

-- behind the word: nothing, or white space and a macro's name
unfoldable pub is_named : List ℕ → Bool
is_named [] = true
is_named (byte ∷ rest) = is_white byte && is_spaced_name rest

-- a line that goes on behind each newline that a backslash stands before; `escaped` says that one stands before these bytes
unfoldable pub is_line : Bool → List ℕ → Bool
is_line escaped [] = true
is_line escaped (byte ∷ rest) = if byte == 10 && not escaped then false else is_line (byte == 92) rest

-- no bytes
abbrev pub is_nothing : List ℕ → Bool
is_nothing [] = true
is_nothing (byte ∷ rest) = false

-- how far a directive goes behind its word; in a part that isn't taken, lines aren't looked at
unfoldable pub is_tail : Bool → Directive → List ℕ → Bool
is_tail skipping Define tail = if skipping then is_nothing tail else is_line false tail
is_tail skipping ToLineEnd tail = if skipping then is_nothing tail else list_all not_newline tail
is_tail skipping Line tail = if skipping then is_nothing tail else list_all not_newline tail
is_tail skipping Undef tail = is_named tail
is_tail skipping Ifdef tail = is_named tail
is_tail skipping Ifndef tail = is_named tail
is_tail skipping Elsif tail = is_named tail
is_tail skipping Else tail = is_nothing tail
is_tail skipping Endif tail = is_nothing tail
is_tail skipping Alone tail = is_nothing tail
is_tail skipping Use tail = is_nothing tail

-- how many bytes of a simple identifier the bytes begin with
unfoldable pub word_size : List ℕ → ℕ
word_size [] = 0
word_size (byte ∷ rest) = if is_letter byte then 1 + prefix_len is_name_byte rest else 0

-- the word behind the backtick, and what stands behind the word
abbrev pub word_of : List ℕ → List ℕ
word_of bytes = take (word_size bytes) bytes

abbrev pub tail_of : List ℕ → List ℕ
tail_of bytes = drop (word_size bytes) bytes

-- the bytes begin with this one
abbrev pub begins_with : ℕ → List ℕ → Bool
begins_with byte [] = false
begins_with byte (first ∷ rest) = first == byte

-- a continued line without the backslashes that continue it; the newlines stay
unfoldable pub joined : List ℕ → List ℕ
joined [] = []
joined (byte ∷ rest) = if byte == 92 && begins_with 10 rest then joined rest else byte ∷ joined rest

-- a macro's name and text: a simple identifier with no parenthesis directly behind it
abbrev pub definition_at : List ℕ → Option (List ℕ × List ℕ)
definition_at [] = None
definition_at (byte ∷ rest) =
    if is_letter byte && not (begins_with 40 (tail_of (byte ∷ rest))) then Some (word_of (byte ∷ rest), skip_white (tail_of (byte ∷ rest)))
    else None

-- the name and the text that a joined line gives
abbrev pub definition_in : List ℕ → Option (List ℕ × List ℕ)
definition_in line = definition_at (skip_white line)

-- the name and the text that a `define` gives behind its word
abbrev pub definition_of : List ℕ → Option (List ℕ × List ℕ)
definition_of tail = definition_in (joined tail)

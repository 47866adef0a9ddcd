-- What is printed of a note, in pieces.
use Rattle.std.specs.Prelude.{ℕ, ◌≡◌, ◌++◌, ◌&&◌, ◌||◌, ◌==◌, List, [], ◌∷◌, codes, decimal, if◌then◌else◌, nat_le}
use Rattle.printed_text.specs.Numerals.{newline, value_text}
use Rattle.refusal.specs.declared.code.Code.{Code}
use Rattle.refusal.specs.declared.code.Code.TheVariants.{Bare, At, Line, Limit, Memory}

-- more stands after a text, and begins with a piece
pub record Begins (piece old new : List ℕ) : Type 0 where
  pub more : List ℕ
  pub is : new ≡ old ++ (piece ++ more)

-- the code of a refusal alone
abbrev pub code_word : Code → List ℕ
code_word (Bare code) = code.now
code_word (At code span) = code.now
code_word (Line code line) = code.now
code_word (Limit code) = code.now
code_word Memory = codes "memory"

-- `:LINE` of a code that names a line, or nothing
abbrev pub line_text : Code → List ℕ
line_text (Line code line) = codes ":" ++ decimal line
line_text _ = []

-- `:LINE:COLUMN`
abbrev pub spot_text : ℕ → ℕ → List ℕ
spot_text line column = codes ":" ++ decimal line ++ codes ":" ++ decimal column

-- `: error CODE`
abbrev pub error_text : List ℕ → List ℕ
error_text code = codes ": error " ++ code

-- a tab and a carriage return are shown as a space, what else isn't printable ASCII as a question mark
abbrev pub shown_byte : ℕ → ℕ
shown_byte byte = if byte == 9 || byte == 13 then 32 else (if nat_le 32 byte && nat_le byte 126 then byte else 63)

-- `WIDTH'hDIGITS` (IEEE 1364-2005, 3.5.1)
abbrev pub literal_text : ℕ → ℕ → List ℕ
literal_text width value = decimal width ++ codes "'h" ++ value_text width value

-- `trace T misses in cycle C`
abbrev pub moment_text : ℕ → ℕ → List ℕ
moment_text trace cycle = codes "trace " ++ decimal trace ++ codes " misses in cycle " ++ decimal cycle

-- `trace T: scope PATH`
abbrev pub scope_text : ℕ → List ℕ → List ℕ
scope_text trace path = codes "trace " ++ decimal trace ++ codes ": scope " ++ path ++ newline

-- `: OUTPUT`
abbrev pub output_text : List ℕ → List ℕ
output_text output = codes ": " ++ output

-- ` is GIVEN, wanted WANTED`
abbrev pub values_text : ℕ → ℕ → ℕ → ℕ → List ℕ
values_text width given wanted_width wanted =
    codes " is " ++ literal_text width given ++ codes ", wanted " ++ literal_text wanted_width wanted ++ newline

-- `: WORD` of an argument that is wrong, or nothing where none is known
abbrev pub wrong_text : List ℕ → List ℕ
wrong_text [] = []
wrong_text (byte ∷ bytes) = codes ": " ++ byte ∷ bytes

-- how the command is called, and where its arguments are explained
abbrev pub synopsis_text : List ℕ → List ℕ
synopsis_text synopsis = synopsis ++ newline ++ codes "localise help COMMAND explains the arguments" ++ newline

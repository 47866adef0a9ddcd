-- The reading of a dump's text, piece by piece from the left, up to its end or to the first wrong word (IEEE 1364-2005,
-- 18.2).
use Rattle.std.specs.Prelude.{ℕ, ◌≡◌, not, List, [], ◌∷◌, length, Option, Some, None, Result, Ok, Err}
use Rattle.vcd_words.specs.Words.{Placed, words_at}
use Rattle.vcd_reading.specs.declared.kinds.Kind.{Kind}
use Rattle.vcd_reading.specs.declared.kinds.Kind.TheVariants.{Time, Scalar, Vector, Real, Text, Mark, Section}
use Rattle.vcd_reading.specs.Pieces.{kind_of, behind}
use Rattle.vcd_reading.specs.Header.{no_header, wrong_in, declared}
use Rattle.vcd_reading.specs.Scopes.{Sought}
use Rattle.vcd_reading.specs.Changes.{Past, timed, scalar, vector, other_value}

-- what a piece does, by its first word and the words behind that, or the place of the word at fault
abbrev pub does : Sought → Past → Kind → Placed → List Placed → Result Past ℕ
does sought past (Time time) first words = timed past time first.at
does sought past (Scalar level) first words = scalar sought past level first
does sought past (Vector level) first words = vector sought past level first words
does sought past Real first words = other_value sought past first words
does sought past Text first words = other_value sought past first words
does sought past Mark first words = Ok past
does sought past (Section name) first words = Ok (record past { header = declared past.header name words })

-- the first word that is wrong inside a section, whether or not the section ends
abbrev pub wrong_inside : Kind → List Placed → Option ℕ
wrong_inside (Section name) words = wrong_in name words
wrong_inside (Time time) words = None
wrong_inside (Scalar level) words = None
wrong_inside (Vector level) words = None
wrong_inside Real words = None
wrong_inside Text words = None
wrong_inside Mark words = None

-- what comes of a piece: reading goes on from the words behind it, or stops at an offset
pub data Step : Type 0 where
  goes : Past → List Placed → Step
  stops : ℕ → Step

abbrev pub step_done : Result Past ℕ → List Placed → Step
step_done (Ok past) rest = goes past rest
step_done (Err at) rest = stops at

-- a piece that the text ends inside is wrong at the text's end
abbrev pub step_behind : ℕ → Option (List Placed) → Result Past ℕ → Step
step_behind end None deed = stops end
step_behind end (Some rest) deed = step_done deed rest

abbrev pub step_inside : Option ℕ → Step → Step
step_inside (Some at) whole = stops at
step_inside None whole = whole

-- a word that begins no piece is wrong itself
abbrev pub step_of : Sought → ℕ → Past → Option Kind → Placed → List Placed → Step
step_of sought end past None first words = stops first.at
step_of sought end past (Some kind) first words =
    step_inside (wrong_inside kind words) (step_behind end (behind kind words) (does sought past kind first words))

-- the step of the piece that begins with a word
abbrev pub step : Sought → ℕ → Past → Placed → List Placed → Step
step sought end past first words = step_of sought end past (kind_of (not past.header.ended) first.word) first words

-- what comes of the words from a place on: what stands before the text's end, or the place of the first wrong word
pub data Reads (sought : Sought) (end : ℕ) : Past → List Placed → Result Past ℕ → Type 0 where
  at_end : {past : Past} → Reads sought end past [] (Ok past)
  one_piece : {past next : Past} {first : Placed} {words rest : List Placed} {outcome : Result Past ℕ}
      → step sought end past first words ≡ goes next rest → Reads sought end next rest outcome
      → Reads sought end past (first ∷ words) outcome
  at_fault : {past : Past} {first : Placed} {words : List Placed} {at : ℕ}
      → step sought end past first words ≡ stops at → Reads sought end past (first ∷ words) (Err at)

-- what stands before the first word
abbrev pub no_past : Past
no_past = record { header = no_header; time = None; ended = []; events = [] }

-- a text reads to its end, or to its first wrong word
abbrev pub ReadsText : Sought → List ℕ → Result Past ℕ → Type 0
ReadsText sought text outcome = Reads sought (length text) no_past (words_at 0 text) outcome

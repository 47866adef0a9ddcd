-- What is printed of a note. What its words are isn't said, nor how much of a line is shown.
use Rattle.std.specs.Prelude.{ℕ, ◌≡◌, ◌≤◌, ◌+◌, ◌-◌, ◌++◌, List, codes, length, take, Option, Some, None}
use Rattle.std.specs.List.{count_by}
use Rattle.loc_base.specs.Bits.{value_of, width_of}
use Rattle.loc_base.specs.declared.span.Span.{Span}
use Rattle.refusal.specs.Codes.{code_span}
use Rattle.refusal.specs.declared.notes.Note.{Note}
use Rattle.refusal.specs.declared.notes.Note.TheVariants.{Usage, Refused, Limited, Unread, Unwritten, Scope, Missed, Progress, Printing, Written}
use Rattle.note_text.specs.Places.{IsLineStart, is_newline}
use Rattle.note_text.specs.Texts.{Begins, code_word, error_text, moment_text, output_text, scope_text, spot_text, synopsis_text, values_text, wrong_text}

-- a text is refused at a span: `NAME:LINE:COLUMN: error CODE`, where the span begins, or at the text's end where it begins behind that
pub record TellsPlace (name source code : List ℕ) (span : Span) (old new : List ℕ) : Type 0 where
  pub at : ℕ
  pub within : at ≤ length source
  pub is_at : span.from ≤ length source → at ≡ span.from
  pub start : ℕ
  pub is_start : IsLineStart source at start
  pub begins : Begins (name ++ spot_text (1 + count_by is_newline (take at source)) (at - start + 1) ++ error_text code) old new

-- it is refused at a span, or as a whole
abbrev pub TellsRefused : List ℕ → List ℕ → List ℕ → Option Span → List ℕ → List ℕ → Type 0
TellsRefused name source code (Some span) old new = TellsPlace name source code span old new
TellsRefused name source code None old new = Begins name old new

-- the arguments are refused: `localise: WORD`, or no word where none is known to be wrong; last how the command is called
pub record TellsUsage (word synopsis old new : List ℕ) : Type 0 where
  pub said : List ℕ
  pub begins : Begins (codes "localise" ++ wrong_text word) old said
  pub ends : new ≡ said ++ synopsis_text synopsis

abbrev pub Tells : Note → List ℕ → List ℕ → Type 0
Tells (Usage cause word synopsis) old new = TellsUsage word.now synopsis.now old new
Tells (Refused name text refusal) old new =
    TellsRefused name.now text.now (code_word refusal.now.code) (code_span refusal.now.code) old new
Tells (Limited refusal) old new = Begins (codes "error " ++ code_word refusal.now.code) old new
Tells (Unread name cause) old new = Begins (codes "cannot read " ++ name.now) old new
Tells (Unwritten name cause) old new = Begins (codes "cannot write ") old new
Tells (Missed trace cycle output wanted given) old new =
    new ≡ old ++ moment_text trace cycle ++ output_text output.now
    ++ values_text (width_of given) (value_of given) (width_of wanted) (value_of wanted)
Tells (Scope trace path) old new = new ≡ old ++ scope_text trace path.now
Tells (Progress size sets steps budget) old new = new ≡ old
Tells Printing old new = new ≡ old
Tells (Written name) old new = new ≡ old

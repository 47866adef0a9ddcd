-- A text of lines is read line by line.
use Rattle.std.proofs.Common.{ℕ, ◌+◌, List, [], ◌∷◌, ◌++◌, length, Ok, sym, subst}
use Rattle.vcd_words.specs.Words.{Placed, words_at}
use Rattle.vcd_words.specs.Lines.{line_text, text_of}
use Rattle.vcd_words.proofs.LineLaws.{stands}
use Rattle.vcd_reading.specs.Scopes.{Sought}
use Rattle.vcd_reading.specs.Changes.{Past}
use Rattle.vcd_reading.specs.Reading.{Reads}
use Rattle.vcd_reading.specs.Reading.Reads.{at_end, one_piece}
use Rattle.vcd_waves.specs.Runs.{Runs}
use Rattle.vcd_waves.specs.Runs.Runs.{no_line, one_line}

abbrev Line : Type 0
Line = List (List ℕ)

pub text_reads : (sought : Sought) (end : ℕ) (past : Past) (lines : List Line) (last : Past)
    → Runs sought end past lines last
    → (at : ℕ) → Reads sought end past (words_at at (text_of lines)) (Ok last)
text_reads sought end past [] last no_line at = at_end
text_reads sought end past ([] ∷ lines) last runs at = elim runs [ ]
text_reads sought end past ((word ∷ words) ∷ lines) last (one_line {next = next} black deed runs) at =
    let P : List Placed → Type 0 = λ placed. Reads sought end past placed (Ok last) in
    subst P (sym (stands at (word ∷ words) (text_of lines) black))
    (one_piece (deed at (words_at (at + length (line_text (word ∷ words))) (text_of lines)))
    (text_reads sought end next lines last runs (at + length (line_text (word ∷ words)))))

pub runs_join : (sought : Sought) (end : ℕ) (past : Past) (lines others : List Line) (mid last : Past)
    → Runs sought end past lines mid
    → Runs sought end mid others last → Runs sought end past (lines ++ others) last
runs_join sought end past [] others mid last no_line second = second
runs_join sought end past ([] ∷ lines) others mid last runs second = elim runs [ ]
runs_join sought end past ((word ∷ words) ∷ lines) others mid last (one_line {next = next} black deed runs) second =
    one_line black deed (runs_join sought end next lines others mid last runs second)

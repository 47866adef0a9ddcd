-- Texts of lines: words with a blank between each two, and a newline behind the last.
use Rattle.std.specs.Prelude.{ℕ, ◌≡◌, ◌≢◌, ◌+◌, Bool, not, IsTrue, List, [], ◌∷◌, ◌++◌, length}
use Rattle.std.specs.List.{list_all, flat_map}
use Rattle.loc_base.specs.Ascii.{is_white}
use Rattle.vcd_words.specs.Words.{Placed, words_at}

abbrev pub line_text : List (List ℕ) → List ℕ
line_text [] = 10 ∷ []
line_text (word ∷ []) = word ++ 10 ∷ []
line_text (word ∷ next ∷ words) = word ++ 32 ∷ line_text (next ∷ words)

abbrev pub text_of : List (List (List ℕ)) → List ℕ
text_of lines = flat_map line_text lines

-- the words of a line that stands from an offset on
abbrev pub line_words : ℕ → List (List ℕ) → List Placed
line_words at [] = []
line_words at (word ∷ words) = (record { at = at; word = word }) ∷ line_words (at + length word + 1) words

-- words that have bytes, none of them white space
abbrev pub is_black : ℕ → Bool
is_black byte = not (is_white byte)

pub data AreBlack : List (List ℕ) → Type 0 where
  no_word : AreBlack []
  one_more : {word : List ℕ} {words : List (List ℕ)} → word ≢ [] → IsTrue (list_all is_black word) → AreBlack words → AreBlack (word ∷ words)

-- the words of a text of lines are those of its first line, and then those of the others
abbrev pub LineStands : Type 0
LineStands =
    (at : ℕ) (line : List (List ℕ)) (text : List ℕ) → AreBlack line
    → words_at at (line_text line ++ text) ≡ line_words at line ++ words_at (at + length (line_text line)) text

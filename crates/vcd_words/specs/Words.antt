-- The words of a text and the places where they stand (IEEE 1364-2005, 3.2 and 18.2).
use Rattle.std.specs.Prelude.{ℕ, ◌≡◌, ◌≢◌, ◌+◌, ◌-◌, Bool, true, not, ◌||◌, ◌==◌, if◌then◌else◌, IsTrue, List, [], ◌∷◌, ◌++◌, length, take, drop, slice_get}
use Rattle.std.specs.List.{list_all}
use Rattle.std.specs.Option.{option_map_or}
use Rattle.loc_base.specs.Ascii.{is_white}

-- a word, and the offset of its first byte in the text
pub record Placed : Type 0 where
  pub at : ℕ
  pub word : List ℕ

-- the bytes of a word before other words, where there are any
abbrev pub ended : ℕ → List ℕ → List Placed → List Placed
ended at [] words = words
ended at (byte ∷ word) words = (record { at = at; word = byte ∷ word }) ∷ words

-- the words of a text behind the first bytes of a word, which stand from an offset on
abbrev pub words_from : ℕ → List ℕ → List ℕ → List Placed
words_from at word [] = ended at word []
words_from at word (byte ∷ text) =
    if is_white byte then ended at word (words_from (at + length word + 1) [] text) else words_from at (word ++ byte ∷ []) text

-- the words of a text that stands from an offset on, from the left
abbrev pub words_at : ℕ → List ℕ → List Placed
words_at at text = words_from at [] text

-- the words of a text from an offset on
abbrev pub words_left : List ℕ → ℕ → List Placed
words_left text from = words_at from (drop from text)

-- the word between two offsets of a text
abbrev pub placed : List ℕ → ℕ → ℕ → Placed
placed text start stop = record { at = start; word = take (stop - start) (drop start text) }

-- the next word of a text that stands from an offset on, and what stands behind it: the first bytes that are no white
-- space, as many as there are
pub record IsNextWord (at : ℕ) (text : List ℕ) (next : Placed) (behind : List ℕ) : Type 0 where
  pub before : List ℕ
  pub cut : text ≡ before ++ next.word ++ behind
  pub place : next.at ≡ at + length before
  pub white : IsTrue (list_all is_white before)
  pub some : next.word ≢ []
  pub black : IsTrue (list_all (λ byte. not (is_white byte)) next.word)
  pub longest : IsTrue (option_map_or is_white (slice_get behind 0) true)

-- the words of a text that stands from an offset on, each behind the one before it
abbrev pub AreWords : ℕ → List Placed → List ℕ → Type 0
AreWords at [] text = IsTrue (list_all is_white text)
AreWords at (next ∷ words) text =
    (behind : List ℕ) × IsNextWord at text next behind × AreWords (next.at + length next.word) words behind

-- `words_at` gives these words, and no others are a text's
pub record WordsStand : Type 0 where
  pub are : (at : ℕ) (text : List ℕ) → AreWords at (words_at at text) text
  pub only : (at : ℕ) (words : List Placed) (text : List ℕ) → AreWords at words text → words ≡ words_at at text

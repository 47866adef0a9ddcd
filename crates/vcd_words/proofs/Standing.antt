-- The words of a text stand in it, and no others do.
use Rattle.std.proofs.Common.{◌≡◌, ◌≢◌, ℕ, ◌+◌, Bool, true, false, not, List, [], ◌∷◌, ◌++◌, length, refl, sym, ◌∙◌, ap, subst, inl, inr, append_assoc, add-zero, arith}
use Rattle.std.specs.Prelude.{slice_get}
use Rattle.std.specs.List.{list_all}
use Rattle.std.specs.Option.{option_map_or}
use Rattle.std.proofs.lemmas.Bool.{cases_Bool, cond-true, cond-false, and_from, and_parts}
use Rattle.std.proofs.lemmas.List.{append-nil}
use Rattle.std.proofs.lemmas.List.Folds.{list_all-append}
use Rattle.loc_base.specs.Ascii.{is_white}
use Rattle.loc_base.proofs.ShelfBools.{not-true}
use Rattle.vcd_words.specs.Words.{Placed, ended, words_from, words_at, IsNextWord, AreWords, WordsStand}
use Rattle.vcd_words.proofs.WordSteps.{white_byte, one_ended}

abbrev is_black : ℕ → Bool
is_black byte = not (is_white byte)

-- white space before a text moves its words
white_front : (at : ℕ) (before text : List ℕ) → list_all is_white before ≡ true → words_at at (before ++ text) ≡ words_at (at + length before) text
white_front at [] text white = ap (λ n. words_at n text) (sym (add-zero at))
white_front at (byte ∷ before) text white =
    let tests = and_parts (is_white byte) (list_all is_white before) white in
    white_byte at byte (before ++ text) tests.0 ∙ white_front (at + 1) before text tests.1
    ∙ ap (λ n. words_at n text) (omega arith)

-- bytes that go on with a word
pub black_front : (at : ℕ) (word bytes text : List ℕ) → list_all is_black bytes ≡ true → words_from at word (bytes ++ text) ≡ words_from at (word ++ bytes) text
black_front at word [] text black = ap (λ w. words_from at w text) (sym (append-nil word))
black_front at word (byte ∷ bytes) text black =
    let tests = and_parts (is_black byte) (list_all is_black bytes) black in
    cond-false _ _ _ (not-true (is_white byte) tests.0) ∙ black_front at (word ++ byte ∷ []) bytes text tests.1
    ∙ ap (λ w. words_from at w text) (append_assoc word (byte ∷ []) bytes)

-- a word ends
pub word_end : (at : ℕ) (word text : List ℕ) → word ≢ [] → option_map_or is_white (slice_get text 0) true ≡ true
    → words_from at word text ≡ (record { at = at; word = word }) ∷ words_at (at + length word) text
word_end at word [] some white = one_ended at word [] some
word_end at word (byte ∷ text) some white =
    cond-true _ _ _ white ∙ one_ended at word (words_at (at + length word + 1) text) some
    ∙ ap (λ words. (record { at = at; word = word }) ∷ words) (sym (white_byte (at + length word) byte text white))

-- the first word of a text
pub next_word : (at : ℕ) (text : List ℕ) (next : Placed) (behind : List ℕ) → IsNextWord at text next behind
    → words_at at text ≡ next ∷ words_at (next.at + length next.word) behind
next_word at text next behind is =
    ap (words_at at) (is.cut ∙ append_assoc is.before next.word behind) ∙ white_front at is.before (next.word ++ behind) is.white
    ∙ ap (λ n. words_at n (next.word ++ behind)) (sym is.place)
    ∙ black_front next.at [] next.word behind is.black ∙ word_end next.at next.word behind is.some is.longest

only : (at : ℕ) (words : List Placed) (text : List ℕ) → AreWords at words text → words ≡ words_at at text
only at [] text white = sym (ap (words_at at) (sym (append-nil text)) ∙ white_front at text [] white)
only at (next ∷ words) text (behind, is, rest) =
    sym (next_word at text next behind is ∙ ap (λ l. next ∷ l) (sym (only (next.at + length next.word) words behind rest)))

-- one more byte of white space before words
white_more : (at byte : ℕ) (words : List Placed) (text : List ℕ) → is_white byte ≡ true → AreWords (at + 1) words text → AreWords at words (byte ∷ text)
white_more at byte [] text white are = and_from _ _ white are
white_more at byte (next ∷ words) text white (behind, is, rest) = (
  behind,
  record {
    before = byte ∷ is.before;
    cut = ap (λ l. byte ∷ l) is.cut;
    place = is.place ∙ omega arith;
    white = and_from _ _ white is.white;
    some = is.some;
    black = is.black;
    longest = is.longest;
  },
  rest,
)

-- a word before what stands behind it
one_word : (at : ℕ) (word : List ℕ) (words : List Placed) (behind : List ℕ) → list_all is_black word ≡ true
    → option_map_or is_white (slice_get behind 0) true ≡ true
    → AreWords (at + length word) words behind → AreWords at (ended at word words) (word ++ behind)
one_word at [] words behind black longest are = let P : ℕ → Type 0 = λ n. AreWords n words behind in subst P (add-zero at) are
one_word at (byte ∷ word) words behind black longest are = (
  behind,
  record {
    before = [];
    cut = refl;
    place = sym (add-zero at);
    white = refl;
    some = λ e. cc;
    black = black;
    longest = longest;
  },
  are,
)

are_from : (at : ℕ) (word text : List ℕ) → list_all is_black word ≡ true → AreWords at (words_from at word text) (word ++ text)
are_from at word [] black = one_word at word [] [] black refl refl
are_from at word (byte ∷ text) black =
    elim (cases_Bool (is_white byte)) [
      | inl white ↦
          let P : List Placed → Type 0 = λ l. AreWords at l (word ++ byte ∷ text) in
          subst P (sym (cond-true (is_white byte) (ended at word (words_at (at + length word + 1) text)) (words_from at (word ++ byte ∷ []) text) white))
          (one_word at word (words_at (at + length word + 1) text) (byte ∷ text) black white
          (white_more (at + length word) byte (words_at (at + length word + 1) text) text white (are_from (at + length word + 1) [] text refl)))
      | inr other ↦
          let P : List Placed → Type 0 = λ l. AreWords at l (word ++ byte ∷ text) in
          let Q : List ℕ → Type 0 = AreWords at (words_from at (word ++ byte ∷ []) text) in
          subst P (sym (cond-false (is_white byte) (ended at word (words_at (at + length word + 1) text)) (words_from at (word ++ byte ∷ []) text) other))
          (subst Q (append_assoc word (byte ∷ []) text)
          (are_from at (word ++ byte ∷ []) text
          (list_all-append is_black word (byte ∷ []) ∙ and_from _ _ black (and_from _ _ (ap not other) refl))))
    ]

pub words_stand : WordsStand
words_stand = record { are = λ at text. are_from at [] text refl; only = only }

pub ruleset standing = (words_stand)

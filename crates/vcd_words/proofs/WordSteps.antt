-- The words of a text, byte by byte.
use Rattle.std.proofs.Common.{◌≡◌, ◌≢◌, ℕ, ◌+◌, ◌<◌, true, false, List, [], ◌∷◌, length, get_or, take, drop, refl, sym, ◌∙◌, ap, add-zero, add_assoc}
use Rattle.std.proofs.lemmas.Bool.{cond-true, cond-false}
use Rattle.std.proofs.lemmas.List.{drop_more, take_more}
use Rattle.loc_base.specs.Ascii.{is_white}
use Rattle.vcd_words.specs.Words.{Placed, ended, words_from, words_at}

-- white space before a text moves its words
pub white_byte : (at byte : ℕ) (text : List ℕ) → is_white byte ≡ true → words_at at (byte ∷ text) ≡ words_at (at + 1) text
white_byte at byte text white = cond-true _ _ _ white ∙ ap (λ n. words_at (n + 1) text) (add-zero at)

pub white_step : (at : ℕ) (text : List ℕ) (i : ℕ) → i < length text → is_white (get_or text i 0) ≡ true
    → words_at (at + i) (drop i text) ≡ words_at (at + (i + 1)) (drop (i + 1) text)
white_step at text i within white =
    ap (words_from (at + i) []) (drop_more text i 0 within) ∙ white_byte (at + i) (get_or text i 0) (drop (i + 1) text) white
    ∙ ap (λ n. words_at n (drop (i + 1) text)) (add_assoc at i 1)

-- a word goes on
pub black_step : (at : ℕ) (text : List ℕ) (i : ℕ) → i < length text → is_white (get_or text i 0) ≡ false
    → words_from at (take i text) (drop i text) ≡ words_from at (take (i + 1) text) (drop (i + 1) text)
black_step at text i within black =
    ap (words_from at (take i text)) (drop_more text i 0 within) ∙ cond-false _ _ _ black
    ∙ ap (λ word. words_from at word (drop (i + 1) text)) (sym (take_more text i 0 within))

pub one_ended : (at : ℕ) (word : List ℕ) (words : List Placed) → word ≢ [] → ended at word words ≡ (record { at = at; word = word }) ∷ words
one_ended at [] words some = absurd (some refl)
one_ended at (byte ∷ word) words some = refl

pub ruleset word_steps = (white_step, black_step)

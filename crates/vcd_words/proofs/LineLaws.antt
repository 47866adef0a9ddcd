-- The words of a line stand in it.
use Rattle.std.proofs.Common.{◌≡◌, ◌≢◌, ℕ, ◌+◌, true, List, [], ◌∷◌, ◌++◌, length, refl, ◌∙◌, ap, arith, append_assoc, length-append}
use Rattle.std.specs.List.{list_all}
use Rattle.loc_base.specs.Ascii.{is_white}
use Rattle.vcd_words.specs.Words.{words_at}
use Rattle.vcd_words.specs.Lines.{line_text, line_words, is_black, LineStands}
use Rattle.vcd_words.specs.Lines.AreBlack.{one_more}
use Rattle.vcd_words.proofs.WordSteps.{white_byte}
use Rattle.vcd_words.proofs.Standing.{black_front, word_end}

-- one word and the white space behind it
pub one_word : (at : ℕ) (word : List ℕ) (byte : ℕ) (text : List ℕ) → word ≢ [] → list_all is_black word ≡ true → is_white byte ≡ true
    → words_at at (word ++ byte ∷ text) ≡ (record { at = at; word = word }) ∷ words_at (at + length word + 1) text
one_word at word byte text some black white =
    black_front at [] word (byte ∷ text) black ∙ word_end at word (byte ∷ text) some white
    ∙ ap (λ words. (record { at = at; word = word }) ∷ words) (white_byte (at + length word) byte text white)

pub stands : LineStands
stands at [] text black = white_byte at 10 text refl
stands at (word ∷ []) text (one_more some black rest) =
    ap (words_at at) (append_assoc word (10 ∷ []) text) ∙ one_word at word 10 text some black refl
    ∙ ap (λ n. (record { at = at; word = word }) ∷ words_at n text) (omega (arith, length-append word (10 ∷ [])))
stands at (word ∷ next ∷ words) text (one_more some black rest) =
    ap (words_at at) (append_assoc word (32 ∷ line_text (next ∷ words)) text)
    ∙ one_word at word 32 (line_text (next ∷ words) ++ text) some black refl
    ∙ ap (λ l. (record { at = at; word = word }) ∷ l) (stands (at + length word + 1) (next ∷ words) text rest)
    ∙ ap (λ n. line_words at (word ∷ next ∷ words) ++ words_at n text) (omega (arith, length-append word (32 ∷ line_text (next ∷ words))))

pub ruleset line_laws = (stands)

-- Names up to a bracket, and sections up to their `$end`, step by step.
use Rattle.std.proofs.Common.{◌≡◌, ℕ, ◌+◌, ◌<◌, ◌==◌, true, false, List, [], ◌∷◌, ◌++◌, length, get_or, take, drop, refl, sym, ◌∙◌, ap, append_assoc, arith, Some, None}
use Rattle.std.proofs.lemmas.Bool.{cond-true, cond-false}
use Rattle.std.proofs.lemmas.List.{drop_more, take_more, drop_all, take_all, append-nil}
use Rattle.vcd_words.specs.Words.{Placed}
use Rattle.vcd_reading.specs.Commands.{is_end}
use Rattle.vcd_reading.specs.Header.{up_to_bracket}
use Rattle.vcd_reading.specs.Pieces.{behind_end}

-- a byte that is no bracket goes on with the name
pub bracket_later : (word : List ℕ) (i : ℕ) → i < length word → (get_or word i 0 == 91) ≡ false
    → take (i + 1) word ++ up_to_bracket (drop (i + 1) word) ≡ take i word ++ up_to_bracket (drop i word)
bracket_later word i within other =
    ap (λ l. l ++ up_to_bracket (drop (i + 1) word)) (take_more word i 0 within)
    ∙ append_assoc (take i word) (get_or word i 0 ∷ []) (up_to_bracket (drop (i + 1) word))
    ∙ ap (λ l. take i word ++ l) (sym (ap up_to_bracket (drop_more word i 0 within) ∙ cond-false _ _ _ other))

-- a bracket ends it
pub bracket_here : (word : List ℕ) (i : ℕ) → i < length word → (get_or word i 0 == 91) ≡ true
    → take i word ++ up_to_bracket (drop i word) ≡ take i word
bracket_here word i within bracket =
    ap (λ l. take i word ++ l) (ap up_to_bracket (drop_more word i 0 within) ∙ cond-true _ _ _ bracket) ∙ append-nil (take i word)

-- and so does the end of the word
pub bracket_none : (word : List ℕ) → take (length word) word ++ up_to_bracket (drop (length word) word) ≡ word
bracket_none word =
    ap (λ l. take (length word) word ++ up_to_bracket l) (drop_all (length word) word (omega arith))
    ∙ append-nil (take (length word) word) ∙ take_all (length word) word (omega arith)

pub ruleset bracket_steps = (bracket_later, bracket_here, bracket_none)

-- the first of words is `$end`
pub end_here : (word : Placed) (words : List Placed) → is_end word.word ≡ true → behind_end (word ∷ words) ≡ Some words
unfolding behind_end
end_here word words ends = cond-true _ _ _ ends

-- or it stands among those behind it
pub end_later : (word : Placed) (words : List Placed) → is_end word.word ≡ false → behind_end (word ∷ words) ≡ behind_end words
unfolding behind_end
end_later word words other = cond-false _ _ _ other

pub end_nowhere : behind_end [] ≡ None
unfolding behind_end
end_nowhere = refl

pub ruleset end_steps = (end_here, end_later, end_nowhere)

-- The number that decimal digits say, digit by digit.
use Rattle.std.proofs.Common.{◌≡◌, ℕ, ◌+◌, ◌*◌, ◌-◌, ◌<◌, ◌≤◌, ◌==◌, false, List, [], ◌∷◌, length, get_or, take, drop, sym, ◌∙◌, ap, arith}
use Rattle.std.specs.List.{fold}
use Rattle.std.proofs.lemmas.List.{take-append-drop}
use Rattle.std.proofs.lemmas.List.Sums.{fold-append, fold_more}
use Rattle.loc_base.proofs.ShelfBools.{equal-false}
use Rattle.vcd_words.specs.Times.{time_of}

abbrev more : ℕ → ℕ → ℕ
more said digit = said * 10 + (digit - 48)

grows : (said : ℕ) (digits : List ℕ) → said ≤ fold more said digits
grows said [] = omega arith
grows said (digit ∷ digits) = let rest = grows (more said digit) digits in omega (arith, rest)

front_less : (digits : List ℕ) (i : ℕ) → time_of (take i digits) ≤ time_of digits
front_less digits i =
    let rest = grows (time_of (take i digits)) (drop i digits) in
    let whole : time_of digits ≡ fold more (time_of (take i digits)) (drop i digits) =
    ap time_of (sym (take-append-drop i digits)) ∙ fold-append more 0 (take i digits) (drop i digits) in
    omega (arith, rest, whole)

-- once the front says more than a number, the whole does
pub said_over : (digits : List ℕ) (i number : ℕ) → number < time_of (take i digits) → false ≡ (time_of digits == number)
said_over digits i number over =
    let front = front_less digits i in
    sym (equal-false (time_of digits) number (λ same. omega (arith, over, front, same)))

pub said_next : (digits : List ℕ) (i d said number : ℕ) → i < length digits → said ≡ time_of (take i digits)
    → number < said * 10 + (get_or digits i d - 48) → false ≡ (time_of digits == number)
said_next digits i d said number within is over =
    let step : time_of (take (i + 1) digits) ≡ time_of (take i digits) * 10 + (get_or digits i d - 48) = fold_more more 0 digits i d within in
    said_over digits (i + 1) number (omega (arith, step, is, over))

pub ruleset size_steps = (fold_more, said_over)

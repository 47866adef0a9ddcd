-- Lists that are made number by number.
use Rattle.std.proofs.Common.{◌≡◌, ℕ, zero, suc, ◌+◌, ◌-◌, ◌≤◌, List, [], ◌∷◌, ◌++◌, map, sym, ◌∙◌, ap, arith, add-zero}
use Rattle.std.specs.List.{range_with_len}
use Rattle.std.proofs.lemmas.List.{append-nil}

-- one number more
range-more : (a n : ℕ) → range_with_len a (n + 1) ≡ range_with_len a n ++ (a + n) ∷ []
range-more a zero = ap (λ k. k ∷ []) (sym (add-zero a))
range-more a (suc n) = more (range-more (a + 1) n)
  where
    more : range_with_len (a + 1) (n + 1) ≡ range_with_len (a + 1) n ++ (a + 1 + n) ∷ [] → range_with_len a (suc n + 1) ≡ (a ∷ range_with_len (a + 1) n) ++ (a + suc n) ∷ []
    more is =
        let here : a + 1 + n ≡ a + suc n = omega arith in
        let next : suc n + 1 ≡ suc (n + 1) = omega arith in
        ap (range_with_len a) next ∙ ap (λ ks. a ∷ ks) is ∙ ap (λ k. (a ∷ range_with_len (a + 1) n) ++ k ∷ []) here

-- the numbers up to one more
pub number-more : (from number : ℕ) (old new : List ℕ) → from ≤ number → old ≡ range_with_len from (number - from) → new ≡ old ++ number ∷ []
    → new ≡ range_with_len from (number + 1 - from)
number-more from number old new above is pushed =
    let last : from + (number - from) ≡ number = omega arith in
    let long : number - from + 1 ≡ number + 1 - from = omega arith in
    pushed ∙ ap (λ ks. ks ++ number ∷ []) is ∙ ap (λ k. range_with_len from (number - from) ++ k ∷ []) (sym last) ∙ sym (range-more from (number - from))
    ∙ ap (range_with_len from) long

-- none yet
pub number-none : (from : ℕ) → [] ≡ range_with_len from (from - from)
number-none from = let none : zero ≡ from - from = omega arith in ap (range_with_len from) none

-- nothing was made yet
pub made-none : {X : Type 0} (f : ℕ → X) (from row : ℕ) (first : List X) → row ≡ from → first ≡ first ++ map f (range_with_len from (row - from))
made-none f from row first is =
    let none : row - from ≡ zero = omega arith in
    sym (ap (λ n. first ++ map f (range_with_len from n)) none ∙ append-nil first)

-- all was made
pub made-all : {X : Type 0} (f : ℕ → X) (from row count : ℕ) (first made : List X) → row ≡ from + count → made ≡ first ++ map f (range_with_len from (row - from))
    → made ≡ first ++ map f (range_with_len from count)
made-all f from row count first made is far =
    let all : row - from ≡ count = omega arith in
    far ∙ ap (λ n. first ++ map f (range_with_len from n)) all

pub ruleset range_steps = (made-none)

pub ruleset number_steps = (number-none)

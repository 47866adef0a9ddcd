-- Steps of loops over lists.
use Rattle.std.proofs.Common.{◌≡◌, ◌≢◌, ℕ, zero, suc, ◌+◌, ◌<◌, Bool, true, false, List, [], ◌∷◌, length, get_or, take, refl, sym, ◌∙◌, ap, inl, inr, arith, Some, None}
use Rattle.std.specs.Prelude.{slice_get, slice_set}
use Rattle.std.specs.List.{list_all, find}
use Rattle.std.proofs.lemmas.Bool.{cases_Bool, cond-true, cond-false, and_parts}
use Rattle.std.proofs.lemmas.List.{map_more, take_more, take_all, map_push}
use Rattle.loc_base.proofs.ShelfBools.{suc-add_one}

-- an element of a list that passes throughout
pub all_at : {X : Type 0} (p : X → Bool) (xs : List X) (i : ℕ) (d : X) → i < length xs → list_all p xs ≡ true → p (get_or xs i d) ≡ true
all_at p [] i d within all = absurd (omega (arith, within))
all_at p (x ∷ xs) zero d within all = (and_parts (p x) (list_all p xs) all).0
all_at p (x ∷ xs) (suc i) d within all = all_at p xs i d (omega (arith, within)) (and_parts (p x) (list_all p xs) all).1

-- the first that passes stands behind those that don't
pub find_here : {X : Type 0} (p : X → Bool) (xs : List X) (i : ℕ) (d : X) → i < length xs → find p (take i xs) ≡ None
    → p (get_or xs i d) ≡ true → find p xs ≡ Some (get_or xs i d)
find_here p [] i d within none passes = absurd (omega (arith, within))
find_here p (x ∷ xs) zero d within none passes = cond-true _ _ _ passes
find_here p (x ∷ xs) (suc i) d within none passes =
    elim (cases_Bool (p x)) [
      | inl here ↦ let e = cond-true (p x) (Some x) (find p (take i xs)) here in cc
      | inr away ↦
          let rest : find p (take i xs) ≡ None = sym (cond-false _ _ _ away) ∙ none in
          cond-false _ _ _ away ∙ find_here p xs i d (omega (arith, within)) rest passes
    ]

-- one more that doesn't
pub find_more : {X : Type 0} (p : X → Bool) (xs : List X) (i : ℕ) (d : X) → i < length xs → find p (take i xs) ≡ None
    → p (get_or xs i d) ≡ false → find p (take (i + 1) xs) ≡ None
find_more p [] i d within none fails = absurd (omega (arith, within))
find_more p (x ∷ xs) zero d within none fails = cond-false _ _ _ fails
find_more p (x ∷ xs) (suc i) d within none fails =
    elim (cases_Bool (p x)) [
      | inl here ↦ let e = cond-true (p x) (Some x) (find p (take i xs)) here in cc
      | inr away ↦
          let rest : find p (take i xs) ≡ None = sym (cond-false _ _ _ away) ∙ none in
          ap (λ n. find p (take n (x ∷ xs))) (sym (suc-add_one i)) ∙ cond-false _ _ _ away
          ∙ find_more p xs i d (omega (arith, within)) rest fails
    ]

pub find_all : {X : Type 0} (p : X → Bool) (xs : List X) → find p (take (length xs) xs) ≡ None → find p xs ≡ None
find_all p xs none = ap (find p) (sym (take_all (length xs) xs (omega arith))) ∙ none

pub ruleset list_steps = (all_at, find_here, find_more, find_all, map_more, map_push)

-- what stands at a place after a write there, and at another
pub get_set_same : {X : Type 0} (xs : List X) (i : ℕ) (y : X) → i < length xs → slice_get (slice_set xs i y) i ≡ Some y
get_set_same [] i y within = absurd (omega (arith, within))
get_set_same (x ∷ xs) zero y within = refl
get_set_same (x ∷ xs) (suc i) y within = get_set_same xs i y (omega (arith, within))

pub get_set_other : {X : Type 0} (xs : List X) (i j : ℕ) (y : X) → j ≢ i → slice_get (slice_set xs i y) j ≡ slice_get xs j
get_set_other [] i j y apart = refl
get_set_other (x ∷ xs) zero zero y apart = absurd (apart refl)
get_set_other (x ∷ xs) zero (suc j) y apart = refl
get_set_other (x ∷ xs) (suc i) zero y apart = refl
get_set_other (x ∷ xs) (suc i) (suc j) y apart = get_set_other xs i j y (λ e. apart (ap suc e))

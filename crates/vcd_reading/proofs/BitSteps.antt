-- The place of the last element that passes a test, step by step.
use Rattle.std.proofs.Common.{◌≡◌, ℕ, suc, ◌+◌, ◌<◌, ◌≤◌, Bool, true, false, if◌then◌else◌, List, [], ◌∷◌, ◌++◌, length, get_or, take, refl, sym, ◌∙◌, ap, inl, inr, arith, Option, Some, None}
use Rattle.std.specs.Option.{option_map, option_or}
use Rattle.std.proofs.lemmas.Bool.{cases_Bool, cond-true, cond-false}
use Rattle.std.proofs.lemmas.List.{take_more, take_all, length-take-le}
use Rattle.vcd_reading.specs.Bits.{last_place}

-- one more element that passes, and one that doesn't
place_more : {X : Type 0} (test : X → Bool) (xs : List X) (y : X) → test y ≡ true → last_place test (xs ++ y ∷ []) ≡ Some (length xs)
place_more test [] y passes = cond-true _ _ _ passes
place_more test (x ∷ xs) y passes =
    ap (λ o. option_or (option_map suc o) (if test x then Some 0 else None)) (place_more test xs y passes)

place_same : {X : Type 0} (test : X → Bool) (xs : List X) (y : X) → test y ≡ false → last_place test (xs ++ y ∷ []) ≡ last_place test xs
place_same test [] y fails = cond-false _ _ _ fails
place_same test (x ∷ xs) y fails =
    ap (λ o. option_or (option_map suc o) (if test x then Some 0 else None)) (place_same test xs y fails)

pub last_here : {X : Type 0} (test : X → Bool) (xs : List X) (i : ℕ) (d : X) → i < length xs → test (get_or xs i d) ≡ true
    → last_place test (take (i + 1) xs) ≡ Some i
last_here test xs i d within passes =
    ap (last_place test) (take_more xs i d within) ∙ place_more test (take i xs) (get_or xs i d) passes
    ∙ ap Some (length-take-le i xs (omega (arith, within)))

pub last_before : {X : Type 0} (test : X → Bool) (xs : List X) (i : ℕ) (d : X) → i < length xs → test (get_or xs i d) ≡ false
    → last_place test (take (i + 1) xs) ≡ last_place test (take i xs)
last_before test xs i d within fails =
    ap (last_place test) (take_more xs i d within) ∙ place_same test (take i xs) (get_or xs i d) fails

pub last_all : {X : Type 0} (test : X → Bool) (xs : List X) → last_place test (take (length xs) xs) ≡ last_place test xs
last_all test xs = ap (last_place test) (take_all (length xs) xs (omega arith))

pub ruleset bit_steps = (last_here, last_before, last_all)

-- A part of the terminals is the part of their trees.
use Rattle.std.proofs.Common.{◌≡◌, ◌-◌, Bool, true, false, List, [], ◌∷◌, map, length, refl, ap, sym, ◌∙◌, arith}
use Rattle.std.specs.Prelude.{if◌then◌else◌, take, drop, min}
use Rattle.std.proofs.lemmas.List.{length-map, take-map, drop-map}

take-first : {A : Type 0} (xs : List A) → take (min 1 (length xs)) xs ≡ take 1 xs
take-first [] = refl
take-first (x ∷ xs) = let e : min 1 (length (x ∷ xs)) ≡ 1 = omega arith in ap (λ n. take n (x ∷ xs)) e

drop-first : {A : Type 0} (xs : List A) → drop (min 1 (length xs)) xs ≡ drop 1 xs
drop-first [] = refl
drop-first (x ∷ xs) = let e : min 1 (length (x ∷ xs)) ≡ 1 = omega arith in ap (λ n. drop n (x ∷ xs)) e

pub outputs-taken : {A B : Type 0} (f : A → B) (last : Bool) (xs : List A)
    → map f (take (if last then length xs - 1 else min 1 (length xs)) xs) ≡ (if last then take (length (map f xs) - 1) (map f xs) else take 1 (map f xs))
outputs-taken f true xs = sym (take-map f (length xs - 1) xs) ∙ ap (λ n. take (n - 1) (map f xs)) (sym (length-map xs f))
outputs-taken f false xs = ap (map f) (take-first xs) ∙ sym (take-map f 1 xs)

pub inputs-dropped : {A B : Type 0} (f : A → B) (last : Bool) (xs : List A)
    → map f (drop (if last then length xs - 1 else min 1 (length xs)) xs) ≡ (if last then drop (length (map f xs) - 1) (map f xs) else drop 1 (map f xs))
inputs-dropped f true xs = sym (drop-map f (length xs - 1) xs) ∙ ap (λ n. drop (n - 1) (map f xs)) (sym (length-map xs f))
inputs-dropped f false xs = ap (map f) (drop-first xs) ∙ sym (drop-map f 1 xs)

pub ruleset terminal_steps = (outputs-taken, inputs-dropped)

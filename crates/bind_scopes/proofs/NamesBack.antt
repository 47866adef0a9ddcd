-- A list from its end on.
use Rattle.std.proofs.Common.{◌≡◌, ℕ, suc, ◌-◌, ◌<◌, ◌≤◌, List, [], ◌∷◌, map, length, get_or, drop, drop-cons, sym, ap, ◌∙◌, arith}
use Rattle.std.proofs.lemmas.List.{drop_all}

pub names_none : {X Y : Type 0} (f : X → Y) (xs : List X) → [] ≡ map f (drop (length xs - 0) xs)
names_none f xs = sym (ap (map f) (drop_all (length xs - 0) xs (omega arith)))

drop-before : {X : Type 0} (xs : List X) (j k : ℕ) (x : X) → j < length xs → suc j ≡ k → x ≡ get_or xs j x → x ∷ drop k xs ≡ drop j xs
drop-before xs j k x within next is = ap (λ n. x ∷ drop n xs) (sym next) ∙ ap (λ y. y ∷ drop (suc j) xs) is ∙ sym (drop-cons xs j x within)

pub names_one : {X Y : Type 0} (f : X → Y) (xs : List X) (back j : ℕ) (x : X) → back < length xs → j ≡ length xs - 1 - back → x ≡ get_or xs j x
    → f x ∷ map f (drop (length xs - back) xs) ≡ map f (drop (length xs - suc back) xs)
names_one f xs back j x within at is =
    ap (map f) (drop-before xs j (length xs - back) x (omega arith) (omega arith) is) ∙ ap (λ n. map f (drop n xs)) same
  where
    same : j ≡ length xs - suc back
    same = omega arith

pub names_all : {X Y : Type 0} (f : X → Y) (xs : List X) (back : ℕ) → length xs ≤ back → map f (drop (length xs - back) xs) ≡ map f xs
names_all f xs back all = ap (λ n. map f (drop n xs)) none
  where
    none : length xs - back ≡ 0
    none = omega arith

pub ruleset names_back = (names_none, names_one, names_all)

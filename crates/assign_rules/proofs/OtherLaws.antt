-- A list without one of its elements, and tests of its elements.
use Rattle.std.proofs.Common.{ℕ, zero, suc, ◌≡◌, ◌<◌, ◌≤◌, ◌+◌, List, [], ◌∷◌, ◌++◌, length, get_or, take, drop, Bool, true, false, refl, sym, ◌∙◌, ap, ap₂, arith, add-one, ◌⊎◌, inl, inr}
use Rattle.std.specs.Prelude.{◌==◌, ◌&&◌, ◌||◌, not}
use Rattle.std.specs.List.{list_any}
use Rattle.std.proofs.lemmas.Bool.{cases_eq, eq-eqb}
use Rattle.std.proofs.lemmas.List.Folds.{list_any-append}
use Rattle.loc_base.proofs.ShelfBools.{or-false, or-true, or-assoc, equal-false}
use Rattle.loc_base.proofs.ShelfLists.{take-at}
use Rattle.design_rules.specs.Races.{others}

-- one element more
pub any-more : {X : Type 0} (test : X → Bool) (xs : List X) (i : ℕ) (x : X) → i < length xs → x ≡ get_or xs i x
    → list_any test (take (i + 1) xs) ≡ (list_any test (take i xs) || test x)
any-more test xs i x below is =
    ap (list_any test) (take-at xs i x below is) ∙ list_any-append test (take i xs) (x ∷ []) ∙ ap (λ b. list_any test (take i xs) || b) (or-false (test x))

-- ---- a list without the element at a place
abbrev without : {X : Type 0} → ℕ → List X → List X
without k [] = []
without zero (x ∷ xs) = xs
without (suc k) (x ∷ xs) = x ∷ without k xs

take-none : {X : Type 0} (k : ℕ) → ◌≡◌ {A = List X} (take k []) []
take-none zero = refl
take-none (suc k) = refl

drop-none : {X : Type 0} (k : ℕ) → ◌≡◌ {A = List X} (drop k []) []
drop-none zero = refl
drop-none (suc k) = refl

others-without : {X : Type 0} (k : ℕ) (xs : List X) → others k xs ≡ without k xs
others-without k [] = ap₂ (λ a b. a ++ b) (take-none k) (drop-none (k + 1))
others-without zero (x ∷ xs) = refl
others-without (suc k) (x ∷ xs) =
    ap (λ n. x ∷ (take k xs ++ drop n (x ∷ xs))) (add-one (suc k)) ∙ ap (λ n. x ∷ (take k xs ++ drop n xs)) (sym (add-one k)) ∙ ap (λ ys. x ∷ ys) (others-without k xs)

same-next : (m n : ℕ) → (suc m == suc n) ≡ (m == n)
same-next m n = at (cases_eq m n)
  where
    at : (m ≡ n) ⊎ (m ≡ n → ⊥) → (suc m == suc n) ≡ (m == n)
    at (inl same) = eq-eqb (suc m) (suc n) (ap suc same) ∙ sym (eq-eqb m n same)
    at (inr apart) = equal-false (suc m) (suc n) (λ same. apart (omega (arith, same))) ∙ sym (equal-false m n apart)

without-more : {X : Type 0} (test : X → Bool) (k : ℕ) (ys : List X) (x : X)
    → list_any test (without k (ys ++ x ∷ [])) ≡ (list_any test (without k ys) || (not (length ys == k) && test x))
without-more test zero [] x = refl
without-more test (suc k) [] x = or-false (test x) ∙ ap (λ b. not b && test x) (sym (equal-false zero (suc k) (λ same. absurd (omega (arith, same)))))
without-more test zero (y ∷ ys) x =
    list_any-append test ys (x ∷ []) ∙ ap (λ b. list_any test ys || b) (or-false (test x))
    ∙ ap (λ b. list_any test ys || (not b && test x)) (sym (equal-false (suc (length ys)) zero (λ same. absurd (omega (arith, same)))))
without-more test (suc k) (y ∷ ys) x =
    ap (λ b. test y || b) (without-more test k ys x) ∙ sym (or-assoc (test y) (list_any test (without k ys)) (not (length ys == k) && test x))
    ∙ ap (λ b. (test y || list_any test (without k ys)) || (not b && test x)) (sym (same-next (length ys) k))

length-take : {X : Type 0} (i : ℕ) (xs : List X) → i < length xs → length (take i xs) ≡ i
length-take i [] below = absurd (omega (arith, below))
length-take zero (x ∷ xs) below = refl
length-take (suc i) (x ∷ xs) below = ap suc (length-take i xs (omega (arith, below)))

-- of the first elements, one more
pub others-more : {X : Type 0} (test : X → Bool) (k : ℕ) (xs : List X) (i : ℕ) (x : X) → i < length xs → x ≡ get_or xs i x
    → list_any test (others k (take (i + 1) xs)) ≡ (list_any test (others k (take i xs)) || (not (i == k) && test x))
others-more test k xs i x below is =
    ap (λ ys. list_any test (others k ys)) (take-at xs i x below is) ∙ ap (list_any test) (others-without k (take i xs ++ x ∷ []))
    ∙ without-more test k (take i xs) x
    ∙ ap₂ (λ ys n. list_any test ys || (not (n == k) && test x)) (sym (others-without k (take i xs))) (length-take i xs below)

pub others-none : {X : Type 0} (test : X → Bool) (k : ℕ) (xs : List X) → list_any test (others k (take 0 xs)) ≡ false
others-none test k xs = ap (list_any test) (others-without k [])

-- one that passes among the others is one of all
without-some : {X : Type 0} (test : X → Bool) (k : ℕ) (xs : List X) → list_any test (without k xs) ≡ true → list_any test xs ≡ true
without-some test k [] some = some
without-some test zero (x ∷ xs) some = ap (λ b. test x || b) some ∙ or-true (test x)
without-some test (suc k) (x ∷ xs) some = at (test x) some (without-some test k xs)
  where
    at : (b : Bool) → (b || list_any test (without k xs)) ≡ true → (list_any test (without k xs) ≡ true → list_any test xs ≡ true) → (b || list_any test xs) ≡ true
    at true is rest = refl
    at false is rest = rest is

pub others-some : {X : Type 0} (test : X → Bool) (k : ℕ) (xs : List X) → list_any test (others k xs) ≡ true → list_any test xs ≡ true
others-some test k xs some = without-some test k xs (ap (list_any test) (sym (others-without k xs)) ∙ some)

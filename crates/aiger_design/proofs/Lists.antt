-- What holds of lists that are made number by number.
use Rattle.std.proofs.Common.{◌≡◌, ◌≢◌, ℕ, zero, suc, ◌+◌, ◌<◌, ◌≤◌, ◌==◌, Bool, true, false, ◌&&◌, List, [], ◌∷◌, ◌++◌, map, length, Some, if◌then◌else◌, refl, sym, ◌∙◌, ap, ap₂, arith, inl, inr}
use Rattle.std.specs.Prelude.{slice_get, sum_by, AllPairs}
use Rattle.std.specs.List.{range_with_len, list_all}
use Rattle.std.specs.Option.{option_map_or}
use Rattle.std.proofs.lemmas.Bool.{cases_lt, and_parts}
use Rattle.loc_base.proofs.ShelfBools.{equal-true}
use Rattle.aiger_rules.specs.First.{first_at}
use Rattle.std.proofs.lemmas.List.Folds.{list_all-append}
use Rattle.std.proofs.lemmas.List.FromFn.{get_or-range_with_len, length-range_with_len}
use Rattle.std.proofs.lemmas.List.Sums.{sum_by-cons}

-- a test that both of two lists pass
pub all-both : {X : Type 0} (test : X → Bool) (xs ys : List X) → list_all test xs ≡ true → list_all test ys ≡ true → list_all test (xs ++ ys) ≡ true
all-both test xs ys one other = list_all-append test xs ys ∙ ap₂ (λ a b. a && b) one other

-- a test that what is made of each number passes
pub all-made : {X : Type 0} (test : X → Bool) (f : ℕ → X) (a n : ℕ) → ((k : ℕ) → a ≤ k → k < a + n → test (f k) ≡ true)
    → list_all test (map f (range_with_len a n)) ≡ true
all-made test f a zero each = refl
all-made test f a (suc n) each =
    ap₂ (λ one rest. one && rest) (each a (omega arith) (omega arith)) (all-made test f (a + 1) n (λ k from below. each k (omega (arith, from)) (omega (arith, below))))

-- what is made of a number
pub get-made : {X : Type 0} (f : ℕ → X) (a n i : ℕ) → i < n → slice_get (map f (range_with_len a n)) i ≡ Some (f (a + i))
get-made f a zero i within = absurd (omega (arith, within))
get-made f a (suc n) zero within = let here : a ≡ a + zero = omega arith in ap (λ k. Some (f k)) here
get-made f a (suc n) (suc i) within =
    let here : a + 1 + i ≡ a + suc i = omega arith in
    get-made f (a + 1) n i (omega (arith, within)) ∙ ap (λ k. Some (f k)) here

-- an element of the first of two lists, or of the second
pub get-front : {X : Type 0} (xs ys : List X) (i : ℕ) → i < length xs → slice_get (xs ++ ys) i ≡ slice_get xs i
get-front [] ys i within = absurd (omega (arith, within))
get-front (x ∷ xs) ys zero within = refl
get-front (x ∷ xs) ys (suc i) within = get-front xs ys i (omega (arith, within))

pub get-back : {X : Type 0} (xs ys : List X) (i : ℕ) → slice_get (xs ++ ys) (length xs + i) ≡ slice_get ys i
get-back [] ys i = ap (slice_get ys) (omega arith)
get-back (x ∷ xs) ys i =
    let at : length (x ∷ xs) + i ≡ suc (length xs + i) = omega arith in
    ap (slice_get (x ∷ xs ++ ys)) at ∙ get-back xs ys i

-- the number of what passes a test is one for each
pub has-one : {X : Type 0} (size : X → ℕ) (xs : List X) (i : ℕ) → list_all (λ x. size x == 1) xs ≡ true → i < length xs → option_map_or size (slice_get xs i) 0 ≡ 1
has-one size [] i all within = absurd (omega (arith, within))
has-one size (x ∷ xs) zero all within = equal-true (size x) 1 (and_parts (size x == 1) (list_all (λ y. size y == 1) xs) all).0
has-one size (x ∷ xs) (suc i) all within = has-one size xs i (and_parts (size x == 1) (list_all (λ y. size y == 1) xs) all).1 (omega (arith, within))

-- a test that each element passes, the one at a place passes
pub has-test : {X : Type 0} (test : X → Bool) (xs : List X) (i : ℕ) → list_all test xs ≡ true → i < length xs → option_map_or test (slice_get xs i) false ≡ true
has-test test [] i all within = absurd (omega (arith, within))
has-test test (x ∷ xs) zero all within = (and_parts (test x) (list_all test xs) all).0
has-test test (x ∷ xs) (suc i) all within = has-test test xs i (and_parts (test x) (list_all test xs) all).1 (omega (arith, within))

-- a test that each number passes
pub all-range : (test : ℕ → Bool) (a n : ℕ) → ((k : ℕ) → a ≤ k → k < a + n → test k ≡ true) → list_all test (range_with_len a n) ≡ true
all-range test a zero each = refl
all-range test a (suc n) each =
    ap₂ (λ one rest. one && rest) (each a (omega arith) (omega arith)) (all-range test (a + 1) n (λ k from below. each k (omega (arith, from)) (omega (arith, below))))

-- no number counts
pub sum-none : {X : Type 0} (size : X → ℕ) (f : ℕ → X) (a n : ℕ) → ((k : ℕ) → a ≤ k → k < a + n → size (f k) ≡ 0) → sum_by size (map f (range_with_len a n)) ≡ 0
sum-none size f a zero none = refl
sum-none size f a (suc n) none =
    sum_by-cons size (f a) (map f (range_with_len (a + 1) n)) ∙ ap₂ (λ x y. x + y) (none a (omega arith) (omega arith))
    (sum-none size f (a + 1) n (λ k from below. none k (omega (arith, from)) (omega (arith, below))))

-- one number counts
pub sum-one : {X : Type 0} (size : X → ℕ) (f : ℕ → X) (a n j : ℕ) → a ≤ j → j < a + n → size (f j) ≡ 1
    → ((k : ℕ) → a ≤ k → k < a + n → k ≢ j → size (f k) ≡ 0) → sum_by size (map f (range_with_len a n)) ≡ 1
sum-one size f a zero j from below one none = absurd (omega arith)
sum-one size f a (suc n) j from below one none =
    elim (cases_lt a j) [
      | inl later ↦
          sum_by-cons size (f a) (map f (range_with_len (a + 1) n))
          ∙ ap₂ (λ x y. x + y) (none a (omega arith) (omega arith) (λ is. omega (arith, later, is)))
          (sum-one size f (a + 1) n j (omega (arith, later)) (omega arith) one (λ k from below apart. none k (omega (arith, from)) (omega (arith, below)) apart))
      | inr le ↦
          let here : a ≡ j = omega (arith, from, le) in
          sum_by-cons size (f a) (map f (range_with_len (a + 1) n))
          ∙ ap₂ (λ x y. x + y) (ap (λ k. size (f k)) here ∙ one)
          (sum-none size f (a + 1) n (λ k from below. none k (omega (arith, from)) (omega (arith, below)) (λ is. omega (arith, from, is, here))))
    ]

-- the numbers of a range differ
pub range-distinct : (a n : ℕ) → AllPairs (λ one other. one ≢ other) (range_with_len a n)
range-distinct a n i j d less within is =
    let long : length (range_with_len a n) ≡ n = length-range_with_len a n in
    let below : j < n = omega (arith, within, long) in
    omega (arith, sym (get_or-range_with_len a n i d (omega (arith, less, below))) ∙ is ∙ get_or-range_with_len a n j d below, less)

-- a number that was found in a range
pub first_at-below : (test : ℕ → Bool) (at n row : ℕ) → first_at test at (range_with_len at n) ≡ Some row → row < at + n
first_at-below test at zero row is = cc
first_at-below test at (suc n) row is = found (test at) is (λ same. first_at-below test (at + 1) n row same)
  where
    found : (passes : Bool) → (if passes then Some at else first_at test (at + 1) (range_with_len (at + 1) n)) ≡ Some row
        → (first_at test (at + 1) (range_with_len (at + 1) n) ≡ Some row → row < at + 1 + n) → row < at + suc n
    found true same behind = let here : at ≡ row = cc in omega (arith, here)
    found false same behind = omega (arith, behind same)

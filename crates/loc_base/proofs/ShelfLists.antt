-- Laws of lists: their places, their members, what each or some of them is, and pairs of them.
use Rattle.std.proofs.Common.{◌≡◌, ◌≢◌, ℕ, zero, suc, ◌+◌, ◌<◌, Bool, true, false, List, [], ◌∷◌, ◌++◌, length, get_or, take, drop, map, Some, refl, sym, ◌∙◌, ap, ap₂, subst, arith, add-one, drop-cons, ◌⊎◌, inl, inr}
use Rattle.std.proofs.Math.ListN.{set}
use Rattle.std.specs.Prelude.{All, Contains, ◌&&◌, nat_lt, slice_get}
use Rattle.std.specs.List.{list_all, list_any, AllZip}
use Rattle.std.proofs.lemmas.Bool.{both_ways, and_parts, lt-ltb, or_cases, or_left, or_right}
use Rattle.std.proofs.lemmas.List.{take_more, map_more}
use Rattle.std.proofs.lemmas.Option.{slice_get_read, slice_get_within, slice_get-get_or, get_or_from_slice_get}

-- ---- places

-- the element at a place
pub slice_get-some : {X : Type 0} (xs : List X) (i : ℕ) → i < length xs → (x : X) × (slice_get xs i ≡ Some x)
slice_get-some [] i within = absurd (omega (arith, within))
slice_get-some (x ∷ xs) zero within = (x, refl)
slice_get-some (x ∷ xs) (suc i) within = slice_get-some xs i (omega (arith, within))

-- the element at a place, read by its index
pub slice_get-at : {X : Type 0} (xs : List X) (i : ℕ) (x : X) → i < length xs → x ≡ get_or xs i x → slice_get xs i ≡ Some x
slice_get-at xs i x within is = slice_get_read xs (length xs) i x refl within is

-- the place that was set holds what was put there
pub slice_get-set_same : {X : Type 0} (xs : List X) (i : ℕ) (y : X) → i < length xs → slice_get (set xs i y) i ≡ Some y
slice_get-set_same [] i y within = absurd (omega (arith, within))
slice_get-set_same (x ∷ xs) zero y within = refl
slice_get-set_same (x ∷ xs) (suc i) y within = slice_get-set_same xs i y (omega (arith, within))

-- and each other place what it held
pub slice_get-set_other : {X : Type 0} (xs : List X) (i j : ℕ) (y : X) → j ≢ i → slice_get (set xs i y) j ≡ slice_get xs j
slice_get-set_other [] i j y apart = refl
slice_get-set_other (x ∷ xs) zero zero y apart = absurd (apart refl)
slice_get-set_other (x ∷ xs) zero (suc j) y apart = refl
slice_get-set_other (x ∷ xs) (suc i) zero y apart = refl
slice_get-set_other (x ∷ xs) (suc i) (suc j) y apart = slice_get-set_other xs i j y (λ e. apart (ap suc e))

-- the list from a place on
pub drop-at : {X : Type 0} (xs : List X) (i : ℕ) (x : X) → i < length xs → x ≡ get_or xs i x → drop i xs ≡ x ∷ drop (i + 1) xs
drop-at xs i x within is = drop-cons xs i x within ∙ ap₂ (λ y n. y ∷ drop n xs) (sym is) (sym (add-one i))

-- one more of the first elements
pub take-at : {X : Type 0} (xs : List X) (i : ℕ) (x : X) → i < length xs → x ≡ get_or xs i x → take (i + 1) xs ≡ take i xs ++ x ∷ []
take-at xs i x within is = take_more xs i x within ∙ ap (λ y. take i xs ++ y ∷ []) (sym is)

-- one more of the first elements' images
pub map-take_at : {X Y : Type 0} (f : X → Y) (xs : List X) (i : ℕ) (x : X) → i < length xs → x ≡ get_or xs i x
    → map f (take (i + 1) xs) ≡ map f (take i xs) ++ f x ∷ []
map-take_at f xs i x within is = map_more f xs i x within ∙ ap (λ y. map f (take i xs) ++ f y ∷ []) (sym is)

-- ---- members

-- the empty list has none
pub Contains-empty : {X : Type 0} (x : X) → Contains [] x → ⊥
Contains-empty x (k, below, at) = omega (arith, below)

-- the first element is one
pub Contains-first : {X : Type 0} (x : X) (xs : List X) → Contains (x ∷ xs) x
Contains-first x xs = (0, omega arith, refl)

-- and so is each behind it
pub Contains-later : {X : Type 0} (x : X) (xs : List X) (y : X) → Contains xs y → Contains (x ∷ xs) y
Contains-later x xs y (k, below, at) = (suc k, omega arith, at)

-- it is the first, or one behind it
pub Contains-cons : {X : Type 0} (x : X) (xs : List X) (y : X) → Contains (x ∷ xs) y → (x ≡ y) ⊎ Contains xs y
Contains-cons x xs y (zero, below, at) = inl at
Contains-cons x xs y (suc k, below, at) = inr (k, omega arith, at)

-- the element at a place is one
pub Contains-at : {X : Type 0} (xs : List X) (k : ℕ) (x : X) → slice_get xs k ≡ Some x → Contains xs x
Contains-at xs k x at = (k, slice_get_within xs k x at, get_or_from_slice_get xs k x x at)

-- and it has a place
pub Contains-place : {X : Type 0} (xs : List X) (x : X) → Contains xs x → (k : ℕ) × (slice_get xs k ≡ Some x)
Contains-place xs x (k, below, at) = (k, slice_get-get_or xs k x below ∙ ap Some at)

-- what each element is, a member is
pub All-member : {X : Type 0} (P : X → Type 0) (xs : List X) (x : X) → All P xs → Contains xs x → P x
All-member P xs x all (k, below, at) = subst P at (all k x below)

-- ---- tests

-- a test that all pass, a member passes
pub list_all-member : {X : Type 0} (test : X → Bool) (xs : List X) (x : X) → list_all test xs ≡ true → Contains xs x → test x ≡ true
list_all-member test [] x all member = absurd (Contains-empty x member)
list_all-member test (y ∷ ys) x all member =
    at (Contains-cons y ys x member) (λ later. list_all-member test ys x (and_parts (test y) (list_all test ys) all).1 later)
  where
    at : (y ≡ x) ⊎ Contains ys x → (Contains ys x → test x ≡ true) → test x ≡ true
    at (inl same) behind = sym (ap test same) ∙ (and_parts (test y) (list_all test ys) all).0
    at (inr later) behind = behind later

-- numbers that are below a bound pass the test for it
pub list_all-below : (n : ℕ) (xs : List ℕ) → All (λ p. p < n) xs → list_all (λ i. nat_lt i n) xs ≡ true
list_all-below n [] all = refl
list_all-below n (x ∷ xs) all =
    ap (λ b. b && list_all (λ i. nat_lt i n) xs) (lt-ltb x n (all 0 x (omega arith)))
    ∙ list_all-below n xs (λ i d low. all (suc i) d (omega (arith, low)))

-- a test that a member passes, some element passes
pub list_any-member : {X : Type 0} (test : X → Bool) (xs : List X) (x : X) → Contains xs x → test x ≡ true → list_any test xs ≡ true
list_any-member test [] x member passes = absurd (Contains-empty x member)
list_any-member test (y ∷ ys) x member passes =
    at (Contains-cons y ys x member) (λ later. list_any-member test ys x later passes)
  where
    at : (y ≡ x) ⊎ Contains ys x → (Contains ys x → list_any test ys ≡ true) → list_any test (y ∷ ys) ≡ true
    at (inl same) behind = or_left (test y) (list_any test ys) (ap test same ∙ passes)
    at (inr later) behind = or_right (test y) (list_any test ys) (behind later)

-- a member that passes a test which some element passes
pub list_any-found : {X : Type 0} (test : X → Bool) (xs : List X) → list_any test xs ≡ true → (x : X) × Contains xs x × (test x ≡ true)
list_any-found test [] passes = absurd (both_ways false refl passes)
list_any-found test (x ∷ xs) passes =
    at (or_cases (test x) (list_any test xs) passes) (λ later. list_any-found test xs later)
  where
    at : (test x ≡ true) ⊎ (list_any test xs ≡ true) → (list_any test xs ≡ true → (y : _) × Contains xs y × (test y ≡ true))
        → (y : _) × Contains (x ∷ xs) y × (test y ≡ true)
    at (inl here) behind = (x, Contains-first x xs, here)
    at (inr later) behind = let (y, member, passes) = behind later in (y, Contains-later x xs y member, passes)

-- ---- pairs of lists

-- one more pair
pub AllZip-push : {X Y : Type 0} (R : X → Y → Type 0) (xs : List X) (ys : List Y) (x : X) (y : Y) → AllZip R xs ys → R x y
    → AllZip R (xs ++ x ∷ []) (ys ++ y ∷ [])
AllZip-push R [] [] x y all one = (one, tt)
AllZip-push R [] (b ∷ ys) x y all one = absurd all
AllZip-push R (a ∷ xs) [] x y all one = absurd all
AllZip-push R (a ∷ xs) (b ∷ ys) x y all one = (all.0, AllZip-push R xs ys x y all.1 one)

-- both are as long
pub AllZip-length : {X Y : Type 0} (R : X → Y → Type 0) (xs : List X) (ys : List Y) → AllZip R xs ys → length xs ≡ length ys
AllZip-length R [] [] all = refl
AllZip-length R [] (b ∷ ys) all = absurd all
AllZip-length R (a ∷ xs) [] all = absurd all
AllZip-length R (a ∷ xs) (b ∷ ys) all = omega (arith, AllZip-length R xs ys all.1)

-- the pair at a place
pub AllZip-at : {X Y : Type 0} (R : X → Y → Type 0) (xs : List X) (ys : List Y) (i : ℕ) (d : X) (e : Y) → AllZip R xs ys
    → i < length xs → R (get_or xs i d) (get_or ys i e)
AllZip-at R [] ys i d e all within = absurd (omega arith)
AllZip-at R (a ∷ xs) [] i d e all within = absurd all
AllZip-at R (a ∷ xs) (b ∷ ys) zero d e all within = all.0
AllZip-at R (a ∷ xs) (b ∷ ys) (suc i) d e all within = AllZip-at R xs ys i d e all.1 (omega arith)

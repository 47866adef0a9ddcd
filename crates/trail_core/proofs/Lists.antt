-- Lists: what `find` and `filter` give for a part of a list, and counts.
use Rattle.std.proofs.Common.{◌≡◌, ℕ, zero, suc, ◌+◌, ◌<◌, ◌≤◌, Bool, true, false, cond, List, [], ◌∷◌, length, get_or, set, take, Option, Some, None, refl, sym, ap, ◌∙◌, subst, arith}
use Rattle.std.proofs.Common.{◌⊎◌, inl, inr}
use Rattle.std.specs.List.{find, filter, count_by}
use Rattle.std.proofs.lemmas.Bool.{false_from_ne_true, false≢true, both_ways}
use Rattle.std.proofs.lemmas.List.{take-take}
use Rattle.std.proofs.lemmas.List.Sums.{count_by-le-length, sum_by-cons, sum_by-set, sum_by-take-le}
use Rattle.loc_base.proofs.ShelfBools.{count-false, count-true}

none_parts : {X : Type 0} (b : Bool) (x : X) (o : Option X) → cond b (Some x) o ≡ None → (b ≡ false) × (o ≡ None)
none_parts true x o h = cc
none_parts false x o h = (refl, h)

some_parts : {X : Type 0} (b : Bool) (x y : X) (o : Option X) → cond b (Some x) o ≡ Some y → ((b ≡ true) × (x ≡ y)) ⊎ ((b ≡ false) × (o ≡ Some y))
some_parts true x y o h = inl (refl, cc)
some_parts false x y o h = inr (refl, h)

some_step : {X : Type 0} (b : Bool) (x y : X) (o q : Option X) → (o ≡ Some y → q ≡ Some y) → cond b (Some x) o ≡ Some y → cond b (Some x) q ≡ Some y
some_step true x y o q f h = h
some_step false x y o q f h = f h

-- nothing is found in a front where nothing is found in the whole
pub find-take_none : {X : Type 0} (p : X → Bool) (xs : List X) (m : ℕ) → find p xs ≡ None → find p (take m xs) ≡ None
find-take_none p [] zero h = refl
find-take_none p [] (suc m) h = refl
find-take_none p (x ∷ xs) zero h = refl
find-take_none p (x ∷ xs) (suc m) h = let t = none_parts (p x) x (find p xs) h in rw t.0 (find-take_none p xs m t.1)

-- what is found in a front is found in the whole
pub find-take_some : {X : Type 0} (p : X → Bool) (xs : List X) (m : ℕ) (y : X) → find p (take m xs) ≡ Some y → find p xs ≡ Some y
find-take_some p [] zero y h = h
find-take_some p [] (suc m) y h = h
find-take_some p (x ∷ xs) zero y h = cc
find-take_some p (x ∷ xs) (suc m) y h = some_step (p x) x y (find p (take m xs)) (find p xs) (find-take_some p xs m y) h

-- where something is found
pub record IsFound {X : Type 0} (p : X → Bool) (xs : List X) (y : X) : Type 0 where
  pub place : ℕ
  pub within : place < length xs
  pub is : (d : X) → get_or xs place d ≡ y
  pub passes : p y ≡ true

found_later : {X : Type 0} (p : X → Bool) (x : X) (xs : List X) (y : X) → IsFound p xs y → IsFound p (x ∷ xs) y
found_later p x xs y f = record { place = suc f.place; within = omega arith; is = f.is; passes = f.passes }

pub find_found : {X : Type 0} (p : X → Bool) (xs : List X) (y : X) → find p xs ≡ Some y → IsFound p xs y
find_found p [] y h = cc
find_found p (x ∷ xs) y h =
    elim (some_parts (p x) x y (find p xs) h) [ inl t ↦ record { place = 0; within = omega arith; is = λ d. t.1; passes = rw (← t.1) t.0 } | inr t ↦ found_later p x xs y (find_found p xs y t.1) ]

pub find_none : {X : Type 0} (p : X → Bool) (xs : List X) (k : ℕ) (d : X) → find p xs ≡ None → k < length xs → p (get_or xs k d) ≡ false
find_none p [] k d h l = absurd (omega arith)
find_none p (x ∷ xs) zero d h l = (none_parts (p x) x (find p xs) h).0
find_none p (x ∷ xs) (suc k) d h l = find_none p xs k d (none_parts (p x) x (find p xs) h).1 (omega arith)

-- nothing is found where no element passes
pub find_absent : {X : Type 0} (p : X → Bool) (xs : List X) → ((k : ℕ) (d : X) → k < length xs → p (get_or xs k d) ≡ false) → find p xs ≡ None
find_absent p [] h = refl
find_absent p (x ∷ xs) h = let t : p x ≡ false = h 0 x (omega arith) in rw t (find_absent p xs (λ k d l. h (suc k) d (omega arith)))

-- a filter that passes all
pub filter_all : {X : Type 0} (p : X → Bool) (xs : List X) → ((k : ℕ) (d : X) → k < length xs → p (get_or xs k d) ≡ true) → filter p xs ≡ xs
filter_all p [] h = refl
filter_all p (x ∷ xs) h = let t : p x ≡ true = h 0 x (omega arith) in rw t (ap (λ r. x ∷ r) (filter_all p xs (λ k d l. h (suc k) d (omega arith))))

-- a filter that passes none
pub filter_none : {X : Type 0} (p : X → Bool) (xs : List X) → ((k : ℕ) (d : X) → k < length xs → p (get_or xs k d) ≡ false) → filter p xs ≡ []
filter_none p [] h = refl
filter_none p (x ∷ xs) h = let t : p x ≡ false = h 0 x (omega arith) in rw t (filter_none p xs (λ k d l. h (suc k) d (omega arith)))

filter_step : {X : Type 0} (b : Bool) (x : X) (ys zs : List X) (p : X → Bool) → (p x ≡ true → b ≡ true) → filter p ys ≡ zs → filter p (cond b (x ∷ ys) ys) ≡ cond (p x) (x ∷ zs) zs
filter_step true x ys zs p f e = rw e refl
filter_step false x ys zs p f e = let t : p x ≡ false = false_from_ne_true (p x) (λ h. false≢true (f h)) in rw (t, e) refl

-- a filter after a wider one
pub filter-filter : {X : Type 0} (p q : X → Bool) (xs : List X) → ((x : X) → p x ≡ true → q x ≡ true) → filter p (filter q xs) ≡ filter p xs
filter-filter p q [] f = refl
filter-filter p q (x ∷ xs) f = filter_step (q x) x (filter q xs) (filter p xs) p (f x) (filter-filter p q xs f)

count_later_step : (b : Bool) (c : ℕ) → cond b 1 0 + c ≤ 1 + c
count_later_step true c = omega arith
count_later_step false c = omega arith

count_first : {X : Type 0} (p : X → Bool) (x : X) (xs : List X) → p x ≡ false → count_by p (x ∷ xs) ≡ count_by p xs
count_first p x xs h = omega (arith, count-false (p x) h, sum_by-cons (λ y. cond (p y) 1 0) x xs)

count_later : {X : Type 0} (p : X → Bool) (x : X) (xs : List X) → count_by p (x ∷ xs) ≤ 1 + count_by p xs
count_later p x xs = omega (arith, count_later_step (p x) (count_by p xs), sum_by-cons (λ y. cond (p y) 1 0) x xs)

-- a list with an element that fails has fewer that pass than elements
pub count_by_lt : {X : Type 0} (p : X → Bool) (xs : List X) (k : ℕ) (d : X) → k < length xs → p (get_or xs k d) ≡ false → count_by p xs < length xs
count_by_lt p [] k d l h = absurd (omega arith)
count_by_lt p (x ∷ xs) zero d l h = omega (arith, count_first p x xs h, count_by-le-length p xs)
count_by_lt p (x ∷ xs) (suc k) d l h = omega (arith, count_later p x xs, count_by_lt p xs k d (omega arith) h)

-- a write of an element that passes over one that fails
pub count_by-set : {X : Type 0} (p : X → Bool) (xs : List X) (k : ℕ) (y d : X) → k < length xs → p (get_or xs k d) ≡ false → p y ≡ true → count_by p (set xs k y) ≡ count_by p xs + 1
count_by-set p xs k y d l h t = omega (arith, count-false (p (get_or xs k d)) h, count-true (p y) t, sum_by-set (λ x. cond (p x) 1 0) xs k y d l)

-- a write of an element that fails over one that passes
pub count_by-set_fails : {X : Type 0} (p : X → Bool) (xs : List X) (k : ℕ) (y d : X) → k < length xs → p (get_or xs k d) ≡ true → p y ≡ false → count_by p (set xs k y) + 1 ≡ count_by p xs
count_by-set_fails p xs k y d l h t = omega (arith, count-true (p (get_or xs k d)) h, count-false (p y) t, sum_by-set (λ x. cond (p x) 1 0) xs k y d l)

-- a longer front has no fewer that pass
pub count_by-take-le : {X : Type 0} (p : X → Bool) (xs : List X) (i j : ℕ) → i ≤ j → count_by p (take i xs) ≤ count_by p (take j xs)
count_by-take-le p xs i j l = rw (← take-take i j xs l) (sum_by-take-le (λ x. cond (p x) 1 0) (take j xs) i)

prefix_step : {X : Type 0} (b : Bool) (x : X) (ys xs : List X) → (b ≡ true → ys ≡ take (length ys) xs) → (b ≡ false → ys ≡ []) → cond b (x ∷ ys) ys ≡ take (length (cond b (x ∷ ys) ys)) (x ∷ xs)
prefix_step true x ys xs f g = ap (λ r. x ∷ r) (f refl)
prefix_step false x ys xs f g = rw (g refl) refl

-- what a filter keeps is a front, where each element before one that passes passes
pub filter_front : {X : Type 0} (p : X → Bool) (xs : List X) → ((i j : ℕ) (d : X) → i ≤ j → j < length xs → p (get_or xs j d) ≡ true → p (get_or xs i d) ≡ true) → filter p xs ≡ take (length (filter p xs)) xs
filter_front p [] h = refl
filter_front p (x ∷ xs) h =
    prefix_step (p x) x (filter p xs) xs
    (λ t. filter_front p xs (λ i j d l m e. h (suc i) (suc j) d (omega arith) (omega arith) e))
    (λ t. filter_none p xs (λ k d l. false_from_ne_true (p (get_or xs k d)) (λ e. both_ways (p x) t (h 0 (suc k) d (omega arith) (omega arith) e))))

passes_step : {X : Type 0} (b : Bool) (x y : X) (zs : List X) (p q : X → Bool) → (b ≡ true → q x ≡ true) → (find p zs ≡ Some y → q y ≡ true) → find p (cond b (x ∷ zs) zs) ≡ Some y → q y ≡ true
passes_step true x y zs p q f g h = elim (some_parts (p x) x y (find p zs) h) [ inl t ↦ subst (λ z. q z ≡ true) t.1 (f refl) | inr t ↦ g t.1 ]
passes_step false x y zs p q f g h = g h

-- what is found in a filtered list passes the filter
pub find-filter_passes : {X : Type 0} (p q : X → Bool) (xs : List X) (y : X) → find p (filter q xs) ≡ Some y → q y ≡ true
find-filter_passes p q [] y h = cc
find-filter_passes p q (x ∷ xs) y h = passes_step (q x) x y (filter q xs) p q (λ e. e) (find-filter_passes p q xs y) h

keeps_step : {X : Type 0} (b : Bool) (x y : X) (xs zs : List X) (p q : X → Bool) → q x ≡ b → (find p xs ≡ Some y → find p zs ≡ Some y) → q y ≡ true → cond (p x) (Some x) (find p xs) ≡ Some y → find p (cond b (x ∷ zs) zs) ≡ Some y
keeps_step true x y xs zs p q e f t h = some_step (p x) x y (find p xs) (find p zs) f h
keeps_step false x y xs zs p q e f t h = elim (some_parts (p x) x y (find p xs) h) [ inl s ↦ absurd (false≢true (subst (λ z. false ≡ q z) s.1 (sym e) ∙ t)) | inr s ↦ f s.1 ]

-- what is found, and passes a filter, is found in the filtered list
pub find-filter_keeps : {X : Type 0} (p q : X → Bool) (xs : List X) (y : X) → find p xs ≡ Some y → q y ≡ true → find p (filter q xs) ≡ Some y
find-filter_keeps p q [] y h t = h
find-filter_keeps p q (x ∷ xs) y h t = keeps_step (q x) x y xs (filter q xs) p q refl (λ e. find-filter_keeps p q xs y e t) t h

at_step : {X : Type 0} (b : Bool) (x : X) (zs : List X) (q : X → Bool) (i : ℕ) (d : X) → (b ≡ true → q x ≡ true) → ((j : ℕ) → j < length zs → q (get_or zs j d) ≡ true) → i < length (cond b (x ∷ zs) zs) → q (get_or (cond b (x ∷ zs) zs) i d) ≡ true
at_step true x zs q zero d f g l = f refl
at_step true x zs q (suc i) d f g l = g i (omega (arith, l))
at_step false x zs q i d f g l = g i l

-- each element of a filtered list passes the filter
pub filter_at : {X : Type 0} (q : X → Bool) (xs : List X) (i : ℕ) (d : X) → i < length (filter q xs) → q (get_or (filter q xs) i d) ≡ true
filter_at q [] i d l = absurd (omega (arith, l))
filter_at q (x ∷ xs) i d l = at_step (q x) x (filter q xs) q i d (λ e. e) (λ j m. filter_at q xs j d m) l

-- Sets that assignments select, and the order of sets.
use Rattle.std.proofs.Common.{◌≡◌, ℕ, zero, suc, ◌+◌, ◌-◌, ◌<◌, ◌≤◌, inl, inr, Bool, true, false, cond, List, [], ◌∷◌, ◌++◌, length}
use Rattle.std.proofs.Common.{get_or, ◌⊎◌, refl, sym, ◌∙◌, ap, ap₂, subst, arith, eqb}
use Rattle.std.specs.Prelude.{filter, count_by, All, Contains}
use Rattle.std.specs.List.Sorted.{IsStrictlyIncreasing}
use Rattle.std.proofs.lemmas.Bool.{cases_eq, ne_eqb, le-ltb, and_left, and_right, false≢true}
use Rattle.std.proofs.lemmas.List.{length-append, length_push, append-nil, map_push}
use Rattle.std.proofs.lemmas.List.Elements.{All-cons, All-head, All-nil, All-tail, All-filter, filter-append}
use Rattle.std.proofs.lemmas.List.Kept.{IsStrictlyIncreasing-filter}
use Rattle.std.proofs.lemmas.List.Sums.{length-filter, count_by-le-length, sum_by-cons}
use Rattle.loc_base.proofs.ShelfLists.{All-member, Contains-cons, Contains-first, Contains-later}
use Rattle.clause_base.specs.Literal.{positive, negative, has_variable, has_distinct_variables}
use Rattle.clause_base.specs.Satisfaction.{value_of}
use Rattle.card_counter.specs.InForm.{literals_from}
use Rattle.card_counter.specs.Means.{true_count}
use Rattle.sat_core.specs.SolverState.{IsAtLeast, assignment_of}
use Rattle.loc_base.specs.Sets.{is_lower, is_before}
use Rattle.set_enum.specs.Sets.{numbers_from, selected, IsSetOf, block_of}

pub numbers-length : (first count : ℕ) → length (numbers_from first count) ≡ count
numbers-length first zero = refl
numbers-length first (suc count) = ap suc (numbers-length (first + 1) count)

pub numbers-at : (first count i d : ℕ) → i < count → get_or (numbers_from first count) i d ≡ first + i
numbers-at first zero i d l = absurd (omega (arith, l))
numbers-at first (suc count) zero d l = omega arith
numbers-at first (suc count) (suc i) d l = numbers-at (first + 1) count i d (omega (arith, l)) ∙ omega arith

-- one number more
pub numbers-push : (first count : ℕ) → numbers_from first (suc count) ≡ numbers_from first count ++ (first + count) ∷ []
numbers-push first zero = let e : first ≡ first + 0 = omega arith in ap (λ m. m ∷ []) e
numbers-push first (suc count) =
    let e : first + 1 + count ≡ first + suc count = omega arith in
    ap (λ xs. first ∷ xs) (numbers-push (first + 1) count ∙ ap (λ m. numbers_from (first + 1) count ++ m ∷ []) e)

pub numbers-ascending : (first count : ℕ) → IsStrictlyIncreasing (numbers_from first count)
numbers-ascending first count k l =
    let long : length (numbers_from first count) ≡ count = numbers-length first count in
    omega (arith, numbers-at first count k 0 (omega (arith, l, long)), numbers-at first count (k + 1) 0 (omega (arith, l, long)))

pub numbers-within : (first count : ℕ) → All (λ m. (first ≤ m) × (m < first + count)) (numbers_from first count)
numbers-within first count i d l =
    let at : get_or (numbers_from first count) i d ≡ first + i = numbers-at first count i d (omega (arith, l, numbers-length first count))
    in
    (omega (arith, at), omega (arith, at, l, numbers-length first count))

numbers-past : (first count : ℕ) → All (λ m. first < m) (numbers_from (first + 1) count)
numbers-past first count i d l = omega (arith, numbers-at (first + 1) count i d (omega (arith, l, numbers-length (first + 1) count)))

-- the same, to a number
pub numbers_next : (i : ℕ) → numbers_from 1 (i + 1) ≡ numbers_from 1 i ++ (i + 1) ∷ []
numbers_next i =
    let e : 1 + i ≡ i + 1 = omega arith in
    let s : i + 1 ≡ suc i = omega arith in
    ap (numbers_from 1) s ∙ (numbers-push 1 i ∙ ap (λ m. numbers_from 1 i ++ m ∷ []) e)

-- what an assignment selects is a set
pub selected-IsSetOf : (n : ℕ) (a : ℕ → Bool) → IsSetOf n (selected n a)
selected-IsSetOf n a = record {
  ascending = IsStrictlyIncreasing-filter a (numbers_from 1 n) (numbers-ascending 1 n);
  members = All-filter a (λ m. (1 ≤ m) × (m ≤ n)) (numbers_from 1 n)
      (λ i d l. (omega (arith, (numbers-within 1 n i d l).0), omega (arith, (numbers-within 1 n i d l).1)));
}

same-from : (a b : ℕ → Bool) (first count : ℕ) → ((v : ℕ) → first ≤ v → v < first + count → a v ≡ b v)
    → filter a (numbers_from first count) ≡ filter b (numbers_from first count)
same-from a b first zero same = refl
same-from a b first (suc count) same =
    ap₂ (λ (t : Bool) (r : List ℕ). cond t (first ∷ r) r) (same first (omega arith) (omega arith))
    (same-from a b (first + 1) count (λ v low high. same v (omega (arith, low)) (omega (arith, high))))

-- assignments that agree on the selectors select the same
pub selected-same : (n : ℕ) (a b : ℕ → Bool) → ((v : ℕ) → v < n + 1 → a v ≡ b v) → selected n a ≡ selected n b
selected-same n a b same = same-from a b 1 n (λ v low high. same v (omega (arith, high)))

count-from : (a : ℕ → Bool) (first count : ℕ) → count_by a (numbers_from first count) ≡ true_count a (literals_from first count)
count-from a first zero = refl
count-from a first (suc count) =
    omega (
      arith,
      count-from a (first + 1) count,
      sum_by-cons (λ x. cond (a x) 1 0) first (numbers_from (first + 1) count),
      sum_by-cons (λ x. cond (value_of a x) 1 0) (positive first) (literals_from (first + 1) count),
    )

-- so many selectors are true
pub selected-count : (n : ℕ) (a : ℕ → Bool) → length (selected n a) ≡ true_count a (literals_from 1 n)
selected-count n a = length-filter a (numbers_from 1 n) ∙ count-from a 1 n

pub selected-few : (n : ℕ) (a : ℕ → Bool) → length (selected n a) ≤ n
selected-few n a = omega (arith, length-filter a (numbers_from 1 n), count_by-le-length a (numbers_from 1 n), numbers-length 1 n)

-- one selector more
pub selected-push : (i : ℕ) (a : ℕ → Bool) → selected (i + 1) a ≡ selected i a ++ cond (a (i + 1)) ((i + 1) ∷ []) []
selected-push i a = ap (filter a) (numbers_next i) ∙ filter-append a (numbers_from 1 i) ((i + 1) ∷ [])

-- a part of what is selected is no more
pub selected-front : (n m : ℕ) (a : ℕ → Bool) → m ≤ n → length (selected m a) ≤ length (selected n a)
selected-front n m a l = grows (n - m) m (omega (arith, l))
  where
    grows : (d i : ℕ) → i + d ≡ n → length (selected i a) ≤ length (selected n a)
    grows zero i e = let q : i ≡ n = omega (arith, e) in omega (arith, ap (λ v. length (selected v a)) q)
    grows (suc d) i e = omega (
      arith,
      grows d (i + 1) (omega (arith, e)),
      ap length (selected-push i a),
      length-append (selected i a)
          (cond (a (i + 1)) ((i + 1) ∷ []) []),
    )

-- a member that passes is among those that pass
pub filter-has : (p : ℕ → Bool) (xs : List ℕ) (x : ℕ) → Contains xs x → p x ≡ true → Contains (filter p xs) x
filter-has p [] x member passes = member
filter-has p (y ∷ xs) x member passes = at (Contains-cons y xs x member) (p y) refl (λ later. filter-has p xs x later passes)
  where
    at : (y ≡ x) ⊎ Contains xs x → (b : Bool) → p y ≡ b → (Contains xs x → Contains (filter p xs) x)
        → Contains (cond b (y ∷ filter p xs) (filter p xs)) x
    at (inl same) true is rest = subst (Contains (y ∷ filter p xs)) same (Contains-first y (filter p xs))
    at (inl same) false is rest = let wrong : true ≡ false = sym passes ∙ (ap p (sym same) ∙ is) in cc
    at (inr later) true is rest = Contains-later y (filter p xs) x (rest later)
    at (inr later) false is rest = rest later

-- those that pass do
pub filter-passes : (p : ℕ → Bool) (xs : List ℕ) → All (λ x. p x ≡ true) (filter p xs)
filter-passes p [] = All-nil (λ x. p x ≡ true)
filter-passes p (y ∷ xs) = at (p y) refl (filter-passes p xs)
  where
    at : (b : Bool) → p y ≡ b → All (λ x. p x ≡ true) (filter p xs) → All (λ x. p x ≡ true) (cond b (y ∷ filter p xs) (filter p xs))
    at true is rest = All-cons (λ x. p x ≡ true) y (filter p xs) is rest
    at false is rest = rest

pub numbers-has : (first count v : ℕ) → first ≤ v → v < first + count → Contains (numbers_from first count) v
numbers-has first count v low high =
    let back : first + (v - first) ≡ v = omega (arith, low) in
    let within : v - first < count = omega (arith, low, high) in
    (v - first, omega (arith, within, numbers-length first count), numbers-at first count (v - first) v within ∙ back)

-- what an assignment selects are the variables that it makes true
pub selected-has : (n : ℕ) (a : ℕ → Bool) (v : ℕ) → 1 ≤ v → v ≤ n → a v ≡ true → Contains (selected n a) v
selected-has n a v low high is = filter-has a (numbers_from 1 n) v (numbers-has 1 n v low (omega (arith, high))) is

pub selected-true : (n : ℕ) (a : ℕ → Bool) (v : ℕ) → Contains (selected n a) v → a v ≡ true
selected-true n a v member = All-member (λ x. a x ≡ true) (selected n a) v (filter-passes a (numbers_from 1 n)) member

-- the values of a model
pub model-at : (model : List Bool) (i : ℕ) → assignment_of model (i + 1) ≡ get_or model i false
model-at model i = let e : i + 1 - 1 ≡ i = omega arith in ap (λ j. get_or model j false) e

pub selected-yes : (model : List Bool) (i : ℕ) → get_or model i false ≡ true
    → selected (i + 1) (assignment_of model) ≡ selected i (assignment_of model) ++ (i + 1) ∷ []
selected-yes model i here = selected-push i (assignment_of model) ∙ ap (λ t. selected i (assignment_of model) ++ cond t ((i + 1) ∷ []) [])
    (model-at model i ∙ here)

pub selected-no : (model : List Bool) (i : ℕ) → get_or model i false ≡ false
    → selected (i + 1) (assignment_of model) ≡ selected i (assignment_of model)
selected-no model i here =
    selected-push i (assignment_of model) ∙ (ap (λ t. selected i (assignment_of model) ++ cond t ((i + 1) ∷ []) [])
    (model-at model i ∙ here) ∙ append-nil (selected i (assignment_of model)))

-- there is room for one more of them
pub selected-room : (model : List Bool) (n i : ℕ) → get_or model i false ≡ true → i < n
    → length (selected i (assignment_of model)) < length (selected n (assignment_of model))
selected-room model n i here l =
    omega (
      arith,
      ap length (selected-yes model i here),
      length_push (selected i (assignment_of model)) (i + 1),
      selected-front n (i + 1)
          (assignment_of model) (omega (arith, l)),
    )

variable-past : (first : ℕ) (set : List ℕ) → All (λ m. first < m) set → has_variable (block_of set) first ≡ false
variable-past first [] past = refl
variable-past first (m ∷ set) past =
    let here : first < m = All-head (λ x. first < x) m set past in
    let differs : eqb m first ≡ false = ne_eqb m first (λ e. absurd (omega (arith, e, here))) in
    rw differs (variable-past first set (All-tail (λ x. first < x) m set past))

distinct-step : (t : Bool) (first : ℕ) (rest : List ℕ) → All (λ m. first < m) rest → has_distinct_variables (block_of rest) ≡ true
    → has_distinct_variables (block_of (cond t (first ∷ rest) rest)) ≡ true
distinct-step true first rest past d = let absent : has_variable (block_of rest) first ≡ false = variable-past first rest past in rw
    absent d
distinct-step false first rest past d = d

distinct-from : (a : ℕ → Bool) (first count : ℕ) → has_distinct_variables (block_of (filter a (numbers_from first count))) ≡ true
distinct-from a first zero = refl
distinct-from a first (suc count) =
    distinct-step (a first) first (filter a (numbers_from (first + 1) count))
    (All-filter a (λ m. first < m) (numbers_from (first + 1) count) (numbers-past first count))
    (distinct-from a (first + 1) count)

-- the block of what is selected is a clause
pub block-distinct : (n : ℕ) (a : ℕ → Bool) → has_distinct_variables (block_of (selected n a)) ≡ true
block-distinct n a = distinct-from a 1 n

-- the block of one member more
pub block-push : (set : List ℕ) (m : ℕ) → block_of (set ++ m ∷ []) ≡ block_of set ++ negative m ∷ []
block-push set m = map_push negative set m

after-first : (y first : ℕ) (ys lower : List ℕ) → first < y → is_lower (y ∷ ys) (first ∷ lower) ≡ false
after-first y first ys lower l = rw (le-ltb y first (omega (arith, l)))
    (and_left (eqb y first) (is_lower ys lower) (ne_eqb y first (λ e. absurd (omega (arith, e, l)))))

greater-step : (x y : Bool) (first : ℕ) (lower bs : List ℕ) → (y ≡ true → x ≡ true) → All (λ m. first < m) bs
    → (x ≡ y → is_lower bs lower ≡ false)
    → is_lower (cond y (first ∷ bs) bs) (cond x (first ∷ lower) lower) ≡ false
greater-step true true first lower bs u w h = rw (le-ltb first first (omega arith))
    (and_right (eqb first first) (is_lower bs lower) (h refl))
greater-step true false first lower [] u w h = refl
greater-step true false first lower (y ∷ ys) u w h = after-first y first ys lower (All-head (λ m. first < m) y ys w)
greater-step false true first lower bs u w h = absurd (false≢true (u refl))
greater-step false false first lower bs u w h = h refl

IsAtLeast-tail : (x : ℕ) (xs : List ℕ) (a b : ℕ → Bool) → IsAtLeast (x ∷ xs) a b → a x ≡ b x → IsAtLeast xs a b
IsAtLeast-tail x xs a b h e i l same t = h (suc i) (omega (arith, l)) earlier t
  where
    earlier : (j : ℕ) → j < suc i → a (get_or (x ∷ xs) j 0) ≡ b (get_or (x ∷ xs) j 0)
    earlier zero q = e
    earlier (suc j) q = same j (omega (arith, q))

greatest-from : (a b : ℕ → Bool) (first count : ℕ) → IsAtLeast (numbers_from first count) a b
    → is_lower (filter b (numbers_from first count)) (filter a (numbers_from first count)) ≡ false
greatest-from a b first zero h = refl
greatest-from a b first (suc count) h =
    greater-step (a first) (b first) first (filter a (numbers_from (first + 1) count)) (filter b (numbers_from (first + 1) count))
    (h 0 (omega arith) (λ j l. absurd (omega (arith, l))))
    (All-filter b (λ m. first < m) (numbers_from (first + 1) count) (numbers-past first count))
    (λ e. greatest-from a b (first + 1) count (IsAtLeast-tail first (numbers_from (first + 1) count) a b h e))

-- the greatest vector of values selects the set that comes first
pub greatest_first : (n : ℕ) (a b : ℕ → Bool) → IsAtLeast (numbers_from 1 n) a b → is_lower (selected n b) (selected n a) ≡ false
greatest_first n a b h = greatest-from a b 1 n h

-- a set comes before another only where it is smaller, or of the same size and lower
pub not_before : (one other : List ℕ) → length other ≤ length one → (length one ≡ length other → is_lower one other ≡ false)
    → is_before one other ≡ false
not_before one other l h = rw (le-ltb (length one) (length other) l) (elim (cases_eq (length one) (length other)) [
  | inl e ↦ and_right (eqb (length one) (length other)) (is_lower one other) (h e)
  | inr ne ↦ and_left (eqb (length one) (length other)) (is_lower one other) (ne_eqb (length one) (length other) ne)
])

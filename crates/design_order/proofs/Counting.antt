-- How often numbers stand in lists, and rows that are changed.
use Rattle.std.proofs.Common.{eq-eqb, add-one, ℕ, zero, suc, ◌≡◌, ◌<◌, ◌≤◌, ◌+◌, List, [], ◌∷◌, ◌++◌, length, get_or, take, Bool, true, false, cond, refl, sym, ◌∙◌, ap, arith, ◌⊎◌, inl, inr}
use Rattle.std.specs.Prelude.{◌==◌, not, ◌||◌, Contains, count_by, if◌then◌else◌, All}
use Rattle.std.proofs.lemmas.Bool.{false≢true, or_cases, cases_eq, cases_lt}
use Rattle.std.proofs.lemmas.Grind.{common_steps}
use Rattle.std.proofs.lemmas.Bool.Decides.{nat_tests}
use Rattle.std.proofs.lemmas.List.Sums.{sum_by-cons, sum_by-append, sum_by-take-le}
use Rattle.std.proofs.lemmas.List.Folds.{list_any-append}
use Rattle.loc_base.proofs.ShelfBools.{if-false, equal-true, equal-false, or-false, count-true, count-false}
use Rattle.loc_base.proofs.ShelfLists.{take-at}
use Rattle.design_order.specs.Rows.{row, has, times, left}

abbrev counted : Bool → ℕ
counted b = cond (not b) 1 0

or-right : (a b : Bool) → b ≡ true → (a || b) ≡ true
or-right true b h = refl
or-right false b h = h

or_none : (a b : Bool) → (a || b) ≡ false → (a ≡ false) × (b ≡ false)
or_none true b h = absurd (false≢true (sym h))
or_none false b h = (refl, h)

-- ---- counts
pub count_by-cons : {X : Type 0} (test : X → Bool) (x : X) (xs : List X) → count_by test (x ∷ xs) ≡ cond (test x) 1 0 + count_by test xs
count_by-cons test x xs = sum_by-cons (λ y. cond (test y) 1 0) x xs

count_by-push : {X : Type 0} (test : X → Bool) (xs : List X) (x : X) → count_by test (xs ++ x ∷ []) ≡ count_by test xs + cond (test x) 1 0
count_by-push test xs x =
    sum_by-append (λ y. cond (test y) 1 0) xs (x ∷ []) ∙ ap (λ n. count_by test xs + n) (count_by-cons test x [] ∙ omega arith)

-- one element more
pub count_by-more : {X : Type 0} (test : X → Bool) (xs : List X) (i : ℕ) (x : X) → i < length xs → x ≡ get_or xs i x
    → count_by test (take (i + 1) xs) ≡ count_by test (take i xs) + cond (test x) 1 0
count_by-more test xs i x within is = ap (count_by test) (take-at xs i x within is) ∙ count_by-push test (take i xs) x

pub count_by-take_le : {X : Type 0} (test : X → Bool) (xs : List X) (i : ℕ) → count_by test (take i xs) ≤ count_by test xs
count_by-take_le test xs i = sum_by-take-le (λ y. cond (test y) 1 0) xs i

pub times-push : (k : ℕ) (xs : List ℕ) (x : ℕ) → times k (xs ++ x ∷ []) ≡ times k xs + cond (x == k) 1 0
times-push k xs x = count_by-push (λ y. y == k) xs x

-- ---- members
pub has-push : (xs : List ℕ) (x k : ℕ) → has (xs ++ x ∷ []) k ≡ (has xs k || x == k)
has-push xs x k = list_any-append (λ y. y == k) xs (x ∷ []) ∙ ap (λ b. has xs k || b) (or-false (x == k))

pub has-more : (xs : List ℕ) (i x k : ℕ) → i < length xs → x ≡ get_or xs i x → has (take (i + 1) xs) k ≡ (has (take i xs) k || x == k)
has-more xs i x k within is = ap (λ ys. has ys k) (take-at xs i x within is) ∙ has-push (take i xs) x k

pub has-member : (xs : List ℕ) (k : ℕ) → has xs k ≡ true → Contains xs k
has-member [] k some = absurd (false≢true some)
has-member (x ∷ xs) k some = at (or_cases (x == k) (has xs k) some) (λ later. has-member xs k later)
  where
    at : ((x == k) ≡ true) ⊎ (has xs k ≡ true) → (has xs k ≡ true → Contains xs k) → Contains (x ∷ xs) k
    at (inl here) behind = (0, omega arith, equal-true x k here)
    at (inr later) behind = let (i, below, is) = behind later in (suc i, omega arith, is)

pub member-has : (xs : List ℕ) (k : ℕ) → Contains xs k → has xs k ≡ true
member-has [] k (i, below, is) = absurd (omega (arith, below))
member-has (x ∷ xs) k (zero, below, is) = grind (arith, common_steps, nat_tests)
member-has (x ∷ xs) k (suc i, below, is) =
    let later : has xs k ≡ true = member-has xs k (i, omega arith, is) in
    or-right (x == k) (has xs k) later

get_or-same : (xs : List ℕ) (i d : ℕ) → i < length xs → get_or xs i (get_or xs i d) ≡ get_or xs i d
get_or-same [] i d below = absurd (omega (arith, below))
get_or-same (x ∷ xs) zero d below = refl
get_or-same (x ∷ xs) (suc i) d below = get_or-same xs i d (omega (arith, below))

pub has-index : (xs : List ℕ) (i : ℕ) → i < length xs → has xs (get_or xs i 0) ≡ true
has-index xs i below = member-has xs (get_or xs i 0) (i, below, get_or-same xs i 0 below)

-- what stands there at least once
pub times-has : (k : ℕ) (xs : List ℕ) → has xs k ≡ true → 0 < times k xs
times-has k [] some = absurd (false≢true some)
times-has k (x ∷ xs) some = at (or_cases (x == k) (has xs k) some) (λ later. times-has k xs later)
  where
    at : ((x == k) ≡ true) ⊎ (has xs k ≡ true) → (has xs k ≡ true → 0 < times k xs) → 0 < times k (x ∷ xs)
    at (inl here) behind = omega (arith, count_by-cons (λ y. y == k) x xs, count-true (x == k) here)
    at (inr later) behind = omega (arith, count_by-cons (λ y. y == k) x xs, behind later)

pub times-none : (k : ℕ) (xs : List ℕ) → has xs k ≡ false → times k xs ≡ 0
times-none k [] none = refl
times-none k (x ∷ xs) none =
    let parts = or_none (x == k) (has xs k) none in
    omega (arith, count_by-cons (λ y. y == k) x xs, count-false (x == k) parts.0, times-none k xs parts.1)

-- ---- what is left
pub left-some : (taken : ℕ → Bool) (xs : List ℕ) (k : ℕ) → has xs k ≡ true → taken k ≡ false → 0 < left taken xs
left-some taken [] k some out = absurd (false≢true some)
left-some taken (x ∷ xs) k some out = at (or_cases (x == k) (has xs k) some) (λ later. left-some taken xs k later out)
  where
    at : ((x == k) ≡ true) ⊎ (has xs k ≡ true) → (has xs k ≡ true → 0 < left taken xs) → 0 < left taken (x ∷ xs)
    at (inl here) behind =
        let out_here : taken x ≡ false = ap taken (equal-true x k here) ∙ out in
        omega (arith, count_by-cons (λ y. not (taken y)) x xs, count-true (not (taken x)) (ap not out_here))
    at (inr later) behind = omega (arith, count_by-cons (λ y. not (taken y)) x xs, behind later)

pub left-none : (taken : ℕ → Bool) (xs : List ℕ) → ((k : ℕ) → has xs k ≡ true → taken k ≡ true) → left taken xs ≡ 0
left-none taken [] all = refl
left-none taken (x ∷ xs) all =
    let here : taken x ≡ true = all x (member-has (x ∷ xs) x (0, omega arith, refl)) in
    omega (arith, count_by-cons (λ y. not (taken y)) x xs, count-false (not (taken x)) (ap not here), left-none taken xs (λ k later. all k (or-right (x == k) (has xs k) later)))

-- where none is left, each was taken
pub left-all : (taken : ℕ → Bool) (xs : List ℕ) (k : ℕ) → left taken xs ≡ 0 → has xs k ≡ true → taken k ≡ true
left-all taken xs k none some = at (taken k) refl
  where
    at : (b : Bool) → taken k ≡ b → taken k ≡ true
    at true is = is
    at false is = absurd (omega (arith, none, left-some taken xs k some is))

pub left-same : (one other : ℕ → Bool) (xs : List ℕ) → ((k : ℕ) → one k ≡ other k) → left one xs ≡ left other xs
left-same one other [] same = refl
left-same one other (x ∷ xs) same =
    let head : cond (not (one x)) 1 0 ≡ cond (not (other x)) 1 0 = ap (counted) (same x) in
    omega (arith, count_by-cons (λ y. not (one y)) x xs, head, left-same one other xs same, count_by-cons (λ y. not (other y)) x xs)

-- one that was not taken, and is
head-take : (taken : ℕ → Bool) (d x : ℕ) → taken d ≡ false → cond (not (taken x || d == x)) 1 0 + cond (x == d) 1 0 ≡ cond (not (taken x)) 1 0
head-take taken d x out = at (cases_eq d x)
  where
    at : (d ≡ x) ⊎ (d ≡ x → ⊥) → cond (not (taken x || d == x)) 1 0 + cond (x == d) 1 0 ≡ cond (not (taken x)) 1 0
    at (inl same) =
        let here : taken x ≡ false = ap taken (sym same) ∙ out in
        let one : (d == x) ≡ true = eq-eqb d x same in
        let two : (x == d) ≡ true = eq-eqb x d (sym same) in
        rw here (rw one (rw two refl))
    at (inr apart) =
        let one : (d == x) ≡ false = equal-false d x apart in
        let two : (x == d) ≡ false = equal-false x d (λ e. apart (sym e)) in
        rw one (rw two (ap (λ b. cond (not b) 1 0 + 0) (or-false (taken x)) ∙ omega arith))

pub left-take : (taken : ℕ → Bool) (d : ℕ) (xs : List ℕ) → taken d ≡ false → left (λ k. taken k || d == k) xs + times d xs ≡ left taken xs
left-take taken d [] out = refl
left-take taken d (x ∷ xs) out =
    omega (
      arith,
      count_by-cons (λ y. not (taken y || d == y)) x xs,
      count_by-cons (λ y. y == d) x xs,
      count_by-cons (λ y. not (taken y)) x xs,
      left-take taken d xs out,
      head-take taken d x out,
    )

-- a user that comes has one need more to count
pub enough-left : (users : List ℕ) (i here init : ℕ) → i < length users → here + times (get_or users i 0) (take i users) ≡ init → times (get_or users i 0) users ≤ init → 1 ≤ here
enough-left users i here init below before all =
    let u : ℕ = get_or users i 0 in
    let more = count_by-more (λ y. y == u) users i u below (sym (get_or-same users i 0 below)) in
    omega (arith, more, count-true (u == u) (eq-eqb u u refl), count_by-take_le (λ y. y == u) users (i + 1), before, all)

-- ---- rows
pub row-past : (rows : List (List ℕ)) (i : ℕ) → length rows ≤ i → row rows i ≡ []
row-past [] i past = refl
row-past (r ∷ rows) zero past = absurd (omega (arith, past))
row-past (r ∷ rows) (suc i) past = row-past rows i (omega (arith, past))

pub row-push_empty : (rows : List (List ℕ)) → ((j : ℕ) → row rows j ≡ []) → (j : ℕ) → row (rows ++ [] ∷ []) j ≡ []
row-push_empty [] all zero = refl
row-push_empty [] all (suc j) = refl
row-push_empty (r ∷ rows) all zero = all 0
row-push_empty (r ∷ rows) all (suc j) = row-push_empty rows (λ k. all (suc k)) j

pub times-take_suc : (needs : List (List ℕ)) (k i j : ℕ) → k < length needs
    → times j (row (take (suc k) needs) i) ≡ times j (row (take k needs) i) + (if k == i then times j (row needs k) else 0)
times-take_suc [] k i j below = absurd (omega (arith, below))
times-take_suc (r ∷ needs) zero zero j below = omega arith
times-take_suc (r ∷ needs) zero (suc i) j below =
    omega (arith, if-false (0 == suc i) (times j r) 0 0 (equal-false 0 (suc i) (λ e. omega (arith, e))) refl)
times-take_suc (r ∷ needs) (suc k) zero j below =
    omega (arith, if-false (suc k == 0) (times j (row needs k)) 0 0 (equal-false (suc k) 0 (λ e. omega (arith, e))) refl)
times-take_suc (r ∷ needs) (suc k) (suc i) j below =
    times-take_suc needs k i j (omega (arith, below))
    ∙ ap (λ b. times j (row (take k needs) i) + (if b then times j (row needs k) else 0)) (equal-suc k i)
  where
    equal-suc : (a b : ℕ) → (a == b) ≡ (suc a == suc b)
    equal-suc a b = grind (arith, common_steps, nat_tests)

pub users-step : (needs : List (List ℕ)) (k i j old new : ℕ) (needed : List ℕ) → k < length needs → needed ≡ row needs k → old ≡ times j (row (take k needs) i)
    → new ≡ old + (if k == i then times j needed else 0) → new ≡ times j (row (take (k + 1) needs) i)
users-step needs k i j old new needed below is before after =
    after ∙ ap (λ r. old + (if k == i then times j r else 0)) is ∙ ap (λ n. n + (if k == i then times j (row needs k) else 0)) before
    ∙ sym (times-take_suc needs k i j below) ∙ ap (λ n. times j (row (take n needs) i)) (sym (add-one k))

-- who stands in a row of users is one of them
pub users-within : (needs users : List (List ℕ)) (j : ℕ) → ((i j : ℕ) → times i (row users j) ≡ times j (row needs i)) → All (λ x. x < length needs) (row users j)
users-within needs users j same i d below =
    let x : ℕ = get_or (row users j) i d in
    at x (cases_lt x (length needs)) (times-has x (row users j) (member-has (row users j) x (i, below, get_or-same (row users j) i d below)))
  where
    at : (x : ℕ) → (x < length needs) ⊎ (length needs ≤ x) → 0 < times x (row users j) → x < length needs
    at x (inl lt) some = lt
    at x (inr past) some = absurd (omega (arith, some, same x j ∙ ap (times j) (row-past needs x past)))

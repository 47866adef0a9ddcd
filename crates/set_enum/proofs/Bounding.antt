-- Bounds, and the clauses that close a size.
use Rattle.std.proofs.Common.{◌≡◌, ℕ, zero, suc, ◌+◌, ◌<◌, ◌≤◌, ◌⊎◌, inl, inr, Bool, true, false, not, ◌&&◌, ◌||◌, min, List, [], ◌∷◌}
use Rattle.std.proofs.Common.{length, get_or, refl, sym, ◌∙◌, ap, subst, arith, eqb, Some}
use Rattle.std.specs.Prelude.{IsTrue}
use Rattle.std.proofs.lemmas.Bool.{cases_lt, lt-ltb, le-ltb, eq-eqb, false≢true, not-true}
use Rattle.std.proofs.lemmas.List.{get_or-map, length-map}
use Rattle.std.proofs.lemmas.List.Elements.{All-nil, All-cons, All-head}
use Rattle.loc_base.proofs.ShelfBools.{or-false}
use Rattle.clause_base.specs.declared.literal.Lit.{Lit}
use Rattle.clause_base.specs.Literal.{positive, opposite, same_lit, has, has_variable, has_distinct_variables, IsWithin}
use Rattle.clause_base.specs.Satisfaction.{value_of, is_satisfied}
use Rattle.clause_base.specs.Counted.{EndsASize}
use Rattle.clause_base.proofs.Sets.{same_lit-true, same_lit_itself, opposite-opposite}
use Rattle.card_counter.specs.Places.{starts, at_least}
use Rattle.sat_core.specs.SolverState.{MakesTrue}
use Rattle.set_enum.specs.Sets.{numbers_from}
use Rattle.set_enum.specs.Bounds.{bound_at, bound_of, bounds_of}
use Rattle.set_enum.specs.Standing.{assumed, next_size}
use Rattle.set_enum.proofs.Selecting.{numbers-at, numbers-length}

-- a counter has a variable for each selector at least
pub one-counter : (n k : ℕ) → 1 ≤ n → 1 ≤ starts k (n + 1)
one-counter zero k h = absurd (omega (arith, h))
one-counter (suc n) k h = let e : suc n + 1 ≡ suc (suc n) = omega arith in rw e (omega arith)

pub assumed-some : (n k j : ℕ) → j < n → assumed n k j ≡ opposite (bound_at n k j) ∷ []
assumed-some n k j l = rw (lt-ltb j n l) refl

pub assumed-none : (n k j : ℕ) → n ≤ j → assumed n k j ≡ []
assumed-none n k j l = rw (le-ltb j n l) refl

pub bound-some : (n k j : ℕ) → j < n → bound_of n k j ≡ Some (bound_at n k j)
bound-some n k j l = rw (lt-ltb j n l) refl

-- the value of a bound alone
pub bound-value : (a : ℕ → Bool) (v : ℕ) → is_satisfied a (positive v ∷ []) ≡ a v
bound-value a v = or-false (a v)

denied : (a : ℕ → Bool) (v : ℕ) → a v ≡ false → value_of a (opposite (positive v)) ≡ true
denied a v e = rw e refl

-- an assignment meets what is assumed at j where the bound at j is false
pub meets_assumed : (n k j : ℕ) (a : ℕ → Bool) → (j < n → a (at_least (n + 1) k n (j + 1)) ≡ false) → MakesTrue a (assumed n k j)
meets_assumed n k j a h = elim (cases_lt j n) [
  | inl l ↦ subst (MakesTrue a) (sym (assumed-some n k j l))
      (All-cons (λ x. IsTrue (value_of a x)) (opposite (bound_at n k j)) [] (denied a (at_least (n + 1) k n (j + 1)) (h l))
      (All-nil (λ x. IsTrue (value_of a x))))
  | inr g ↦ subst (MakesTrue a) (sym (assumed-none n k j g)) (All-nil (λ x. IsTrue (value_of a x)))
]

-- and only there
pub assumed_met : (n k j : ℕ) (a : ℕ → Bool) → MakesTrue a (assumed n k j) → j < n → a (at_least (n + 1) k n (j + 1)) ≡ false
assumed_met n k j a h l =
    not-true (a (at_least (n + 1) k n (j + 1)))
    (All-head (λ x. IsTrue (value_of a x)) (opposite (bound_at n k j)) [] (subst (MakesTrue a) (assumed-some n k j l) h))

-- what is assumed is over the form's variables
pub assumed-within : (n k j vars : ℕ) → j ≤ k → n + starts k (n + 1) ≤ vars → IsWithin vars (assumed n k j)
assumed-within n k j vars size fits = elim (cases_lt j n) [
  | inl l ↦ subst (IsWithin vars) (sym (assumed-some n k j l))
      (All-cons (λ x. (1 ≤ x.var) × (x.var ≤ vars)) (opposite (bound_at n k j)) [] (low, high l)
      (All-nil (λ x. (1 ≤ x.var) × (x.var ≤ vars))))
  | inr g ↦ subst (IsWithin vars) (sym (assumed-none n k j g)) (All-nil (λ x. (1 ≤ x.var) × (x.var ≤ vars)))
]
  where
    low : 1 ≤ at_least (n + 1) k n (j + 1)
    low = omega arith

    row : starts k (n + 1) ≡ starts k n + min n (k + 1)
    row = let e : n + 1 ≡ suc n = omega arith in ap (starts k) e

    high : j < n → at_least (n + 1) k n (j + 1) ≤ vars
    high l = omega (arith, fits, row, size, l)

-- a clause that closes the size j: it is empty, or the bound at j alone
abbrev pub EndsAt : ℕ → ℕ → ℕ → List Lit → Type 0
EndsAt n k j clause = (clause ≡ []) ⊎ ((j < n) × (clause ≡ bound_at n k j ∷ []))

-- a clause of distinct variables all of whose literals are one
pub one_literal : (x : Lit) (clause : List Lit) → has_distinct_variables clause ≡ true → ((l : Lit) → has clause l ≡ true → l ≡ x)
    → (clause ≡ []) ⊎ (clause ≡ x ∷ [])
one_literal x [] d h = inl refl
one_literal x (l ∷ []) d h = inr (ap (λ (y : Lit). y ∷ []) (h l (rw (same_lit_itself l) refl)))
one_literal x (l ∷ m ∷ rest) d h =
    let here : l ≡ x = h l (rw (same_lit_itself l) refl) in
    let there : m ≡ x = h m (second (same_lit l m) (same_lit m m) (has rest m) (same_lit_itself m)) in
    let same : eqb m.var l.var ≡ true = eq-eqb m.var l.var (ap (λ (y : Lit). y.var) (there ∙ sym here)) in
    absurd (false≢true (twice (eqb m.var l.var) (has_variable rest l.var) (has_distinct_variables (m ∷ rest)) same ∙ d))
  where
    second : (a b e : Bool) → b ≡ true → (a || (b || e)) ≡ true
    second true b e t = refl
    second false b e t = rw t refl

    twice : (a b e : Bool) → a ≡ true → false ≡ (not (a || b) && e)
    twice a b e t = rw t refl

-- a clause of negated assumptions closes the size
pub refuted-clause : (n k j : ℕ) (clause : List Lit) → has_distinct_variables clause ≡ true
    → ((l : Lit) → has clause l ≡ true → has (assumed n k j) (opposite l) ≡ true) → EndsAt n k j clause
refuted-clause n k j clause d h = elim (cases_lt j n) [ inl l ↦ some l | inr g ↦ inl (none clause g h) ]
  where
    only : (b l : Lit) → has (opposite b ∷ []) (opposite l) ≡ true → l ≡ b
    only b l t =
        let e : opposite b ≡ opposite l = same_lit-true (opposite b) (opposite l)
        (sym (or-false (same_lit (opposite b) (opposite l))) ∙ t) in
        sym (opposite-opposite l) ∙ (ap opposite (sym e) ∙ opposite-opposite b)

    some : j < n → EndsAt n k j clause
    some l = elim (one_literal (bound_at n k j) clause d (λ x t. only (bound_at n k j) x
        (subst (λ (ls : List Lit). has ls (opposite x) ≡ true) (assumed-some n k j l) (h x t)))) [
          | inl e ↦ inl e
          | inr e ↦ inr (l, e)
        ]

    none : (c : List Lit) → n ≤ j → ((l : Lit) → has c l ≡ true → has (assumed n k j) (opposite l) ≡ true) → c ≡ []
    none [] g f = refl
    none (x ∷ c) g f = absurd (false≢true (subst (λ (ls : List Lit). has ls (opposite x) ≡ true) (assumed-none n k j g)
        (f x (rw (same_lit_itself x) refl))))

-- such a clause ends a size
pub ends_a_size : (n k j : ℕ) (clause : List Lit) → j ≤ k → EndsAt n k j clause → EndsASize (bounds_of n k) clause
ends_a_size n k j clause size h = elim h [ inl e ↦ inl e | inr r ↦ inr (some r.0 r.1) ]
  where
    long : j < n → j < min n (k + 1)
    long l = omega (arith, l, size)

    some : j < n → clause ≡ bound_at n k j ∷ []
        → (i : ℕ) × (i < length (bounds_of n k)) × (clause ≡ get_or (bounds_of n k) i (positive 0) ∷ [])
    some l e =
        let count : length (numbers_from 0 (min n (k + 1))) ≡ min n (k + 1) = numbers-length 0 (min n (k + 1)) in
        let whole : length (bounds_of n k) ≡ length (numbers_from 0 (min n (k + 1))) = length-map (numbers_from 0 (min n (k + 1)))
        (bound_at n k) in
        let at : get_or (bounds_of n k) j (positive 0) ≡ bound_at n k (get_or (numbers_from 0 (min n (k + 1))) j 0) =
        get_or-map (bound_at n k) (numbers_from 0 (min n (k + 1))) j 0 (positive 0) (omega (arith, long l, count)) in
        let number : get_or (numbers_from 0 (min n (k + 1))) j 0 ≡ j = numbers-at 0 (min n (k + 1)) j 0 (long l) ∙ omega arith in
        (j, omega (arith, long l, count, whole), e ∙ ap (λ (b : Lit). b ∷ []) (sym (at ∙ ap (bound_at n k) number)))

-- the size after it
pub next-size : (n k j : ℕ) (clause : List Lit) → j ≤ k → EndsAt n k j clause
    → (j + 1 ≤ next_size k j clause) × (next_size k j clause ≤ k + 1)
next-size n k j [] size h = (omega (arith, size), omega arith)
next-size n k j (l ∷ clause) size h = (omega arith, omega (arith, size))

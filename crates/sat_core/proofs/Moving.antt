-- Literals in another order: they are the same literals, and their variables are distinct still.
use Rattle.std.proofs.Common.{◌≡◌, ℕ, ◌+◌, ◌≤◌, Bool, true, false, not, ◌||◌, eqb, if◌then◌else◌, List, [], ◌∷◌, refl, sym, ap, ◌∙◌, subst, arith, ⊎_elim}
use Rattle.std.specs.Prelude.{IsPermutation}
use Rattle.std.proofs.lemmas.Bool.{both_ways, cases_eq, eq-eqb, ne_eqb, and_parts, and_from, or_parts, not_from_false, not-true}
use Rattle.std.proofs.lemmas.List.Recursion.{is_count_by}
use Rattle.std.proofs.lemmas.List.Sorted.{sum_by-IsPermutation}
use Rattle.clause_base.specs.declared.literal.Lit.{Lit}
use Rattle.clause_base.specs.Literal.{same_lit, has, has_variable, has_distinct_variables}

-- whether some literal passes a test
abbrev some_passes : (Lit → Bool) → List Lit → Bool
some_passes p [] = false
some_passes p (x ∷ xs) = p x || some_passes p xs

has-passes : (ls : List Lit) (m : Lit) → has ls m ≡ some_passes (λ x. same_lit x m) ls
has-passes [] m = refl
has-passes (x ∷ xs) m = ap (λ b. same_lit x m || b) (has-passes xs m)

-- a literal is of a variable
abbrev is_of : ℕ → Lit → Bool
is_of v x = eqb x.var v

has_variable-passes : (ls : List Lit) (v : ℕ) → has_variable ls v ≡ some_passes (is_of v) ls
has_variable-passes [] v = refl
has_variable-passes (x ∷ xs) v = ap (λ b. eqb x.var v || b) (has_variable-passes xs v)

-- how many literals pass a test
abbrev number : (Lit → Bool) → List Lit → ℕ
number p [] = 0
number p (x ∷ xs) = if p x then 1 + number p xs else number p xs

number-moved : (p : Lit → Bool) (xs ys : List Lit) → IsPermutation xs ys → number p ys ≡ number p xs
number-moved p xs ys moved =
    is_count_by (number p) p refl (λ x rest. refl) ys
    ∙ (sum_by-IsPermutation (λ x. if p x then 1 else 0) xs ys moved
    ∙ sym (is_count_by (number p) p refl (λ x rest. refl) xs))

number-none : (p : Lit → Bool) (ls : List Lit) → some_passes p ls ≡ false → number p ls ≡ 0
number-none p [] none = refl
number-none p (x ∷ xs) none =
    let parts = or_parts (p x) (some_passes p xs) none in
    ap (λ b. if b then 1 + number p xs else number p xs) parts.0 ∙ number-none p xs parts.1

none-number : (p : Lit → Bool) (ls : List Lit) → number p ls ≡ 0 → some_passes p ls ≡ false
none-number p [] is = refl
none-number p (x ∷ xs) is = at (p x) is (none-number p xs)
  where
    at : (b : Bool) → (if b then 1 + number p xs else number p xs) ≡ 0
        → (number p xs ≡ 0 → some_passes p xs ≡ false) → (b || some_passes p xs) ≡ false
    at true more rest = absurd (omega (arith, more))
    at false none rest = rest none

passes-moved : (p : Lit → Bool) (xs ys : List Lit) → IsPermutation xs ys → some_passes p ys ≡ some_passes p xs
passes-moved p xs ys moved = at (some_passes p xs) (some_passes p ys) refl refl
  where
    same : number p ys ≡ number p xs
    same = number-moved p xs ys moved

    at : (a b : Bool) → some_passes p xs ≡ a → some_passes p ys ≡ b → b ≡ a
    at true true one other = refl
    at false false one other = refl
    at true false one other =
        absurd (both_ways (some_passes p xs) (none-number p xs (sym same ∙ number-none p ys other)) one)
    at false true one other =
        absurd (both_ways (some_passes p ys) (none-number p ys (same ∙ number-none p xs one)) other)

pub has-moved : (xs ys : List Lit) (m : Lit) → IsPermutation xs ys → has ys m ≡ has xs m
has-moved xs ys m moved =
    has-passes ys m ∙ (passes-moved (λ x. same_lit x m) xs ys moved ∙ sym (has-passes xs m))

-- at most one literal of distinct ones is of a variable
number-distinct : (ls : List Lit) (v : ℕ) → has_distinct_variables ls ≡ true → number (is_of v) ls ≤ 1
number-distinct [] v distinct = omega (arith)
number-distinct (x ∷ xs) v distinct =
    let parts = and_parts (not (has_variable xs x.var)) (has_distinct_variables xs) distinct in
    let rest = number (is_of v) xs in
    ⊎_elim
    (λ e. let first = ap (λ b. if b then 1 + rest else rest) (eq-eqb x.var v e) in
    let lacks : has_variable xs v ≡ false =
    ap (has_variable xs) (sym e) ∙ not-true (has_variable xs x.var) parts.0 in
    let none : rest ≡ 0 = number-none (is_of v) xs (sym (has_variable-passes xs v) ∙ lacks) in
    omega (arith, first, none))
    (λ n. let later = ap (λ b. if b then 1 + rest else rest) (ne_eqb x.var v n) in
    let few : rest ≤ 1 = number-distinct xs v parts.1 in
    omega (arith, later, few))
    (cases_eq x.var v)

distinct-few : (ls : List Lit) → ((v : ℕ) → number (is_of v) ls ≤ 1) → has_distinct_variables ls ≡ true
distinct-few [] few = refl
distinct-few (x ∷ xs) few =
    and_from (not (has_variable xs x.var)) (has_distinct_variables xs)
    (not_from_false (has_variable xs x.var) apart) (distinct-few xs (λ v. at v (eqb x.var v) (few v)))
  where
    at : (v : ℕ) (b : Bool) → (if b then 1 + number (is_of v) xs else number (is_of v) xs) ≤ 1
        → number (is_of v) xs ≤ 1
    at v true h = omega (arith, h)
    at v false h = h

    none : (b : Bool) → b ≡ true
        → (if b then 1 + number (is_of x.var) xs else number (is_of x.var) xs) ≤ 1 → number (is_of x.var) xs ≡ 0
    none true is h = omega (arith, h)
    none false is h = absurd (both_ways false refl is)

    apart : has_variable xs x.var ≡ false
    apart =
        has_variable-passes xs x.var
        ∙ none-number (is_of x.var) xs (none (eqb x.var x.var) (eq-eqb x.var x.var refl) (few x.var))

pub distinct-moved : (xs ys : List Lit) → IsPermutation xs ys → has_distinct_variables xs ≡ true
    → has_distinct_variables ys ≡ true
distinct-moved xs ys moved distinct = distinct-few ys (λ v.
    subst (λ n. n ≤ 1) (sym (number-moved (is_of v) xs ys moved)) (number-distinct xs v distinct))

-- Lists of ascending numbers.
use Rattle.std.proofs.Common.{ℕ, zero, suc, ◌+◌, ◌<◌, ◌≤◌, Bool, List, [], ◌∷◌, get_or, sym, subst, arith, inl, inr, add-one}
use Rattle.std.specs.Prelude.{All}
use Rattle.std.specs.List.Sorted.{IsStrictlyIncreasing}
use Rattle.std.proofs.lemmas.Bool.{cases_Bool, cond-true, cond-false}
use Rattle.std.proofs.lemmas.List.Elements.{All-nil, All-cons}
use Rattle.suspect_map.specs.Groups.{numbers_at}

-- one before those that are above it
pub ascending-cons : (x : ℕ) (xs : List ℕ) → All (λ y. x < y) xs → IsStrictlyIncreasing xs → IsStrictlyIncreasing (x ∷ xs)
ascending-cons x xs above rest zero within = above 0 0 (omega (arith, within))
ascending-cons x xs above rest (suc k) within = rw add-one (rw add-one at (rest k (omega (arith, within))))

-- the numbers behind the first
pub ascending-tail : (x : ℕ) (xs : List ℕ) → IsStrictlyIncreasing (x ∷ xs) → IsStrictlyIncreasing xs
ascending-tail x xs all k within = rw add-one (rw add-one at (all (suc k) (omega (arith, within))))

-- the first is below the rest
pub ascending-head : (x : ℕ) (xs : List ℕ) → IsStrictlyIncreasing (x ∷ xs) → All (λ y. x < y) xs
ascending-head x [] all = All-nil _
ascending-head x (y ∷ ys) all =
    let first : x < y = all 0 (omega arith) in
    let later : All (λ z. y < z) ys = ascending-head y ys (ascending-tail x (y ∷ ys) all) in
    All-cons (λ z. x < z) y ys first (λ k d within. let above : y < get_or ys k d = later k d within in omega arith)

-- each number is one of the list's, or behind
pub numbers_at-from : {A : Type 0} (test : A → Bool) (at : ℕ) (xs : List A) (least : ℕ) → least ≤ at → All (λ number. least ≤ number) (numbers_at test at xs)
numbers_at-from test at [] least from = All-nil _
numbers_at-from test at (x ∷ xs) least from =
    let later : All (λ number. least ≤ number) (numbers_at test (at + 1) xs) = numbers_at-from test (at + 1) xs least (omega (arith, from)) in
    elim (cases_Bool (test x)) [
      | inl e ↦ subst (All (λ number. least ≤ number)) (sym (cond-true _ _ _ e)) (All-cons (λ number. least ≤ number) at (numbers_at test (at + 1) xs) from later)
      | inr e ↦ subst (All (λ number. least ≤ number)) (sym (cond-false _ _ _ e)) later
    ]

-- and they ascend
pub numbers_at-ascend : {A : Type 0} (test : A → Bool) (at : ℕ) (xs : List A) → IsStrictlyIncreasing (numbers_at test at xs)
numbers_at-ascend test at [] = λ k within. absurd (omega (arith, within))
numbers_at-ascend test at (x ∷ xs) =
    let later : IsStrictlyIncreasing (numbers_at test (at + 1) xs) = numbers_at-ascend test (at + 1) xs in
    let above : All (λ number. at + 1 ≤ number) (numbers_at test (at + 1) xs) = numbers_at-from test (at + 1) xs (at + 1) (omega arith) in
    elim (cases_Bool (test x)) [
      | inl e ↦ subst IsStrictlyIncreasing (sym (cond-true _ _ _ e))
          (ascending-cons at (numbers_at test (at + 1) xs) (λ k d within. let h : at + 1 ≤ get_or (numbers_at test (at + 1) xs) k d = above k d within in omega arith) later)
      | inr e ↦ subst IsStrictlyIncreasing (sym (cond-false _ _ _ e)) later
    ]

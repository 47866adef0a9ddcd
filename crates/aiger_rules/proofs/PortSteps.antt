-- The ports, row by row.
use Rattle.std.proofs.Common.{◌≡◌, ℕ, zero, suc, ◌+◌, ◌-◌, ◌<◌, ◌≤◌, Bool, true, false, List, [], ◌∷◌, ◌++◌, map, Some, None, refl, sym, ◌∙◌, ap, arith, append_assoc, inl, inr}
use Rattle.std.specs.List.{range_with_len}
use Rattle.std.proofs.lemmas.Bool.{cases_lt, cond-true, cond-false}
use Rattle.std.proofs.lemmas.List.{map-append, append-nil}
use Rattle.std.proofs.lemmas.List.FromFn.{map-range_with_len_more}
use Rattle.aiger_rules.specs.First.{first_at}

-- the first of some numbers that passes a test
pub first_at-range : (test : ℕ → Bool) (at n row : ℕ) → at ≤ row → row < at + n → test row ≡ true → ((k : ℕ) → k < row → test k ≡ false)
    → first_at test at (range_with_len at n) ≡ Some row
first_at-range test at zero row from below here before = absurd (omega arith)
first_at-range test at (suc n) row from below here before =
    elim (cases_lt at row) [
      | inl later ↦ cond-false _ _ _ (before at later) ∙ first_at-range test (at + 1) n row (omega (arith, later)) (omega arith) here before
      | inr le ↦
          let is : at ≡ row = omega (arith, from, le) in
          cond-true _ _ _ (ap test is ∙ here) ∙ ap Some is
    ]

-- none of them does
pub first_at-none : (test : ℕ → Bool) (at n : ℕ) → ((k : ℕ) → k < at + n → test k ≡ false) → first_at test at (range_with_len at n) ≡ None
first_at-none test at zero none = refl
first_at-none test at (suc n) none =
    cond-false _ _ _ (none at (omega arith)) ∙ first_at-none test (at + 1) n (λ k below. none k (omega (arith, below)))

-- one row more
pub push-range : {X : Type 0} (f : ℕ → X) (from row : ℕ) (first old new : List X) → from ≤ row → old ≡ first ++ map f (range_with_len from (row - from))
    → new ≡ old ++ f row ∷ [] → new ≡ first ++ map f (range_with_len from (row + 1 - from))
push-range f from row first old new above is pushed =
    pushed ∙ ap (λ xs. xs ++ f row ∷ []) is ∙ append_assoc first (map f (range_with_len from (row - from))) (f row ∷ [])
    ∙ ap (λ xs. first ++ xs) (sym (map-range_with_len_more f from (row - from) row (omega arith)))
    ∙ ap (λ n. first ++ map f (range_with_len from n)) (omega arith)

-- none yet
pub push-none : {X : Type 0} (f : ℕ → X) (from : ℕ) (first : List X) → first ≡ first ++ map f (range_with_len from (from - from))
push-none f from first =
    let none : from - from ≡ zero = omega arith in
    sym (ap (λ n. first ++ map f (range_with_len from n)) none ∙ append-nil first)

-- three ranges
pub map-three : {X : Type 0} (f : ℕ → X) (first : List X) (a b c : List ℕ)
    → ((first ++ map f a) ++ map f b) ++ map f c ≡ first ++ map f (a ++ b ++ c)
map-three f first a b c =
    ap (λ xs. xs ++ map f c) (append_assoc first (map f a) (map f b)) ∙ append_assoc first (map f a ++ map f b) (map f c)
    ∙ ap (λ xs. first ++ (xs ++ map f c)) (sym (map-append f a b)) ∙ ap (λ xs. first ++ xs) (sym (map-append f (a ++ b) c))

pub ruleset input_steps = (first_at-range, first_at-none)

pub ruleset range_steps = (push-none)

pub ruleset list_steps = (map-three)

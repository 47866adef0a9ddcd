-- A counter's clauses make its counters true, and so its bounds are bounds.
use Rattle.std.proofs.Common.{◌≡◌, ℕ, zero, suc, ◌+◌, ◌<◌, ◌≤◌, Bool, true, false, List, [], ◌∷◌, ◌++◌, length, refl, sym, ◌∙◌, ap, subst, arith, inl, inr}
use Rattle.std.specs.Prelude.{◌-◌, cond, count_by}
use Rattle.std.proofs.lemmas.Bool.{cases_lt, false≢true}
use Rattle.std.proofs.lemmas.List.Sums.{sum_by-cons}
use Rattle.clause_base.specs.declared.literal.Lit.{Lit}
use Rattle.clause_base.specs.Satisfaction.{value_of, Satisfies}
use Rattle.card_counter.specs.Places.{width, starts, at_least}
use Rattle.card_counter.specs.Counter.{pairs, counter_from, counter_clauses}
use Rattle.card_counter.specs.Means.{true_count}
use Rattle.card_counter.proofs.Said.{PairSays, pairs-say, satisfies-front, satisfies-behind}

-- one for what is true
abbrev pub one_if : Bool → ℕ
one_if b = cond b 1 0

pub one_if-true : (b : Bool) → b ≡ true → one_if b ≡ 1
one_if-true true is = refl
one_if-true false is = absurd (false≢true is)

pub one_if-false : (b : Bool) → b ≡ false → one_if b ≡ 0
one_if-false true is = absurd (false≢true (sym is))
one_if-false false is = refl

-- one selector before others
pub true_count-cons : (a : ℕ → Bool) (x : Lit) (xs : List Lit) → true_count a (x ∷ xs) ≡ one_if (value_of a x) + true_count a xs
true_count-cons a x xs = sum_by-cons (λ y. one_if (value_of a y)) x xs

-- each counter of i selectors up to a number is true
abbrev Reaches : (ℕ → Bool) → ℕ → ℕ → ℕ → ℕ → Type 0
Reaches a first k i count = (m : ℕ) → 1 ≤ m → m ≤ width k i → m ≤ count → a (at_least first k i m) ≡ true

module _ (a : ℕ → Bool) (first k : ℕ) where
  -- one selector more
  reaches-next : (i count : ℕ) (x : Lit) → count ≤ i → Reaches a first k i count → ((m : ℕ) → 1 ≤ m → m < 1 + width k (i + 1) → PairSays a first k i x m)
      → Reaches a first k (i + 1) (count + one_if (value_of a x))
  reaches-next i count x few reaches says m positive within below =
      let s : PairSays a first k i x m = says m positive (omega (arith, within)) in
      elim (cases_lt count m) [
        | inr carried ↦ s.carry (omega (arith, carried, few, within)) (reaches m positive (omega (arith, carried, few, within)) carried)
        | inl more ↦ at s more (value_of a x) refl
      ]
    where
      at : PairSays a first k i x m → count < m → (b : Bool) → value_of a x ≡ b → a (at_least first k (i + 1) m) ≡ true
      at s more false is = let none : one_if (value_of a x) ≡ 0 = one_if-false (value_of a x) is in absurd (omega (arith, below, more, none))
      at s more true is =
          let one : one_if (value_of a x) ≡ 1 = one_if-true (value_of a x) is in
          elim (cases_lt 1 m) [
            | inl later ↦ s.next later is (reaches (m - 1) (omega (arith, later)) (omega (arith, within)) (omega (arith, below, one)))
            | inr first ↦ s.begin first is
          ]

  -- all selectors
  reaches-all : (xs : List Lit) (i count : ℕ) → count ≤ i → Reaches a first k i count → Satisfies a (counter_from first k i xs)
      → Reaches a first k (i + length xs) (count + true_count a xs)
  reaches-all [] i count few reaches all m positive within below =
      subst (λ n. a (at_least first k n m) ≡ true) (omega arith) (reaches m positive (subst (λ n. m ≤ width k n) (omega arith) within) (omega (arith, below)))
  reaches-all (x ∷ xs) i count few reaches all m positive within below =
      let row : Satisfies a (pairs first k i x 1 (width k (i + 1))) = satisfies-front a _ (counter_from first k (i + 1) xs) all in
      let behind : Satisfies a (counter_from first k (i + 1) xs) = satisfies-behind a (pairs first k i x 1 (width k (i + 1))) (counter_from first k (i + 1) xs) all in
      let next : Reaches a first k (i + 1) (count + one_if (value_of a x)) = reaches-next i count x few reaches (pairs-say a first k i x 1 (width k (i + 1)) row) in
      let long : i + 1 + length xs ≡ i + length (x ∷ xs) = omega arith in
      subst (λ n. a (at_least first k n m) ≡ true) long
      (reaches-all xs (i + 1) (count + one_if (value_of a x)) (few-next (value_of a x)) next behind m positive (subst (λ n. m ≤ width k n) (sym long) within) (omega (arith, below, true_count-cons a x xs)))
    where
      few-next : (b : Bool) → count + one_if b ≤ i + 1
      few-next true = omega (arith, few)
      few-next false = omega (arith, few)

  -- where the bound at j is false, at most j are true
  pub bounded : (selectors : List Lit) → Satisfies a (counter_clauses selectors k first) → (j : ℕ) → j ≤ k → j < length selectors
      → a (at_least first k (length selectors) (j + 1)) ≡ false → true_count a selectors ≤ j
  bounded selectors all j size more bound =
      elim (cases_lt j (true_count a selectors)) [
        | inr few ↦ few
        | inl many ↦
            let none : Reaches a first k 0 0 = λ m positive within below. absurd (omega (arith, positive, below)) in
            let start : 0 + length selectors ≡ length selectors = omega arith in
            let reached : a (at_least first k (0 + length selectors) (j + 1)) ≡ true =
            reaches-all selectors 0 0 (omega arith) none all (j + 1) (omega arith) (omega (arith, size, more)) (omega (arith, many)) in
            absurd (false≢true (sym bound ∙ ap (λ n. a (at_least first k n (j + 1))) (sym start) ∙ reached))
      ]

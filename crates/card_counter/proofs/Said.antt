-- What the clauses of one counter say, and those of a row.
use Rattle.std.proofs.Common.{◌≡◌, ℕ, zero, suc, ◌+◌, ◌<◌, ◌≤◌, Bool, true, false, not, ◌||◌, List, [], ◌∷◌, ◌++◌, length, get_or, refl, sym, ◌∙◌, ap, subst, arith, inl, inr}
use Rattle.std.specs.Prelude.{◌-◌, All, IsTrue, nat_le}
use Rattle.std.proofs.lemmas.Bool.{cases_Bool, cond-true, cond-false, false≢true, leb-true, leb-false, le-leb, lt-leb, or_cases, or_left, or_right}
use Rattle.std.proofs.lemmas.List.Elements.{All-nil, All-cons, All-head, All-tail, All-append}
use Rattle.clause_base.specs.declared.literal.Lit.{Lit}
use Rattle.clause_base.specs.Literal.{positive, negative, opposite}
use Rattle.clause_base.specs.Satisfaction.{value_of, is_satisfied, Satisfies, SatisfiesClause}
use Rattle.card_counter.specs.Places.{width, starts, at_least}
use Rattle.card_counter.specs.Counter.{carries, counts_on, pair, pairs}

-- the front of a list whose elements all hold
All-front : {A : Type 0} (P : A → Type 0) (xs ys : List A) → All P (xs ++ ys) → All P xs
All-front P [] ys all = All-nil P
All-front P (x ∷ xs) ys all = All-cons P x xs (All-head P x (xs ++ ys) all) (All-front P xs ys (All-tail P x (xs ++ ys) all))

-- and the rest
All-behind : {A : Type 0} (P : A → Type 0) (xs ys : List A) → All P (xs ++ ys) → All P ys
All-behind P [] ys all = all
All-behind P (x ∷ xs) ys all = All-behind P xs ys (All-tail P x (xs ++ ys) all)

-- clauses are satisfied where both parts of them are
pub satisfies-front : (a : ℕ → Bool) (xs ys : List (List Lit)) → Satisfies a (xs ++ ys) → Satisfies a xs
satisfies-front a xs ys all = All-front (SatisfiesClause a) xs ys all

pub satisfies-behind : (a : ℕ → Bool) (xs ys : List (List Lit)) → Satisfies a (xs ++ ys) → Satisfies a ys
satisfies-behind a xs ys all = All-behind (SatisfiesClause a) xs ys all

pub satisfies-both : (a : ℕ → Bool) (xs ys : List (List Lit)) → Satisfies a xs → Satisfies a ys → Satisfies a (xs ++ ys)
satisfies-both a xs ys one other = All-append (SatisfiesClause a) xs ys one other

-- a literal and its opposite
value_of-opposite : (a : ℕ → Bool) (l : Lit) → value_of a (opposite l) ≡ not (value_of a l)
value_of-opposite a l = signs l.negated (a l.var)
  where
    signs : (negated value : Bool) → value_of (λ _. value) (record { var = 0; negated = not negated }) ≡ not (value_of (λ _. value) (record { var = 0; negated = negated }))
    signs true true = refl
    signs true false = refl
    signs false value = refl

-- of `not p` and `q`, where p holds, q does
implied : (p q : Bool) → (not p || (q || false)) ≡ true → p ≡ true → q ≡ true
implied true true holds p = refl
implied true false holds p = holds
implied false q holds p = absurd (false≢true p)

implies : (p q : Bool) → (p ≡ true → q ≡ true) → (not p || (q || false)) ≡ true
implies true q holds = or_left q false (holds refl)
implies false q holds = refl

implied-both : (p q r : Bool) → (not p || (not q || (r || false))) ≡ true → p ≡ true → q ≡ true → r ≡ true
implied-both true q r holds p also = implied q r holds also
implied-both false q r holds p also = absurd (false≢true p)

implies-both : (p q r : Bool) → (p ≡ true → q ≡ true → r ≡ true) → (not p || (not q || (r || false))) ≡ true
implies-both true q r holds = implies q r (holds refl)
implies-both false q r holds = refl

-- what the clauses of s(i + 1, m) say
pub record PairSays (a : ℕ → Bool) (first k i : ℕ) (x : Lit) (m : ℕ) : Type 0 where
  pub carry : m ≤ width k i → a (at_least first k i m) ≡ true → a (at_least first k (i + 1) m) ≡ true
  pub begin : m ≤ 1 → value_of a x ≡ true → a (at_least first k (i + 1) m) ≡ true
  pub next : 1 < m → value_of a x ≡ true → a (at_least first k i (m - 1)) ≡ true → a (at_least first k (i + 1) m) ≡ true

module _ (a : ℕ → Bool) (first k i : ℕ) (x : Lit) (m : ℕ) where
  carries-say : Satisfies a (carries first k i m) → m ≤ width k i → a (at_least first k i m) ≡ true → a (at_least first k (i + 1) m) ≡ true
  carries-say all within is =
      let there : Satisfies a ((negative (at_least first k i m) ∷ positive (at_least first k (i + 1) m) ∷ []) ∷ []) =
      subst (Satisfies a) (cond-true _ _ _ (le-leb m (width k i) within)) all in
      implied (a (at_least first k i m)) (a (at_least first k (i + 1) m)) (All-head (SatisfiesClause a) _ [] there) is

  carries-hold : (m ≤ width k i → a (at_least first k i m) ≡ true → a (at_least first k (i + 1) m) ≡ true) → Satisfies a (carries first k i m)
  carries-hold says =
      elim (cases_Bool (nat_le m (width k i))) [
        | inl e ↦ subst (Satisfies a) (sym (cond-true _ _ _ e))
            (All-cons (SatisfiesClause a) (negative (at_least first k i m) ∷ positive (at_least first k (i + 1) m) ∷ []) []
            (implies (a (at_least first k i m)) (a (at_least first k (i + 1) m)) (says (leb-true m (width k i) e))) (All-nil (SatisfiesClause a)))
        | inr e ↦ subst (Satisfies a) (sym (cond-false _ _ _ e)) (All-nil (SatisfiesClause a))
      ]

  begin-says : SatisfiesClause a (counts_on first k i x m) → m ≤ 1 → value_of a x ≡ true → a (at_least first k (i + 1) m) ≡ true
  begin-says holds small is =
      let there : SatisfiesClause a (opposite x ∷ positive (at_least first k (i + 1) m) ∷ []) = subst (SatisfiesClause a) (cond-true _ _ _ (le-leb m 1 small)) holds in
      implied (value_of a x) (a (at_least first k (i + 1) m)) (ap (λ v. v || (a (at_least first k (i + 1) m) || false)) (sym (value_of-opposite a x)) ∙ there) is

  next-says : SatisfiesClause a (counts_on first k i x m) → 1 < m → value_of a x ≡ true → a (at_least first k i (m - 1)) ≡ true → a (at_least first k (i + 1) m) ≡ true
  next-says holds more is also =
      let there : SatisfiesClause a (opposite x ∷ negative (at_least first k i (m - 1)) ∷ positive (at_least first k (i + 1) m) ∷ []) =
      subst (SatisfiesClause a) (cond-false _ _ _ (lt-leb m 1 more)) holds in
      implied-both (value_of a x) (a (at_least first k i (m - 1))) (a (at_least first k (i + 1) m))
      (ap (λ v. v || (not (a (at_least first k i (m - 1))) || (a (at_least first k (i + 1) m) || false))) (sym (value_of-opposite a x)) ∙ there) is also

  counts_on-holds : PairSays a first k i x m → SatisfiesClause a (counts_on first k i x m)
  counts_on-holds says =
      elim (cases_Bool (nat_le m 1)) [
        | inl e ↦ subst (SatisfiesClause a) (sym (cond-true _ _ _ e))
            (ap (λ v. v || (a (at_least first k (i + 1) m) || false)) (value_of-opposite a x)
            ∙ implies (value_of a x) (a (at_least first k (i + 1) m)) (says.begin (leb-true m 1 e)))
        | inr e ↦ subst (SatisfiesClause a) (sym (cond-false _ _ _ e))
            (ap (λ v. v || (not (a (at_least first k i (m - 1))) || (a (at_least first k (i + 1) m) || false))) (value_of-opposite a x)
            ∙ implies-both (value_of a x) (a (at_least first k i (m - 1))) (a (at_least first k (i + 1) m)) (says.next (leb-false m 1 e)))
      ]

  pub pair-says : Satisfies a (pair first k i x m) → PairSays a first k i x m
  pair-says all =
      let last : SatisfiesClause a (counts_on first k i x m) =
      All-head (SatisfiesClause a) (counts_on first k i x m) [] (satisfies-behind a (carries first k i m) (counts_on first k i x m ∷ []) all) in
      record {
        carry = carries-say (satisfies-front a (carries first k i m) (counts_on first k i x m ∷ []) all);
        begin = begin-says last;
        next = next-says last;
      }

  pub pair-holds : PairSays a first k i x m → Satisfies a (pair first k i x m)
  pair-holds says =
      satisfies-both a (carries first k i m) (counts_on first k i x m ∷ []) (carries-hold says.carry)
      (All-cons (SatisfiesClause a) (counts_on first k i x m) [] (counts_on-holds says) (All-nil (SatisfiesClause a)))

module _ (a : ℕ → Bool) (first k i : ℕ) (x : Lit) where
  -- and so of so many counters of a row
  pub pairs-say : (m count : ℕ) → Satisfies a (pairs first k i x m count) → (n : ℕ) → m ≤ n → n < m + count → PairSays a first k i x n
  pairs-say m zero all n from below = absurd (omega (arith, from, below))
  pairs-say m (suc count) all n from below =
      elim (cases_Bool (nat_le n m)) [
        | inl e ↦
            let h : n ≤ m = leb-true n m e in
            let same : m ≡ n = omega (arith, h, from) in
            subst (PairSays a first k i x) same (pair-says a first k i x m (satisfies-front a (pair first k i x m) (pairs first k i x (m + 1) count) all))
        | inr e ↦
            let h : m < n = leb-false n m e in
            pairs-say (m + 1) count (satisfies-behind a (pair first k i x m) (pairs first k i x (m + 1) count) all) n (omega (arith, h)) (omega (arith, below))
      ]

  pub pairs-hold : (m count : ℕ) → ((n : ℕ) → m ≤ n → n < m + count → PairSays a first k i x n) → Satisfies a (pairs first k i x m count)
  pairs-hold m zero says = All-nil (SatisfiesClause a)
  pairs-hold m (suc count) says =
      satisfies-both a (pair first k i x m) (pairs first k i x (m + 1) count) (pair-holds a first k i x m (says m (omega arith) (omega arith)))
      (pairs-hold (m + 1) count (λ n from below. says n (omega (arith, from)) (omega (arith, below))))

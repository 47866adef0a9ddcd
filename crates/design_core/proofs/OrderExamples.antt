-- Worked examples of orders: two numbers, of which the first depends on the second, or neither on the other, or each on
-- the other.
use Rattle.std.proofs.Common.{ℕ, ◌≡◌, [], ◌∷◌, refl, sym, subst, arith, ◌⊎◌, inl, inr, lit<}
use Rattle.std.specs.Prelude.{Contains}
use Rattle.loc_base.proofs.ShelfBools.{below_two}
use Rattle.loc_base.proofs.ShelfLists.{Contains-cons, Contains-empty, Contains-first, Contains-later}
use Rattle.design_core.specs.Order.{IsNext, IsLeastOrderOf, HasCircleOf}

both_there : (one other i : ℕ) → ((i ≡ one) ⊎ (i ≡ other)) → Contains (one ∷ other ∷ []) i
both_there one other i (inl e) = subst (Contains (one ∷ other ∷ [])) (sym e) (Contains-first one (other ∷ []))
both_there one other i (inr e) = subst (Contains (one ∷ other ∷ [])) (sym e) (Contains-later one (other ∷ []) other (Contains-first other []))

-- 0 depends on 1: 1 is taken first
abbrev pub On : ℕ → ℕ → Type 0
On i j = (i ≡ 0) × (j ≡ 1)

pub what_is_depended_on_comes_first : IsLeastOrderOf On 2 (1 ∷ 0 ∷ [])
what_is_depended_on_comes_first = record { next = (first, (second, tt)); complete = λ i below. both_there 1 0 i (turned (below_two i below)) }
  where
    turned : {A B : Type 0} → A ⊎ B → B ⊎ A
    turned (inl a) = inr a
    turned (inr b) = inl b

    first : IsNext On 2 [] 1
    first = record {
      within = lit< tt;
      ready = record { untaken = Contains-empty 1; met = λ j on. absurd (omega (arith, on.0)) };
      least = λ k below ready. Contains-empty 1 (ready.met 1 (omega (arith, below), refl));
    }

    apart : Contains {X = ℕ} (1 ∷ []) 0 → ⊥
    apart was = elim (Contains-cons 1 [] 0 was) [ inl e ↦ omega (arith, e) | inr none ↦ Contains-empty 0 none ]

    second : IsNext On 2 (1 ∷ []) 0
    second = record {
      within = lit< tt;
      ready = record { untaken = apart; met = λ j on. subst (Contains (1 ∷ [])) (sym on.1) (Contains-first 1 []) };
      least = λ k below ready. omega (arith, below);
    }

-- neither depends on the other: 0 is taken first
abbrev pub Free : ℕ → ℕ → Type 0
Free i j = ⊥

pub the_lesser_comes_first : IsLeastOrderOf Free 2 (0 ∷ 1 ∷ [])
the_lesser_comes_first = record { next = (first, (second, tt)); complete = λ i below. both_there 0 1 i (below_two i below) }
  where
    first : IsNext Free 2 [] 0
    first = record {
      within = lit< tt;
      ready = record { untaken = Contains-empty 0; met = λ j on. absurd on };
      least = λ k below ready. omega (arith, below);
    }

    apart : Contains {X = ℕ} (0 ∷ []) 1 → ⊥
    apart was = elim (Contains-cons 0 [] 1 was) [ inl e ↦ omega (arith, e) | inr none ↦ Contains-empty 1 none ]

    second : IsNext Free 2 (0 ∷ []) 1
    second = record {
      within = lit< tt;
      ready = record { untaken = apart; met = λ j on. absurd on };
      least = λ k below ready. ready.untaken (subst (Contains (0 ∷ [])) (omega (arith, below)) (Contains-first 0 []));
    }

-- each depends on the other: a circle
abbrev pub Each : ℕ → ℕ → Type 0
Each i j = ((i ≡ 0) × (j ≡ 1)) ⊎ ((i ≡ 1) × (j ≡ 0))

pub two_that_depend_on_each_other_are_a_circle : HasCircleOf Each 2
two_that_depend_on_each_other_are_a_circle =
    record { number = 0; path = 1 ∷ []; within = lit< tt; leads = (inl (refl, refl), inr (refl, refl)) }

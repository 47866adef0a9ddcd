-- Which pairs are among all: those of each two cycles for each place that is compared, and no others.
use Rattle.std.proofs.Common.{◌≡◌, ◌⊎◌, inl, inr, ℕ, zero, suc, ◌+◌, ◌-◌, ◌<◌, ◌≤◌, List, [], ◌∷◌, ◌++◌, length, subst, arith}
use Rattle.std.specs.Prelude.{All, Contains}
use Rattle.std.proofs.lemmas.Bool.{cases_lt}
use Rattle.std.proofs.lemmas.List.Elements.{All-nil, All-cons, All-append, Contains-append_left, Contains-append_right}
use Rattle.loc_base.proofs.ShelfLists.{Contains-empty, Contains-first, Contains-later, Contains-cons}
use Rattle.suspect_map.specs.declared.group.Group.{Group}
use Rattle.unroller.specs.Unrolls.{Unrolling}
use Rattle.pair_form.specs.declared.pair.Pair.{Pair}
use Rattle.pair_form.specs.declared.compared.Compared.{Compared}
use Rattle.pair_form.specs.AllPairs.{pair_at, pairs_with, pairs_among, all_pairs}

module _ (u : Unrolling) (groups : List Group) where
  -- ---- each two cycles

  with-there : (c : Compared) (one other more i : ℕ) → i < more
      → Contains (pairs_with u groups c one other more) (pair_at u groups c one (other + i))
  unfolding pairs_with
  with-there c one other zero i low = absurd (omega (arith, low))
  with-there c one other (suc more) zero low =
      let here : other ≡ other + 0 = omega arith in
      subst (λ n. Contains (pair_at u groups c one other ∷ pairs_with u groups c one (other + 1) more) (pair_at u groups c one n)) here
      (Contains-first (pair_at u groups c one other) (pairs_with u groups c one (other + 1) more))
  with-there c one other (suc more) (suc i) low =
      let next : other + 1 + i ≡ other + suc i = omega arith in
      subst (λ n. Contains (pair_at u groups c one other ∷ pairs_with u groups c one (other + 1) more) (pair_at u groups c one n)) next
      (Contains-later (pair_at u groups c one other) (pairs_with u groups c one (other + 1) more) (pair_at u groups c one (other + 1 + i))
      (with-there c one (other + 1) more i (omega (arith, low))))

  -- the first of some cycles with those after it, or the others among themselves
  among-step : (c : Compared) (first more s t : ℕ) → first ≤ s → s < t → t < first + suc more → (first < s) ⊎ (s ≤ first)
      → (first < s → Contains (pairs_among u groups c (first + 1) more) (pair_at u groups c s t))
      → Contains (pairs_with u groups c first (first + 1) more ++ pairs_among u groups c (first + 1) more) (pair_at u groups c s t)
  among-step c first more s t from apart below (inl later) behind =
      Contains-append_right (pairs_with u groups c first (first + 1) more) (pairs_among u groups c (first + 1) more) (pair_at u groups c s t)
      (behind later)
  among-step c first more s t from apart below (inr not_later) behind =
      let here = pairs_with u groups c first (first + 1) more in
      let rest = pairs_among u groups c (first + 1) more in
      let same : first ≡ s = omega (arith, from, not_later) in
      let at = t - (first + 1) in
      let place : first + 1 + at ≡ t = omega (arith, apart, same) in
      subst (λ n. Contains (here ++ rest) (pair_at u groups c n t)) same
      (subst (λ n. Contains (here ++ rest) (pair_at u groups c first n)) place
      (Contains-append_left here rest (pair_at u groups c first (first + 1 + at))
      (with-there c first (first + 1) more at (omega (arith, below, apart, same)))))

  among-there : (c : Compared) (first more s t : ℕ) → first ≤ s → s < t → t < first + more
      → Contains (pairs_among u groups c first more) (pair_at u groups c s t)
  unfolding pairs_among
  among-there c first zero s t from apart below = absurd (omega (arith, from, apart, below))
  among-there c first (suc more) s t from apart below =
      among-step c first more s t from apart below (cases_lt first s)
      (λ later. among-there c (first + 1) more s t (omega (arith, later)) apart (omega (arith, below)))

  all-step : (x : Compared) (compared : List Compared) (c : Compared) (s t : ℕ) → s < t → t < length u.ends → (x ≡ c) ⊎ Contains compared c
      → (Contains compared c → Contains (all_pairs u groups compared) (pair_at u groups c s t))
      → Contains (pairs_among u groups x 0 (length u.ends) ++ all_pairs u groups compared) (pair_at u groups c s t)
  all-step x compared c s t apart below (inl same) behind =
      let here = pairs_among u groups x 0 (length u.ends) in
      let rest = all_pairs u groups compared in
      subst (λ y. Contains (here ++ rest) (pair_at u groups y s t)) same
      (Contains-append_left here rest (pair_at u groups x s t)
      (among-there x 0 (length u.ends) s t (omega arith) apart (omega (arith, below))))
  all-step x compared c s t apart below (inr later) behind =
      Contains-append_right (pairs_among u groups x 0 (length u.ends)) (all_pairs u groups compared) (pair_at u groups c s t) (behind later)

  pub all-there : (compared : List Compared) (c : Compared) (s t : ℕ) → Contains compared c → s < t → t < length u.ends
      → Contains (all_pairs u groups compared) (pair_at u groups c s t)
  unfolding all_pairs
  all-there [] c s t member apart below = absurd (Contains-empty c member)
  all-there (x ∷ compared) c s t member apart below =
      all-step x compared c s t apart below (Contains-cons x compared c member) (λ later. all-there compared c s t later apart below)

  -- ---- and no others

  module _ (P : Pair → Type 0) where
    with-all : (c : Compared) (one other more : ℕ) → ((t : ℕ) → other ≤ t → t < other + more → P (pair_at u groups c one t))
        → All P (pairs_with u groups c one other more)
    unfolding pairs_with
    with-all c one other zero each = All-nil P
    with-all c one other (suc more) each =
        All-cons P (pair_at u groups c one other) (pairs_with u groups c one (other + 1) more) (each other (omega arith) (omega arith))
        (with-all c one (other + 1) more (λ t from below. each t (omega (arith, from)) (omega (arith, below))))

    among-all : (c : Compared) (first more : ℕ)
        → ((s t : ℕ) → first ≤ s → s < t → t < first + more → P (pair_at u groups c s t)) → All P (pairs_among u groups c first more)
    unfolding pairs_among
    among-all c first zero each = All-nil P
    among-all c first (suc more) each =
        All-append P (pairs_with u groups c first (first + 1) more) (pairs_among u groups c (first + 1) more)
        (with-all c first (first + 1) more (λ t from below. each first t (omega arith) (omega (arith, from)) (omega (arith, below))))
        (among-all c (first + 1) more (λ s t from apart below. each s t (omega (arith, from)) apart (omega (arith, below))))

    pub all-all : (compared : List Compared)
        → ((c : Compared) (s t : ℕ) → Contains compared c → s < t → t < length u.ends → P (pair_at u groups c s t))
        → All P (all_pairs u groups compared)
    unfolding all_pairs
    all-all [] each = All-nil P
    all-all (c ∷ compared) each =
        All-append P (pairs_among u groups c 0 (length u.ends)) (all_pairs u groups compared)
        (among-all c 0 (length u.ends) (λ s t from apart below. each c s t (Contains-first c compared) apart (omega (arith, below))))
        (all-all compared (λ x s t member apart below. each x s t (Contains-later c compared x member) apart below))

-- The list of all traces is the join of the lists of each; the list of a trace that nothing has to be freed for.
use Rattle.std.proofs.Common.{◌≡◌, ◌⊎◌, inl, inr, ℕ, ◌≤◌, true, false, List, [], ◌∷◌, length, sym, ◌∙◌, subst, arith}
use Rattle.std.specs.Prelude.{All, Contains}
use Rattle.std.proofs.lemmas.Bool.{true_from_ne_false}
use Rattle.std.proofs.lemmas.List.Elements.{All-cons, All-nil}
use Rattle.std.proofs.lemmas.List.Kept.{AllPairs-from_increasing}
use Rattle.design_core.specs.declared.design.Design.{Design}
use Rattle.design_core.specs.declared.trace.Trace.{Trace}
use Rattle.design_core.specs.Run.{Choices, Meets}
use Rattle.design_core.specs.Works.{Groups, IsSet, IsWithin, Works}
use Rattle.design_core.specs.WellFormed.{IsWellFormed}
use Rattle.design_core.specs.Listing.{IsEntry, IsList}
use Rattle.design_core.proofs.Lists.{All-member, Contains-cons, Contains-empty, Contains-first}
use Rattle.trace_laws.specs.Joined.{AreTraceLists, IsJoin, IsLeastUnion, IsUnion, has_one_of_each, is_within}
use Rattle.trace_laws.proofs.Within.{is-within, within-few, within-is, within-within}
use Rattle.trace_laws.proofs.Lists.{WorksFor, each-works, works-each, works-one}
use Rattle.trace_laws.proofs.Unions.{union-has, union-in, union-same, union-suspects}

-- where a set can't but be within another, it is
within-unless : (one other : List ℕ) → (¬ IsWithin one other → ⊥) → IsWithin one other
within-unless one other never =
    within-is one other
    (true_from_ne_false (is_within one other)
    (λ none. never (λ within. let wrong : true ≡ false = sym (is-within one other within) ∙ none in cc)))

-- what all elements of a list are, by another word
all-other : {X : Type 0} (P Q : X → Type 0) (xs : List X) → ((x : X) → P x → Q x) → All P xs → All Q xs
all-other P Q xs turn all k d below = turn _ (all k d below)

module _ (d : Design) (traces : List Trace) (groups : Groups) (k : ℕ) (lists : List (List (List ℕ)))
    (well : IsWellFormed d)
    (are : AreTraceLists d traces groups k lists) where
  -- a set works exactly where it has one of each
  pub works-has_each : (set : List ℕ) → IsSet groups set → length set ≤ k → Works d traces groups set
      → has_one_of_each lists set ≡ true
  works-has_each set suspects few works = works-each d groups k traces lists are set suspects few
      (works-one d groups k traces set works)

  pub has_each-works : (set : List ℕ) → has_one_of_each lists set ≡ true → Works d traces groups set
  has_each-works set has = each-works d groups k well traces lists are set has

  union-works : (set : List ℕ) → IsUnion lists set → Works d traces groups set
  union-works set u = has_each-works set (union-has lists set u)

  -- a union within a minimal set is all of it
  entry-least : (set : List ℕ) → IsEntry d traces groups k set → (inner : List ℕ) → IsUnion lists inner
      → IsWithin inner set → IsWithin set inner
  entry-least set entry inner u within =
      within-unless set inner
      (λ proper. entry.minimal.least inner (union-suspects d groups k traces lists inner are u) within proper
      (union-works inner u))

  -- a minimal set is a least union
  entry-union : (set : List ℕ) → IsEntry d traces groups k set → IsLeastUnion k lists set
  entry-union set entry = record { union = itself; size = entry.size; least = entry-least set entry }
    where
      itself : IsUnion lists set
      itself =
          let (inner, u, within) =
          union-in lists set entry.suspects.ascending
          (works-has_each set entry.suspects entry.size entry.minimal.works) in
          union-same lists inner set entry.suspects.ascending u within (entry-least set entry inner u within)

  -- and a least union is minimal
  union-entry : (set : List ℕ) → IsLeastUnion k lists set → IsEntry d traces groups k set
  union-entry set l =
      record { suspects = suspects; size = l.size; minimal = record { works = union-works set l.union; least = least } }
    where
      suspects : IsSet groups set
      suspects = union-suspects d groups k traces lists set are l.union

      least : (inner : List ℕ) → IsSet groups inner → IsWithin inner set → ¬ IsWithin set inner
          → ¬ Works d traces groups inner
      least inner part within proper working =
          let few : length inner ≤ length set =
          within-few set inner (AllPairs-from_increasing set suspects.ascending)
          (AllPairs-from_increasing inner part.ascending) within in
          let (deep, u, deeper) = union-in lists inner part.ascending
          (works-has_each inner part (omega (arith, few, l.size)) working) in
          proper (within-within set deep inner (l.least deep u (within-within deep inner set deeper within)) deeper)

  -- a join is the list
  pub join-list : (sets : List (List ℕ)) → IsJoin k lists sets → IsList d traces groups k sets
  join-list sets join = record {
    entries = all-other (IsLeastUnion k lists) (IsEntry d traces groups k) sets union-entry join.unions;
    ordered = join.ordered;
    complete = λ set entry. join.complete set (entry-union set entry);
  }

  -- and the list is a join
  pub list-join : (sets : List (List ℕ)) → IsList d traces groups k sets → IsJoin k lists sets
  list-join sets list = record {
    unions = all-other (IsEntry d traces groups k) (IsLeastUnion k lists) sets entry-union list.entries;
    ordered = list.ordered;
    complete = λ set union. list.complete set (union-entry set union);
  }

-- ---- a trace that is right with nothing freed

module _ (d : Design) (trace : Trace) (groups : Groups) (k : ℕ) (c : Choices)
    (meets : Meets d trace (λ _. false) c) where
  empty-set : IsSet groups []
  empty-set = record {
    ascending = λ i below. absurd (omega (arith, below));
    numbers = All-nil (λ m. (1 ≤ m) × (m ≤ length groups));
  }

  empty-works : Works d (trace ∷ []) groups []
  empty-works other member = at (Contains-cons trace [] other member)
    where
      at : (trace ≡ other) ⊎ Contains [] other → WorksFor d groups [] other
      at (inl same) = subst (WorksFor d groups []) same
          (c, (λ t p place is free. let wrong : false ≡ true = free in cc), meets)
      at (inr none) = absurd (Contains-empty other none)

  empty-entry : IsEntry d (trace ∷ []) groups k []
  empty-entry = record {
    suspects = empty-set;
    size = omega arith;
    minimal = record {
      works = empty-works;
      least = λ inner part within proper working. proper (All-nil (Contains inner));
    };
  }

  -- no other set is minimal
  only-empty : (set : List ℕ) → IsEntry d (trace ∷ []) groups k set → Contains ([] ∷ []) set
  only-empty [] entry = Contains-first [] []
  only-empty (x ∷ xs) entry =
      absurd (entry.minimal.least [] empty-set (All-nil (Contains (x ∷ xs)))
      (λ back. Contains-empty x (All-member (Contains []) (x ∷ xs) x back (Contains-first x xs))) empty-works)

  -- the empty set alone is its list
  pub passing-list : IsList d (trace ∷ []) groups k ([] ∷ [])
  passing-list = record {
    entries = All-cons (IsEntry d (trace ∷ []) groups k) [] [] empty-entry (All-nil (IsEntry d (trace ∷ []) groups k));
    ordered = λ i j e before below. absurd (omega (arith, before, below));
    complete = only-empty;
  }

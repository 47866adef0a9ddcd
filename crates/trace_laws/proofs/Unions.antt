-- Unions of one set of each list.
use Rattle.std.proofs.Common.{◌≡◌, ◌⊎◌, inl, inr, ℕ, ◌≤◌, Bool, true, List, [], ◌∷◌, length, refl, subst}
use Rattle.std.specs.Prelude.{All, Contains, filter}
use Rattle.std.specs.List.{AllZip, list_all, list_any}
use Rattle.std.proofs.lemmas.Bool.{and_from, and_parts}
use Rattle.std.proofs.lemmas.List.Elements.{All-cons, All-nil}
use Rattle.std.proofs.lemmas.List.Kept.{IsStrictlyIncreasing-filter}
use Rattle.loc_base.proofs.ShelfLists.{list_all-member, list_any-found, list_any-member}
use Rattle.design_core.specs.declared.design.Design.{Design}
use Rattle.design_core.specs.declared.trace.Trace.{Trace}
use Rattle.design_core.specs.Works.{Groups, IsSet, IsWithin}
use Rattle.design_core.specs.Listing.{IsEntry}
use Rattle.design_core.proofs.Lists.{All-member, Contains-cons, Contains-empty, Contains-first, Contains-later}
use Rattle.std.specs.List.Sorted.{IsStrictlyIncreasing}
use Rattle.trace_laws.specs.Joined.{AreTraceLists, IsUnion, has, has_one_of_each, is_union_of, is_within}
use Rattle.trace_laws.proofs.Within.{filter-from, filter-has, has-member, is-within, list_all-each, member-has, within-each, within-is, within-member}
use Rattle.trace_laws.proofs.Lists.{has_one}

-- one set of each list
abbrev pub AreChosen : List (List (List ℕ)) → List (List ℕ) → Type 0
AreChosen lists chosen = AllZip (λ list one. Contains list one) lists chosen

-- of each list a set that is within the set
pub record Choice (lists : List (List (List ℕ))) (set : List ℕ) : Type 0 where
  pub chosen : List (List ℕ)
  pub one_of_each : AreChosen lists chosen
  pub within : (one : List ℕ) → Contains chosen one → is_within one set ≡ true

-- where it has one of each, there is such a choice
pub choice-of : (lists : List (List (List ℕ))) (set : List ℕ) → has_one_of_each lists set ≡ true → Choice lists set
choice-of [] set has = record {
  chosen = [];
  one_of_each = tt;
  within = λ one member. absurd (Contains-empty one member);
}
choice-of (list ∷ lists) set has =
    let (here, behind) = and_parts (has_one list set) (has_one_of_each lists set) has in
    joined (list_any-found (λ one. is_within one set) list here) (choice-of lists set behind)
  where
    among : (one other : List ℕ) → is_within one set ≡ true → (one ≡ other) ⊎ (is_within other set ≡ true)
        → is_within other set ≡ true
    among one other within (inl same) = subst (λ it. is_within it set ≡ true) same within
    among one other within (inr is) = is

    part : (one other : List ℕ) (rest : Choice lists set) → (one ≡ other) ⊎ Contains rest.chosen other
        → (one ≡ other) ⊎ (is_within other set ≡ true)
    part one other rest (inl same) = inl same
    part one other rest (inr later) = inr (rest.within other later)

    joined : (one : List ℕ) × Contains list one × (is_within one set ≡ true) → Choice lists set
        → Choice (list ∷ lists) set
    joined (one, member, within) rest = record {
      chosen = one ∷ rest.chosen;
      one_of_each = (member, rest.one_of_each);
      within = λ other of. among one other within (part one other rest (Contains-cons one rest.chosen other of));
    }

-- a set that has chosen sets within it has one of each
pub chosen-has : (lists : List (List (List ℕ))) (chosen : List (List ℕ)) (set : List ℕ) → AreChosen lists chosen
    → ((one : List ℕ) → Contains chosen one → is_within one set ≡ true) → has_one_of_each lists set ≡ true
chosen-has [] [] set are within = refl
chosen-has [] (one ∷ chosen) set are within = absurd are
chosen-has (list ∷ lists) [] set are within = absurd are
chosen-has (list ∷ lists) (one ∷ chosen) set are within =
    and_from (has_one list set) (has_one_of_each lists set)
    (list_any-member (λ it. is_within it set) list one are.0 (within one (Contains-first one chosen)))
    (chosen-has lists chosen set are.1 (λ other member. within other (Contains-later one chosen other member)))

-- the two parts of a union
module _ (chosen : List (List ℕ)) (set : List ℕ) where
  abbrev InOne : ℕ → Bool
  InOne m = list_any (λ one. has one m) chosen

  pub union-from : ((one : List ℕ) → Contains chosen one → is_within one set ≡ true)
      → ((m : ℕ) → Contains set m → InOne m ≡ true)
      → is_union_of chosen set ≡ true
  union-from within from =
      and_from (list_all (λ one. is_within one set) chosen) (list_all InOne set)
      (list_all-each (λ one. is_within one set) chosen within) (list_all-each InOne set from)

  pub union-within : is_union_of chosen set ≡ true → (one : List ℕ) → Contains chosen one → is_within one set ≡ true
  union-within is one member =
      list_all-member (λ it. is_within it set) chosen one
      (and_parts (list_all (λ it. is_within it set) chosen) (list_all InOne set) is).0 member

  pub union-of : is_union_of chosen set ≡ true → (m : ℕ) → Contains set m → InOne m ≡ true
  union-of is m member =
      list_all-member InOne set m
      (and_parts (list_all (λ it. is_within it set) chosen) (list_all InOne set) is).1 member

-- a union has one of each
pub union-has : (lists : List (List (List ℕ))) (set : List ℕ) → IsUnion lists set → has_one_of_each lists set ≡ true
union-has lists set u = chosen-has lists u.chosen set u.one_of_each (union-within u.chosen set u.union)

-- the union of a choice
pub union-in : (lists : List (List (List ℕ))) (set : List ℕ) → IsStrictlyIncreasing set
    → has_one_of_each lists set ≡ true
    → (inner : List ℕ) × IsUnion lists inner × IsWithin inner set
union-in lists set ascends has_each = (
  inner,
  record {
    ascending = IsStrictlyIncreasing-filter test set ascends;
    chosen = choice.chosen;
    one_of_each = choice.one_of_each;
    union = union-from choice.chosen inner holds (λ m member. (filter-from test set m member).1);
  },
  within-each inner set (λ m member. (filter-from test set m member).0),
)
  where
    choice : Choice lists set
    choice = choice-of lists set has_each

    test : ℕ → Bool
    test m = list_any (λ one. has one m) choice.chosen

    inner : List ℕ
    inner = filter test set

    holds : (one : List ℕ) → Contains choice.chosen one → is_within one inner ≡ true
    holds one member =
        is-within one inner
        (within-each one inner
        (λ m in_one.
        filter-has test set m (within-member one set (within-is one set (choice.within one member)) m in_one)
        (list_any-member (λ it. has it m) choice.chosen one member (has-member one m in_one))))

-- a set that such a union isn't smaller than is one
pub union-same : (lists : List (List (List ℕ))) (inner set : List ℕ) → IsStrictlyIncreasing set → IsUnion lists inner
    → IsWithin inner set
    → IsWithin set inner → IsUnion lists set
union-same lists inner set ascends u within back = record {
  ascending = ascends;
  chosen = u.chosen;
  one_of_each = u.one_of_each;
  union = union-from u.chosen set holds
      (λ m member. union-of u.chosen inner u.union m (within-member set inner back m member));
}
  where
    holds : (one : List ℕ) → Contains u.chosen one → is_within one set ≡ true
    holds one member =
        is-within one set
        (within-each one set
        (λ m in_one.
        within-member inner set within m
        (within-member one inner (within-is one inner (union-within u.chosen inner u.union one member)) m in_one)))

-- the members of a listed trace's set are suspects
module _ (d : Design) (groups : Groups) (k : ℕ) where
  abbrev Suspect : ℕ → Type 0
  Suspect m = (1 ≤ m) × (m ≤ length groups)

  chosen-suspects : (traces : List Trace) (lists : List (List (List ℕ))) (chosen : List (List ℕ))
      → AreTraceLists d traces groups k lists
      → AreChosen lists chosen → (one : List ℕ) → Contains chosen one → IsSet groups one
  chosen-suspects traces [] [] are of one member = absurd (Contains-empty one member)
  chosen-suspects traces [] (other ∷ chosen) are of one member = absurd of
  chosen-suspects traces (list ∷ lists) [] are of one member = absurd of
  chosen-suspects [] (list ∷ lists) (other ∷ chosen) are of one member = absurd are
  chosen-suspects (trace ∷ traces) (list ∷ lists) (other ∷ chosen) are of one member =
      at (Contains-cons other chosen one member) (chosen-suspects traces lists chosen are.1 of.1 one)
    where
      at : (other ≡ one) ⊎ Contains chosen one → (Contains chosen one → IsSet groups one) → IsSet groups one
      at (inl same) rest =
          subst (IsSet groups) same
          (All-member (IsEntry d (trace ∷ []) groups k) list other are.0.entries of.0).suspects
      at (inr later) rest = rest later

  -- a union is a set of suspects
  pub union-suspects : (traces : List Trace) (lists : List (List (List ℕ))) (set : List ℕ)
      → AreTraceLists d traces groups k lists
      → IsUnion lists set → IsSet groups set
  union-suspects traces lists set are u = record {
    ascending = u.ascending;
    numbers = each-suspect set (λ m member. suspect m (union-of u.chosen set u.union m member));
  }
    where
      suspect : (m : ℕ) → list_any (λ one. has one m) u.chosen ≡ true → Suspect m
      suspect m is =
          let (one, member, here) = list_any-found (λ one. has one m) u.chosen is in
          All-member Suspect one m (chosen-suspects traces lists u.chosen are u.one_of_each one member).numbers
          (member-has one m here)

      each-suspect : (xs : List ℕ) → ((m : ℕ) → Contains xs m → Suspect m) → All Suspect xs
      each-suspect [] each = All-nil Suspect
      each-suspect (x ∷ xs) each =
          All-cons Suspect x xs (each x (Contains-first x xs))
          (each-suspect xs (λ m member. each m (Contains-later x xs m member)))

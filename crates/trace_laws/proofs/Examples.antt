-- Worked examples of the definitions: two lists, of {1} and {3,4}, and of {1,2} and {3}; and two with a shared set.
use Rattle.std.proofs.Common.{◌≡◌, ◌⊎◌, inl, inr, ℕ, zero, suc, ◌≤◌, true, false, List, [], ◌∷◌, length, refl, sym, subst, arith}
use Rattle.std.specs.Prelude.{Contains}
use Rattle.std.specs.List.Sorted.{IsStrictlyIncreasing}
use Rattle.std.proofs.lemmas.List.Elements.{All-cons, All-nil}
use Rattle.std.proofs.lemmas.List.Kept.{AllPairs-from_increasing}
use Rattle.design_core.specs.Works.{IsWithin}
use Rattle.design_core.proofs.Lists.{Contains-cons, Contains-empty, Contains-first, Contains-later}
use Rattle.trace_laws.specs.Joined.{IsJoin, IsLeastUnion, IsUnion, has_one_of_each, is_union_of, is_within}
use Rattle.trace_laws.proofs.Within.{within-few, within-is, within-member}
use Rattle.trace_laws.proofs.Unions.{AreChosen, union-within}

abbrev two_lists : List (List (List ℕ))
two_lists = ((1 ∷ []) ∷ (3 ∷ 4 ∷ []) ∷ []) ∷ ((1 ∷ 2 ∷ []) ∷ (3 ∷ []) ∷ []) ∷ []

pub a_set_is_within_one_with_more : is_within (1 ∷ 4 ∷ []) (1 ∷ 2 ∷ 4 ∷ []) ≡ true
a_set_is_within_one_with_more = refl

pub and_not_the_other_way : is_within (1 ∷ 2 ∷ 4 ∷ []) (1 ∷ 4 ∷ []) ≡ false
and_not_the_other_way = refl

pub a_set_with_one_of_each : has_one_of_each two_lists (1 ∷ 2 ∷ []) ≡ true
a_set_with_one_of_each = refl

pub one_with_more_members_has_one_of_each_too : has_one_of_each two_lists (1 ∷ 2 ∷ 5 ∷ []) ≡ true
one_with_more_members_has_one_of_each_too = refl

pub a_set_of_the_first_list_alone_has_none_of_the_second : has_one_of_each two_lists (1 ∷ []) ≡ false
a_set_of_the_first_list_alone_has_none_of_the_second = refl

pub no_lists_ask_for_nothing : has_one_of_each [] [] ≡ true
no_lists_ask_for_nothing = refl

pub an_empty_list_has_no_set_within_any : has_one_of_each ([] ∷ []) (1 ∷ 2 ∷ []) ≡ false
an_empty_list_has_no_set_within_any = refl

pub the_list_of_the_empty_set_asks_for_nothing : has_one_of_each (([] ∷ []) ∷ []) [] ≡ true
the_list_of_the_empty_set_asks_for_nothing = refl

pub a_union_of_sets_that_share_a_member : is_union_of ((3 ∷ 4 ∷ []) ∷ (3 ∷ []) ∷ []) (3 ∷ 4 ∷ []) ≡ true
a_union_of_sets_that_share_a_member = refl

pub a_union_of_sets_that_share_none : is_union_of ((1 ∷ []) ∷ (3 ∷ []) ∷ []) (1 ∷ 3 ∷ []) ≡ true
a_union_of_sets_that_share_none = refl

pub a_union_lacks_no_member : is_union_of ((1 ∷ []) ∷ (3 ∷ []) ∷ []) (1 ∷ []) ≡ false
a_union_lacks_no_member = refl

pub and_has_none_beside : is_union_of ((1 ∷ []) ∷ (3 ∷ []) ∷ []) (1 ∷ 2 ∷ 3 ∷ []) ≡ false
and_has_none_beside = refl

-- ---- the records

one_and_three_ascend : IsStrictlyIncreasing (1 ∷ 3 ∷ [])
one_and_three_ascend zero below = omega arith
one_and_three_ascend (suc i) below = absurd (omega (arith, below))

pub the_first_of_the_one_and_the_second_of_the_other : IsUnion two_lists (1 ∷ 3 ∷ [])
the_first_of_the_one_and_the_second_of_the_other = record {
  ascending = one_and_three_ascend;
  chosen = (1 ∷ []) ∷ (3 ∷ []) ∷ [];
  one_of_each = (
    Contains-first (1 ∷ []) ((3 ∷ 4 ∷ []) ∷ []),
    (Contains-later (1 ∷ 2 ∷ []) ((3 ∷ []) ∷ []) (3 ∷ []) (Contains-first (3 ∷ []) []), tt),
  );
  union = refl;
}

-- a list of {1}, and one of {1} and {2}: their unions are {1} and {1,2}
abbrev shared_lists : List (List (List ℕ))
shared_lists = ((1 ∷ []) ∷ []) ∷ ((1 ∷ []) ∷ (2 ∷ []) ∷ []) ∷ []

one_ascends : IsStrictlyIncreasing (1 ∷ [])
one_ascends i below = absurd (omega (arith, below))

pub a_set_of_both_is_a_union : IsUnion shared_lists (1 ∷ [])
a_set_of_both_is_a_union = record {
  ascending = one_ascends;
  chosen = (1 ∷ []) ∷ (1 ∷ []) ∷ [];
  one_of_each = (Contains-first (1 ∷ []) [], (Contains-first (1 ∷ []) ((2 ∷ []) ∷ []), tt));
  union = refl;
}

-- each union has the one set of the first list within it
each_has_the_first : (set : List ℕ) → IsUnion shared_lists set → is_within (1 ∷ []) set ≡ true
each_has_the_first set u = at u.chosen u.one_of_each (union-within u.chosen set u.union)
  where
    first : (one : List ℕ) → ((1 ∷ []) ≡ one) ⊎ Contains [] one → is_within one set ≡ true
        → is_within (1 ∷ []) set ≡ true
    first one (inl same) is = subst (λ it. is_within it set ≡ true) (sym same) is
    first one (inr none) is = absurd (Contains-empty one none)

    at : (chosen : List (List ℕ)) → AreChosen shared_lists chosen
        → ((one : List ℕ) → Contains chosen one → is_within one set ≡ true) → is_within (1 ∷ []) set ≡ true
    at [] are within = absurd are
    at (one ∷ chosen) are within =
        first one (Contains-cons (1 ∷ []) [] one are.0) (within one (Contains-first one chosen))

pub and_the_least : IsLeastUnion 2 shared_lists (1 ∷ [])
and_the_least = record {
  union = a_set_of_both_is_a_union;
  size = omega arith;
  least = λ inner u within. within-is (1 ∷ []) inner (each_has_the_first inner u);
}

abbrev the_one : List (List ℕ)
the_one = (1 ∷ []) ∷ []

-- a set of one member that has 1 is {1}
only_one : (set : List ℕ) → length set ≤ 1 → IsWithin (1 ∷ []) set → Contains the_one set
only_one [] few within = absurd (Contains-empty 1 (within-member (1 ∷ []) [] within 1 (Contains-first 1 [])))
only_one (x ∷ []) few within = at (Contains-cons x [] 1 (within-member (1 ∷ []) (x ∷ []) within 1 (Contains-first 1 [])))
  where
    at : (x ≡ 1) ⊎ Contains {X = ℕ} [] 1 → Contains the_one (x ∷ [])
    at (inl same) = subst (λ it. Contains the_one (it ∷ [])) (sym same) (Contains-first (1 ∷ []) [])
    at (inr none) = absurd (Contains-empty 1 none)
only_one (x ∷ y ∷ set) few within = absurd (omega (arith, few))

-- {1,2} has few enough members, and is not in the join: {1} is within it
pub the_join_has_the_least_alone : IsJoin 2 shared_lists the_one
the_join_has_the_least_alone = record {
  unions = All-cons (IsLeastUnion 2 shared_lists) (1 ∷ []) [] and_the_least (All-nil (IsLeastUnion 2 shared_lists));
  ordered = λ i j e before below. absurd (omega (arith, before, below));
  complete = λ set l.
      let has : IsWithin (1 ∷ []) set = within-is (1 ∷ []) set (each_has_the_first set l.union) in
      only_one set
      (within-few (1 ∷ []) set (AllPairs-from_increasing (1 ∷ []) one_ascends)
      (AllPairs-from_increasing set l.union.ascending) (l.least (1 ∷ []) a_set_of_both_is_a_union has)) has;
}

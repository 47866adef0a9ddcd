-- The first set that is left is the next of the list, and where none is left the list is whole.
use Rattle.std.proofs.Common.{◌≡◌, ◌⊎◌, inl, inr, ℕ, ◌+◌, ◌<◌, ◌≤◌, true, false, List, [], ◌∷◌, ◌++◌, length, get_or, map}
use Rattle.std.proofs.Common.{ap, sym, ◌∙◌, subst, arith}
use Rattle.std.specs.Prelude.{All, Contains, IsTrue}
use Rattle.std.proofs.lemmas.Bool.{cases_lt}
use Rattle.std.proofs.lemmas.List.Elements.{All-append, All-cons, All-contains_itself, All-nil, Contains-append_cases}
use Rattle.std.proofs.lemmas.List.Elements.{Contains-append_left}
use Rattle.std.proofs.lemmas.List.Quantifiers.{all_pairs_push}
use Rattle.loc_base.proofs.ShelfLists.{All-member, Contains-cons, Contains-empty}
use Rattle.clause_base.specs.Satisfaction.{Satisfies}
use Rattle.card_counter.proofs.Said.{satisfies-behind, satisfies-both, satisfies-front}
use Rattle.loc_base.specs.Sets.{is_before}
use Rattle.loc_base.proofs.SetOrder.{before-fewer, before-total}
use Rattle.design_core.specs.Listing.{IsEntry, IsFront, IsList}
use Rattle.design_core.specs.Works.{IsSet, IsWithin, Works}
use Rattle.set_enum.specs.Sets.{IsFirst, IsSetOf, NoneBelow, block_of, selected}
use Rattle.set_enum.proofs.Selecting.{selected-IsSetOf}
use Rattle.debug_core.specs.Listed.{EncodesListed, IsSelected, Listed, with_blocks}
use Rattle.debug_core.proofs.Blocked.{Unmet, met-apart, met-or-unmet, unmet-within}
use Rattle.debug_core.proofs.Selected.{within-few, within-fewer, within-same}

-- sets of suspects, and sets of the numbers up to theirs
module _ (groups : List (List ℕ)) where
  as-set-of : (set : List ℕ) → IsSet groups set → IsSetOf (length groups) set
  as-set-of set is = record { ascending = is.ascending; members = is.numbers }

  as-set : (set : List ℕ) → IsSetOf (length groups) set → IsSet groups set
  as-set set is = record { ascending = is.ascending; numbers = is.members }

module _ (of : Listed) (encodes : EncodesListed of) (front : IsFront of.design of.traces of.groups of.k of.listed) where
  abbrev n : ℕ
  n = length of.groups

  abbrev Entry : List ℕ → Type 0
  Entry set = IsEntry of.design of.traces of.groups of.k set

  abbrev Work : List ℕ → Type 0
  Work set = Works of.design of.traces of.groups set

  entry-of : (set : List ℕ) → Contains of.listed set → Entry set
  entry-of set member = All-member Entry of.listed set front.entries member

  -- a set of suspects that works is selected by an assignment of clauses and blocks, or a listed set is within it
  left-or-listed : (set : List ℕ) → IsSet of.groups set → length set ≤ of.k → Work set
      → IsSelected n (with_blocks of) set ⊎ ((listed : List ℕ) × Contains of.listed listed × IsWithin listed set)
  left-or-listed set is few works = at (met-or-unmet chosen.assignment of.listed)
    where
      chosen : IsSelected n of.clauses set
      chosen = encodes.some set (as-set-of of.groups set is) few works

      at : Satisfies chosen.assignment (map block_of of.listed) ⊎ Unmet chosen.assignment of.listed
          → IsSelected n (with_blocks of) set ⊎ ((listed : List ℕ) × Contains of.listed listed × IsWithin listed set)
      at (inl all) =
          inl (record {
            assignment = chosen.assignment;
            satisfies = satisfies-both chosen.assignment of.clauses (map block_of of.listed) chosen.satisfies all;
            selects = chosen.selects;
          })
      at (inr u) =
          inr (
            u.set,
            u.listed_there,
            subst (IsWithin u.set) chosen.selects
                (unmet-within chosen.assignment n u.set (as-set-of of.groups u.set (entry-of u.set u.listed_there).suspects) u.is_unmet),
          )

  -- a minimal set that a listed set is within is that one
  listed-minimal : (set listed : List ℕ) → Entry set → Contains of.listed listed → IsWithin listed set → Contains of.listed set
  listed-minimal set listed entry member within = at (cases_lt (length listed) (length set))
    where
      inner : Entry listed
      inner = entry-of listed member

      at : (length listed < length set) ⊎ (length set ≤ length listed) → Contains of.listed set
      at (inl fewer) =
          absurd (entry.minimal.least listed inner.suspects within
          (λ back.
          let most = within-few set listed entry.suspects.ascending inner.suspects.ascending back in omega (arith, fewer, most))
          inner.minimal.works)
      at (inr as_many) =
          subst (Contains of.listed) (within-same listed set inner.suspects.ascending entry.suspects.ascending within as_many) member

  -- a minimal set is selected, or listed
  entry-left : (set : List ℕ) → Entry set → IsSelected n (with_blocks of) set ⊎ Contains of.listed set
  entry-left set entry = at (left-or-listed set entry.suspects entry.size entry.minimal.works)
    where
      at : IsSelected n (with_blocks of) set ⊎ ((listed : List ℕ) × Contains of.listed listed × IsWithin listed set)
          → IsSelected n (with_blocks of) set ⊎ Contains of.listed set
      at (inl chosen) = inl chosen
      at (inr (listed, member, within)) = inr (listed-minimal set listed entry member within)

  -- where none is left, the list is whole
  pub whole : NoneBelow n (of.k + 1) (with_blocks of) → IsList of.design of.traces of.groups of.k of.listed
  whole none = record { entries = front.entries; ordered = front.ordered; complete = λ set entry. at set entry (entry-left set entry) }
    where
      at : (set : List ℕ) → Entry set → IsSelected n (with_blocks of) set ⊎ Contains of.listed set → Contains of.listed set
      at set entry (inl chosen) =
          let many = none chosen.assignment chosen.satisfies in
          absurd (omega (arith, many, ap length chosen.selects, entry.size))
      at set entry (inr member) = member

  module _ (set : List ℕ) (first : IsFirst n of.k (with_blocks of) set) where
    in-clauses : Satisfies first.witness of.clauses
    in-clauses = satisfies-front first.witness of.clauses (map block_of of.listed) first.satisfies

    in-blocks : Satisfies first.witness (map block_of of.listed)
    in-blocks = satisfies-behind first.witness of.clauses (map block_of of.listed) first.satisfies

    suspects : IsSet of.groups set
    suspects = as-set of.groups set (subst (IsSetOf n) first.selects (selected-IsSetOf n first.witness))

    works : Work set
    works = subst Work first.selects (encodes.works first.witness in-clauses (omega (arith, ap length first.selects, first.few)))

    -- no listed set is within it
    free : (listed : List ℕ) → Contains of.listed listed → IsWithin listed set → ⊥
    free listed member within =
        met-apart first.witness n of.listed listed in-blocks member (subst (IsWithin listed) (sym first.selects) within)

    -- what is selected doesn't stand before it
    not-before : (other : List ℕ) → length other ≤ of.k → IsSelected n (with_blocks of) other → is_before other set ≡ true → ⊥
    not-before other few chosen before =
        let fails = first.first chosen.assignment chosen.satisfies (omega (arith, ap length chosen.selects, few)) in
        let same = ap (λ s. is_before s set) chosen.selects in
        let wrong : true ≡ false = sym before ∙ (sym same ∙ fails) in cc

    least : (inner : List ℕ) → IsSet of.groups inner → IsWithin inner set → ¬ IsWithin set inner → ¬ Work inner
    least inner is within proper working =
        let fewer = within-fewer inner set is.ascending suspects.ascending within proper in
        at (left-or-listed inner is (omega (arith, fewer, first.few)) working) fewer
      where
        at : IsSelected n (with_blocks of) inner ⊎ ((listed : List ℕ) × Contains of.listed listed × IsWithin listed inner)
            → length inner < length set → ⊥
        at (inl chosen) fewer = not-before inner (omega (arith, fewer, first.few)) chosen (before-fewer inner set fewer)
        at (inr (listed, member, deeper)) fewer =
            free listed member (λ k d l. All-member (Contains set) inner (get_or listed k d) within (deeper k d l))

    entry : Entry set
    entry = record { suspects = suspects; size = first.few; minimal = record { works = works; least = least } }

    unlisted : Contains of.listed set → ⊥
    unlisted member = free set member (All-contains_itself set)

    -- each listed set stands before it
    after : (listed : List ℕ) → Contains of.listed listed → is_before listed set ≡ true
    after listed member = at (before-total listed set)
      where
        at : (is_before listed set ≡ true) ⊎ ((listed ≡ set) ⊎ (is_before set listed ≡ true)) → is_before listed set ≡ true
        at (inl before) = before
        at (inr (inl same)) = absurd (unlisted (subst (Contains of.listed) same member))
        at (inr (inr behind)) = absurd (unlisted (front.none_missing set listed entry member behind))

    abbrev longer : List (List ℕ)
    longer = of.listed ++ set ∷ []

    one-more : All Entry (set ∷ [])
    one-more = All-cons Entry set [] entry (All-nil Entry)

    missing : (other at : List ℕ) → Entry other → Contains longer at → IsTrue (is_before other at) → Contains longer other
    missing other at is member before = by (Contains-append_cases of.listed (set ∷ []) at member)
      where
        left : IsSelected n (with_blocks of) other ⊎ Contains of.listed other → is_before other set ≡ true → Contains longer other
        left (inl chosen) earlier = absurd (not-before other is.size chosen earlier)
        left (inr there) earlier = Contains-append_left of.listed (set ∷ []) other there

        last : (set ≡ at) ⊎ Contains [] at → Contains longer other
        last (inl same) = left (entry-left other is) (ap (is_before other) same ∙ before)
        last (inr none) = absurd (Contains-empty at none)

        by : Contains of.listed at ⊎ Contains (set ∷ []) at → Contains longer other
        by (inl there) = Contains-append_left of.listed (set ∷ []) other (front.none_missing other at is there before)
        by (inr here) = last (Contains-cons set [] at here)

    -- it is the next of the list
    pub next : IsFront of.design of.traces of.groups of.k (of.listed ++ set ∷ [])
    next = record {
      entries = All-append Entry of.listed (set ∷ []) front.entries one-more;
      ordered = all_pairs_push (λ (one other : List ℕ). IsTrue (is_before one other)) of.listed set front.ordered
          (λ k d l. after (get_or of.listed k d) (All-contains_itself of.listed k d l));
      none_missing = missing;
    }

-- nothing is listed at first
pub empty-front : (of : Listed) → IsFront of.design of.traces of.groups of.k []
empty-front of = record {
  entries = All-nil (IsEntry of.design of.traces of.groups of.k);
  ordered = λ i j d low high. absurd (omega (arith, high));
  none_missing = λ set listed entry member before. absurd (Contains-empty listed member);
}

-- Sets that hold others: in an ascending list such a set stands behind those that it holds.
use Rattle.std.proofs.Common.{◌≡◌, ◌⊎◌, inl, inr, ℕ, ◌+◌, ◌-◌, ◌<◌, ◌≤◌, List, length, Some, sym, ap, ◌∙◌, subst, arith, true}
use Rattle.std.specs.Prelude.{Contains, None, slice_get}
use Rattle.std.specs.List.Sorted.{IsStrictlyIncreasing}
use Rattle.std.proofs.lemmas.Bool.{cases_lt}
use Rattle.loc_base.proofs.ShelfLists.{All-member, Contains-at}
use Rattle.loc_base.specs.Sets.{is_before}
use Rattle.design_core.specs.Works.{IsWithin}
use Rattle.report_doc.specs.declared.types.ReportSet.{ReportSet}
use Rattle.debug_core.proofs.Selected.{within-same}
use Rattle.list_verdict.specs.declared.holding.Holding.{Holding}
use Rattle.list_verdict.specs.Conditions.{Holds, IsFirstToHold}
use Rattle.list_verdict.specs.Judging.{AreAscending, FirstHeld, FirstToHold, NoneWithin, shares_gap}
use Rattle.list_verdict.proofs.Comparing.{before-few, before-self}
use Rattle.list_verdict.proofs.Gaps.{Upto, before-upto, gap-outside, upto-self}
use Rattle.std.proofs.lemmas.Option.{slice_get_within}
use Rattle.list_verdict.proofs.Ordered.{got-same, set-at}

pub ascends : (sets : List ReportSet) → AreAscending sets → (i : ℕ) (set : ReportSet) → slice_get sets i ≡ Some set
    → IsStrictlyIncreasing set.members
ascends sets are i set there = All-member (λ (s : ReportSet). IsStrictlyIncreasing s.members) sets set are.each (Contains-at sets i set there)

-- a later set isn't within a set
not-later : (sets : List ReportSet) → AreAscending sets → (i j : ℕ) (set inner : ReportSet) → slice_get sets i ≡ Some set
    → slice_get sets j ≡ Some inner → i < j → ¬ IsWithin inner.members set.members
not-later sets are i j set inner here there less within =
    let before : is_before set.members inner.members ≡ true = are.before i j set inner less here there in
    let same : inner.members ≡ set.members =
    within-same inner.members set.members (ascends sets are j inner there) (ascends sets are i set here) within
    (before-few set.members inner.members before) in
    before-self set.members (ap (is_before set.members) (sym same) ∙ before)

pub within-begun : (sets : List ReportSet) (outer : List ℕ) → NoneWithin sets outer 0
within-begun sets outer i inner low there = absurd (omega (arith, low))

pub within-more : (sets : List ReportSet) (outer : List ℕ) (place : ℕ) (set : ReportSet) → slice_get sets place ≡ Some set
    → ¬ IsWithin set.members outer → NoneWithin sets outer place → NoneWithin sets outer (place + 1)
within-more sets outer place set there other before i inner low at = by (cases_lt i place)
  where
    by : (i < place) ⊎ (place ≤ i) → ¬ IsWithin inner.members outer
    by (inl less) = before i inner less at
    by (inr past) =
        subst (λ (s : ReportSet). ¬ IsWithin s.members outer) (sym (got-same sets i place inner set at there (omega (arith, past, low)))) other

-- where a set of a place has as many members as a set behind it, none from there on is within that
pub within-as_many : (sets : List ReportSet) (from place : ℕ) (inner set : ReportSet) → AreAscending sets → slice_get sets from ≡ Some inner
    → slice_get sets place ≡ Some set → length set.members ≤ length inner.members → NoneWithin sets set.members from
    → NoneWithin sets set.members place
within-as_many sets from place inner set are there here many before i other low at within = by (cases_lt i from) (cases_lt from i)
  where
    differs : length inner.members ≤ length other.members → ⊥
    differs more =
        let same : other.members ≡ set.members =
        within-same other.members set.members (ascends sets are i other at) (ascends sets are place set here) within
        (omega (arith, many, more)) in
        before-self set.members (ap (λ ms. is_before ms set.members) (sym same) ∙ are.before i place other set low at here)

    by : (i < from) ⊎ (from ≤ i) → (from < i) ⊎ (i ≤ from) → ⊥
    by (inl less) any = before i other less at within
    by (inr most) (inl more) = differs (before-few inner.members other.members (are.before from i inner other more there at))
    by (inr most) (inr least) =
        differs (subst (λ (s : ReportSet). length inner.members ≤ length s.members)
        (got-same sets from i inner other there at (omega (arith, most, least))) (omega arith))

-- where a later set of as many members shares the gap of one, none between them is within the outer list
pub within-shared : (sets : List ReportSet) (outer : List ℕ) (from low middle : ℕ) (one last : ReportSet) → AreAscending sets
    → IsStrictlyIncreasing outer → slice_get sets from ≡ Some one → slice_get sets middle ≡ Some last → from < low
    → length last.members ≡ length one.members → shares_gap outer one.members last.members ≡ true → NoneWithin sets outer low
    → NoneWithin sets outer (middle + 1)
within-shared sets outer from low middle one last are ascending there here less same shares before i between most at within =
    by (cases_lt i low) (cases_lt i middle)
  where
    outside : Upto one.members between.members → Upto between.members last.members → ⊥
    outside lower higher =
        gap-outside outer one.members between.members last.members ascending (ascends sets are i between at) lower higher shares
        (λ v member. All-member (Contains outer) between.members v within member)

    later : from < i → is_before one.members between.members ≡ true
    later more = are.before from i one between more there at

    by : (i < low) ⊎ (low ≤ i) → (i < middle) ⊎ (middle ≤ i) → ⊥
    by (inl few) any = before i between few at within
    by (inr past) (inl early) =
        let first : is_before one.members between.members ≡ true = later (omega (arith, less, past)) in
        let second : is_before between.members last.members ≡ true = are.before i middle between last early at here in
        let fewer = before-few one.members between.members first in
        let most_of = before-few between.members last.members second in
        outside (before-upto one.members between.members first (omega (arith, most_of, same)))
        (before-upto between.members last.members second (omega (arith, fewer, same)))
    by (inr past) (inr end) =
        let first : is_before one.members between.members ≡ true = later (omega (arith, less, past)) in
        let is : between ≡ last = got-same sets i middle between last at here (omega (arith, most, end)) in
        let long : length between.members ≡ length last.members = ap (λ (s : ReportSet). length s.members) is in
        outside (before-upto one.members between.members first (omega (arith, long, same)))
        (subst (λ (s : ReportSet). Upto between.members s.members) is (upto-self between.members))

-- the same by the lists of the members
pub past-shared : (sets : List ReportSet) (outer ones lasts : List ℕ) (from low middle : ℕ) (one last : ReportSet) → AreAscending sets
    → IsStrictlyIncreasing outer → slice_get sets from ≡ Some one → slice_get sets middle ≡ Some last → ones ≡ one.members
    → lasts ≡ last.members → from < low → length lasts ≡ length ones → shares_gap outer ones lasts ≡ true → NoneWithin sets outer low
    → NoneWithin sets outer (middle + 1)
past-shared sets outer ones lasts from low middle one last are ascending there here ones_are lasts_are less same shares before =
    within-shared sets outer from low middle one last are ascending there here less (sym (ap length lasts_are) ∙ same ∙ ap length ones_are)
    (subst (λ ms. shares_gap outer ms last.members ≡ true) ones_are (subst (λ ms. shares_gap outer ones ms ≡ true) lasts_are shares)) before

-- the first set that the set of a place holds
pub held-first : (sets : List ReportSet) (place other : ℕ) (set inner : ReportSet) → slice_get sets place ≡ Some set
    → slice_get sets other ≡ Some inner → other < place → IsWithin inner.members set.members → NoneWithin sets set.members other
    → FirstHeld sets place (Some other)
held-first sets place other set inner here there less within none = (
  record {
    set = set;
    is_set = set-at sets place set here;
    inner = inner;
    is_inner = set-at sets other inner there;
    apart = λ same. omega (arith, same, less);
    within = within;
  },
  λ o low holds. none (o - 1) holds.inner (omega (arith, low, holds.is_inner.counted)) holds.is_inner.is
      (subst (λ (s : ReportSet). IsWithin holds.inner.members s.members)
      (got-same sets (place + 1 - 1) place holds.set set holds.is_set.is here (omega arith)) holds.within),
)

-- where none before it is within it, it holds none
pub held-none : (sets : List ReportSet) (place : ℕ) (set : ReportSet) → AreAscending sets → slice_get sets place ≡ Some set
    → NoneWithin sets set.members place → FirstHeld sets place None
held-none sets place set are here none o holds = at (cases_lt (o - 1) place) (cases_lt place (o - 1))
  where
    within : IsWithin holds.inner.members set.members
    within =
        subst (λ (s : ReportSet). IsWithin holds.inner.members s.members)
        (got-same sets (place + 1 - 1) place holds.set set holds.is_set.is here (omega arith)) holds.within

    at : (o - 1 < place) ⊎ (place ≤ o - 1) → (place < o - 1) ⊎ (o - 1 ≤ place) → ⊥
    at (inl less) other = none (o - 1) holds.inner less holds.is_inner.is within
    at (inr most) (inl more) = not-later sets are place (o - 1) set holds.inner here holds.is_inner.is more within
    at (inr most) (inr least) = holds.apart (omega (arith, most, least, holds.is_inner.counted))

pub ruleset held_rules = (within-begun, within-more, held-first, held-none)

-- ---- all sets
abbrev pub NoneBelow : List ReportSet → ℕ → Type 0
NoneBelow sets place = (n o : ℕ) → n ≤ place → ¬ Holds sets n o

pub hold-begun : (sets : List ReportSet) → NoneBelow sets 0
hold-begun sets n o low holds = omega (arith, low, holds.is_set.counted)

pub hold-more : (sets : List ReportSet) (place : ℕ) → NoneBelow sets place → FirstHeld sets place None → NoneBelow sets (place + 1)
hold-more sets place before none n o low = by (cases_lt place n)
  where
    by : (place < n) ⊎ (n ≤ place) → ¬ Holds sets n o
    by (inl past) = subst (λ m. ¬ Holds sets m o) (omega (arith, low, past)) (none o)
    by (inr few) = before n o few

pub hold-none : (sets : List ReportSet) (place : ℕ) → length sets ≤ place → NoneBelow sets place → FirstToHold sets None
hold-none sets place past before n o holds =
    before n o (omega (arith, slice_get_within sets (n - 1) holds.set holds.is_set.is, past)) holds

pub hold-first : (sets : List ReportSet) (place other : ℕ) (holding : Holding) → NoneBelow sets place → FirstHeld sets place (Some other)
    → holding.set ≡ place + 1 → holding.other ≡ other + 1 → FirstToHold sets (Some holding)
hold-first sets place other holding before (holds, first) one two =
    let found : IsFirstToHold sets (place + 1) (other + 1) =
    record { holds = holds; first = λ n o low. before n o (omega (arith, low)); first_held = first } in
    subst (λ n. IsFirstToHold sets n holding.other) (sym one) (subst (IsFirstToHold sets (place + 1)) (sym two) found)

pub ruleset hold_rules = (hold-begun, hold-more, hold-none, hold-first)

-- The true selectors of an assignment free the places of a set's suspects, and are no more than the set's members.
use Rattle.std.proofs.Common.{◌≡◌, ◌⊎◌, inl, inr, ℕ, zero, suc, ◌+◌, ◌-◌, ◌<◌, ◌≤◌, ◌==◌, ◌||◌, Bool, true, false, if◌then◌else◌, List, [], ◌∷◌, length, map, Some, refl, sym, ◌∙◌, ap, ap₂, arith}
use Rattle.std.specs.Prelude.{Contains, nat_le, slice_get}
use Rattle.std.specs.List.{list_any}
use Rattle.std.specs.Option.{option_map_or}
use Rattle.std.proofs.lemmas.Bool.{and_from, and_parts, cases_lt, eq-eqb, ne_eqb, le-leb, leb-true, or_cases, or_left, or_right}
use Rattle.std.proofs.lemmas.Option.{slice_get_within}
use Rattle.loc_base.proofs.ShelfBools.{equal-true}
use Rattle.loc_base.proofs.ShelfLists.{list_any-found, list_any-member}
use Rattle.suspect_map.specs.declared.group.Group.{Group}
use Rattle.clause_base.specs.declared.literal.Lit.{Lit}
use Rattle.clause_base.specs.Literal.{positive}
use Rattle.clause_base.specs.Satisfaction.{is_satisfied}
use Rattle.card_counter.specs.InForm.{literals_from}
use Rattle.card_counter.specs.Means.{true_count}
use Rattle.card_counter.proofs.AtMost.{one_if, true_count-cons}
use Rattle.design_core.specs.Works.{suspect_has}
use Rattle.clause_form.specs.Clauses.{selectors_from, selectors_of}
use Rattle.unroller.specs.Unrolls.{is_grouped}
use Rattle.form_laws.specs.Models.{Selects, freed_by, is_member}

-- two truth values of which each makes the other true
both-true : (a b : Bool) → (a ≡ true → b ≡ true) → (b ≡ true → a ≡ true) → a ≡ b
both-true true b to from = sym (to refl)
both-true false true to from = from refl
both-true false false to from = refl

-- ---- the selectors of a place

abbrev has_place : Group → ℕ → Bool
has_place group place = list_any (λ p. p == place) group.places

-- the selectors of a place, by whether the first group has it
abbrev with_first : Bool → ℕ → List Lit → List Lit
with_first is first rest = if is then positive first ∷ rest else rest

module _ (a : ℕ → Bool) (place : ℕ) where
  -- a group with the place, whose selector is true
  record IsChosen (first : ℕ) (groups : List Group) : Type 0 where
    at : ℕ
    group : Group
    there : slice_get groups at ≡ Some group
    has : has_place group place ≡ true
    is : a (first + at) ≡ true

  first-satisfied : (is : Bool) (first : ℕ) (rest : List Lit) → is ≡ true → a first ≡ true
      → is_satisfied a (with_first is first rest) ≡ true
  first-satisfied true first rest is here = or_left (a first) (is_satisfied a rest) here
  first-satisfied false first rest is here = cc

  rest-satisfied : (is : Bool) (first : ℕ) (rest : List Lit) → is_satisfied a rest ≡ true → is_satisfied a (with_first is first rest) ≡ true
  rest-satisfied true first rest holds = or_right (a first) (is_satisfied a rest) holds
  rest-satisfied false first rest holds = holds

  chosen-satisfied : (first : ℕ) (groups : List Group) (at : ℕ) (group : Group) → slice_get groups at ≡ Some group
      → has_place group place ≡ true → a (first + at) ≡ true → is_satisfied a (selectors_from first groups place) ≡ true
  chosen-satisfied first [] at group there has is = cc
  chosen-satisfied first (g ∷ groups) zero group there has is =
      let here : first + 0 ≡ first = omega arith in
      first-satisfied (has_place g place) first (selectors_from (first + 1) groups place)
      (ap (λ x. has_place x place) (Some-is there) ∙ has) (ap a (sym here) ∙ is)
    where
      Some-is : Some g ≡ Some group → g ≡ group
      Some-is same = cc
  chosen-satisfied first (g ∷ groups) (suc at) group there has is =
      let number : first + 1 + at ≡ first + suc at = omega arith in
      rest-satisfied (has_place g place) first (selectors_from (first + 1) groups place)
      (chosen-satisfied (first + 1) groups at group there has (ap a number ∙ is))

  with-first : (is : Bool) (first : ℕ) (rest : List Lit) → is_satisfied a (with_first is first rest) ≡ true
      → ((is ≡ true) × (a first ≡ true)) ⊎ (is_satisfied a rest ≡ true)
  with-first true first rest holds = at (or_cases (a first) (is_satisfied a rest) holds)
    where
      at : (a first ≡ true) ⊎ (is_satisfied a rest ≡ true) → ((true ≡ true) × (a first ≡ true)) ⊎ (is_satisfied a rest ≡ true)
      at (inl here) = inl (refl, here)
      at (inr later) = inr later
  with-first false first rest holds = inr holds

  satisfied-chosen : (first : ℕ) (groups : List Group) → is_satisfied a (selectors_from first groups place) ≡ true → IsChosen first groups
  satisfied-chosen first [] holds = cc
  satisfied-chosen first (g ∷ groups) holds =
      at (with-first (has_place g place) first (selectors_from (first + 1) groups place) holds)
      (λ later. satisfied-chosen (first + 1) groups later)
    where
      at : ((has_place g place ≡ true) × (a first ≡ true)) ⊎ (is_satisfied a (selectors_from (first + 1) groups place) ≡ true)
          → (is_satisfied a (selectors_from (first + 1) groups place) ≡ true → IsChosen (first + 1) groups)
          → IsChosen first (g ∷ groups)
      at (inl (has, is)) behind =
          let here : first ≡ first + 0 = omega arith in
          record { at = 0; group = g; there = refl; has = has; is = ap a (sym here) ∙ is }
      at (inr later) behind =
          let found = behind later in
          let number : first + suc found.at ≡ first + 1 + found.at = omega arith in
          record { at = suc found.at; group = found.group; there = found.there; has = found.has; is = ap a number ∙ found.is }

-- ---- the places of a set's suspects

abbrev places_in : List Group → List (List ℕ)
places_in groups = map (λ group. group.places) groups

group-places : (groups : List Group) (at : ℕ) (group : Group) → slice_get groups at ≡ Some group
    → slice_get (places_in groups) at ≡ Some group.places
group-places [] at group there = cc
group-places (g ∷ groups) zero group there = ap (λ (x : Group). Some x.places) (Some-is there)
  where
    Some-is : Some g ≡ Some group → g ≡ group
    Some-is same = cc
group-places (g ∷ groups) (suc at) group there = group-places groups at group there

-- a suspect with a place
pub record Suspect (groups : List Group) (place at : ℕ) : Type 0 where
  pub group : Group
  pub there : slice_get groups at ≡ Some group
  pub has : list_any (λ p. p == place) group.places ≡ true
  pub within : at < length groups

pub suspect-of : (groups : List Group) (place at : ℕ)
    → option_map_or (λ places. list_any (λ p. p == place) places) (slice_get (places_in groups) at) false ≡ true → Suspect groups place at
suspect-of [] place at is = cc
suspect-of (g ∷ groups) place zero is = record { group = g; there = refl; has = is; within = omega arith }
suspect-of (g ∷ groups) place (suc at) is =
    let s = suspect-of groups place at is in
    record { group = s.group; there = s.there; has = s.has; within = omega (arith, s.within) }

suspect-has : (groups : List Group) (place at : ℕ) (group : Group) → slice_get groups at ≡ Some group → has_place group place ≡ true
    → (m : ℕ) → m ≡ 1 + at → suspect_has (places_in groups) place m ≡ true
suspect-has groups place at group there has m is =
    let below : m - 1 ≡ at = omega (arith, is) in
    and_from (nat_le 1 m) (option_map_or (λ places. list_any (λ p. p == place) places) (slice_get (places_in groups) (m - 1)) false)
    (le-leb 1 m (omega (arith, is)))
    (ap (λ o. option_map_or (λ places. list_any (λ p. p == place) places) o false)
    (ap (slice_get (places_in groups)) below ∙ group-places groups at group there) ∙ has)

member-is : (set : List ℕ) (i : ℕ) → Contains set i → is_member set i ≡ true
member-is set i member = list_any-member (λ m. m == i) set i member (eq-eqb i i refl)

module _ (a : ℕ → Bool) (groups : List Group) (set : List ℕ) (selects : Selects a (length groups) set) (place : ℕ) where
  to-freed : IsChosen a place 1 groups → freed_by groups set place ≡ true
  to-freed chosen =
      let within : chosen.at < length groups = slice_get_within groups chosen.at chosen.group chosen.there in
      let selected : is_member set (1 + chosen.at) ≡ true =
      sym (selects (1 + chosen.at) (omega arith) (omega (arith, within))) ∙ chosen.is in
      let (m, member, same) = list_any-found (λ m. m == (1 + chosen.at)) set selected in
      list_any-member (suspect_has (places_in groups) place) set m member
      (suspect-has groups place chosen.at chosen.group chosen.there chosen.has m (equal-true m (1 + chosen.at) same))

  from-freed : freed_by groups set place ≡ true → is_satisfied a (selectors_of groups place) ≡ true
  from-freed freed =
      let (m, member, has) = list_any-found (suspect_has (places_in groups) place) set freed in
      let (some, at_place) =
      and_parts (nat_le 1 m)
      (option_map_or (λ places. list_any (λ p. p == place) places) (slice_get (places_in groups) (m - 1)) false) has in
      let first : 1 ≤ m = leb-true 1 m some in
      let s : Suspect groups place (m - 1) = suspect-of groups place (m - 1) at_place in
      let number : 1 + (m - 1) ≡ m = omega (arith, first) in
      chosen-satisfied a place 1 groups (m - 1) s.group s.there s.has
      (ap a number ∙ selects m first (omega (arith, first, s.within)) ∙ member-is set m member)

  -- the selectors of a place are true for some suspect of the set with the place
  pub selectors-free : is_satisfied a (selectors_of groups place) ≡ freed_by groups set place
  selectors-free =
      both-true (is_satisfied a (selectors_of groups place)) (freed_by groups set place)
      (λ holds. to-freed (satisfied-chosen a place 1 groups holds)) from-freed

-- a place in no group has no selectors
pub none-selected : (a : ℕ → Bool) (groups : List Group) (place first : ℕ) → is_grouped groups place ≡ false
    → is_satisfied a (selectors_from first groups place) ≡ false
none-selected a [] place first none = refl
none-selected a (g ∷ groups) place first none =
    at (has_place g place) (is_grouped groups place) none (none-selected a groups place (first + 1))
  where
    at : (has rest : Bool) → (has || rest) ≡ false
        → (rest ≡ false → is_satisfied a (selectors_from (first + 1) groups place) ≡ false)
        → is_satisfied a (with_first has first (selectors_from (first + 1) groups place)) ≡ false
    at true rest none behind = cc
    at false rest none behind = behind none

-- ---- how many selectors are true

module _ (f g : ℕ → Bool) where
  same-count : (first n : ℕ) → ((i : ℕ) → first ≤ i → i < first + n → f i ≡ g i)
      → true_count f (literals_from first n) ≡ true_count g (literals_from first n)
  same-count first zero same = refl
  same-count first (suc n) same =
      true_count-cons f (positive first) (literals_from (first + 1) n)
      ∙ ap₂ (λ b m. one_if b + m) (same first (omega arith) (omega arith))
      (same-count (first + 1) n (λ i from below. same i (omega (arith, from)) (omega (arith, below))))
      ∙ sym (true_count-cons g (positive first) (literals_from (first + 1) n))

  one-or : (p q : Bool) → one_if (p || q) ≤ one_if p + one_if q
  one-or true true = omega arith
  one-or true false = omega arith
  one-or false q = omega arith

  or-count : (first n : ℕ)
      → true_count (λ i. f i || g i) (literals_from first n) ≤ true_count f (literals_from first n) + true_count g (literals_from first n)
  or-count first zero = omega arith
  or-count first (suc n) =
      omega (
        arith,
        true_count-cons (λ i. f i || g i) (positive first) (literals_from (first + 1) n),
        true_count-cons f (positive first) (literals_from (first + 1) n),
        true_count-cons g (positive first) (literals_from (first + 1) n),
        one-or (f first) (g first),
        or-count (first + 1) n,
      )

none-count : (m first n : ℕ) → m < first → true_count (λ i. m == i) (literals_from first n) ≡ 0
none-count m first zero less = refl
none-count m first (suc n) less =
    true_count-cons (λ i. m == i) (positive first) (literals_from (first + 1) n)
    ∙ ap₂ (λ b k. one_if b + k) (ne_eqb m first (λ same. omega (arith, same, less))) (none-count m (first + 1) n (omega (arith, less)))

one-at-most : (b : Bool) → one_if b ≤ 1
one-at-most true = omega arith
one-at-most false = omega arith

single-more : (m first n : ℕ) → true_count (λ i. m == i) (literals_from (first + 1) n) ≤ 1 → (first < m) ⊎ (m ≤ first)
    → true_count (λ i. m == i) (literals_from first (suc n)) ≤ 1
single-more m first n rest (inl less) =
    omega (
      arith,
      true_count-cons (λ i. m == i) (positive first) (literals_from (first + 1) n),
      ap one_if (ne_eqb m first (λ same. omega (arith, same, less))),
      rest,
    )
single-more m first n rest (inr past) =
    omega (
      arith,
      true_count-cons (λ i. m == i) (positive first) (literals_from (first + 1) n),
      one-at-most (m == first),
      none-count m (first + 1) n (omega (arith, past)),
    )

single-count : (m first n : ℕ) → true_count (λ i. m == i) (literals_from first n) ≤ 1
single-count m first zero = omega arith
single-count m first (suc n) = single-more m first n (single-count m (first + 1) n) (cases_lt first m)

no-count : (first n : ℕ) → true_count (λ i. false) (literals_from first n) ≡ 0
no-count first zero = refl
no-count first (suc n) =
    omega (arith, true_count-cons (λ i. false) (positive first) (literals_from (first + 1) n), no-count (first + 1) n)

members-count : (set : List ℕ) (first n : ℕ) → true_count (is_member set) (literals_from first n) ≤ length set
members-count [] first n = omega (arith, no-count first n)
members-count (m ∷ set) first n =
    omega (
      arith,
      or-count (λ i. m == i) (is_member set) first n,
      single-count m first n,
      members-count set first n,
    )

-- as many selectors are true as the set has members, at most
pub selected-few : (a : ℕ → Bool) (n : ℕ) (set : List ℕ) → Selects a n set → true_count a (literals_from 1 n) ≤ length set
selected-few a n set selects =
    omega (
      arith,
      same-count a (is_member set) 1 n (λ i from below. selects i from (omega (arith, below))),
      members-count set 1 n,
    )

-- and no more than there are
pub all-few : (a : ℕ → Bool) (first n : ℕ) → true_count a (literals_from first n) ≤ n
all-few a first zero = omega arith
all-few a first (suc n) =
    omega (
      arith,
      true_count-cons a (positive first) (literals_from (first + 1) n),
      one-at-most (a first),
      all-few a (first + 1) n,
    )

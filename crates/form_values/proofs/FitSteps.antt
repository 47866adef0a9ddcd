-- Steps of the loops that ask whether values can be given.
use Rattle.std.proofs.Common.{◌≡◌, ◌⊎◌, inl, inr, ℕ, ◌+◌, ◌<◌, ◌≤◌, ◌==◌, Bool, true, false, List, length, get_or, Some, refl, sym, ◌∙◌, ap, ap₂, subst, arith, All}
use Rattle.std.specs.Prelude.{◌↔◌, IsTrue, Contains, slice_get}
use Rattle.std.proofs.lemmas.Bool.{cases_lt, and_from, and_parts, eq-eqb}
use Rattle.std.proofs.lemmas.Option.{slice_get_within, slice_get-get_or, get_or_from_slice_get}
use Rattle.std.proofs.lemmas.List.Elements.{Contains-get_or}
use Rattle.loc_base.proofs.ShelfBools.{equal-true}
use Rattle.loc_base.proofs.ShelfLists.{slice_get-at}
use Rattle.suspect_map.specs.declared.group.Group.{Group}
use Rattle.unroller.specs.declared.free_bit.FreeBit.{FreeBit}
use Rattle.unroller.specs.Unrolls.{Unrolling}
use Rattle.form_laws.specs.Models.{HasOneColumnEach, is_bit}
use Rattle.unroller.specs.Reads.{HasFreeBit}
use Rattle.form_values.specs.ModelValues.{ArePlaces, IsPlace, width_in}
use Rattle.form_values.specs.Places.{AreApart, IsAbsent}

abbrev free : ℕ → ℕ → FreeBit
free place bit = record { place = place; bit = bit }

true-false : true ≡ false → ⊥
true-false is = cc

bit-is : (place bit : ℕ) → is_bit place bit (free place bit) ≡ true
bit-is place bit = and_from _ _ (eq-eqb place place refl) (eq-eqb bit bit refl)

bit-same : (x : FreeBit) (place bit : ℕ) → is_bit place bit x ≡ true → x ≡ free place bit
bit-same x place bit is =
    let (one, two) = and_parts (x.place == place) (x.bit == bit) is in
    ap₂ free (equal-true x.place place one) (equal-true x.bit bit two)

-- none of those before a number, from one on
abbrev pub IsAbsentTo : List FreeBit → ℕ → ℕ → ℕ → ℕ → Type 0
IsAbsentTo bits from n place bit = (i : ℕ) → from ≤ i → i < n → slice_get bits i ≡ Some (record { place = place; bit = bit }) → ⊥

pub absent-none : (bits : List FreeBit) (from place bit : ℕ) → IsAbsentTo bits from from place bit
absent-none bits from place bit i after below there = omega (arith, after, below)

pub absent-more : (bits : List FreeBit) (from i place bit : ℕ) (d : FreeBit) → IsAbsentTo bits from i place bit
    → is_bit place bit (get_or bits i d) ≡ false → IsAbsentTo bits from (i + 1) place bit
absent-more bits from i place bit d absent other j after below there = at (cases_lt j i)
  where
    at : (j < i) ⊎ (i ≤ j) → ⊥
    at (inl low) = absent j after low there
    at (inr past) =
        let here : j ≡ i = omega (arith, past, below) in
        let is : get_or bits i d ≡ free place bit =
        get_or_from_slice_get bits i (free place bit) d (ap (slice_get bits) (sym here) ∙ there) in
        true-false (sym (bit-is place bit) ∙ ap (is_bit place bit) (sym is) ∙ other)

pub absent-end : (bits : List FreeBit) (from i place bit : ℕ) → length bits ≤ i → IsAbsentTo bits from i place bit
    → IsTrue true ↔ IsAbsent bits from place bit
absent-end bits from i place bit past absent = (λ _. none, λ _. refl)
  where
    none : IsAbsent bits from place bit
    none j after there =
        let within = slice_get_within bits j (free place bit) there in absent j after (omega (arith, within, past)) there

pub absent-not : (bits : List FreeBit) (from i place bit : ℕ) (d : FreeBit) → from ≤ i → i < length bits
    → is_bit place bit (get_or bits i d) ≡ true → IsTrue false ↔ IsAbsent bits from place bit
absent-not bits from i place bit d after within is = (
  λ h. absurd cc,
  λ none. absurd (none i after (slice_get-get_or bits i d within ∙ ap Some (bit-same (get_or bits i d) place bit is))),
)

pub ruleset absent = (absent-none, absent-more, absent-end, absent-not)

pub columns-more : (bits : List FreeBit) (i : ℕ) (d : FreeBit) (answer : Bool) → AreApart bits i → answer ≡ true
    → IsTrue answer ↔ IsAbsent bits (i + 1) (get_or bits i d).place (get_or bits i d).bit → AreApart bits (i + 1)
columns-more bits i d answer apart holds tells one other place bit below less in_one in_other = at (cases_lt one i)
  where
    absent : IsAbsent bits (i + 1) (get_or bits i d).place (get_or bits i d).bit
    absent = tells.0 holds

    at : (one < i) ⊎ (i ≤ one) → ⊥
    at (inl low) = apart one other place bit low less in_one in_other
    at (inr past) =
        let here : one ≡ i = omega (arith, past, below) in
        let is : get_or bits i d ≡ free place bit =
        get_or_from_slice_get bits i (free place bit) d (ap (slice_get bits) (sym here) ∙ in_one) in
        absent other (omega (arith, here, less)) (in_other ∙ ap Some (sym is))

columns-apart : (u : Unrolling) (bits : List FreeBit) (i : ℕ) → bits ≡ u.bits → length bits ≤ i → AreApart bits i → HasOneColumnEach u
columns-apart u bits i same past apart one other place bit in_one in_other = at (cases_lt one other) (cases_lt other one)
  where
    one_there : slice_get bits one ≡ Some (free place bit)
    one_there = ap (λ bs. slice_get bs one) same ∙ in_one

    other_there : slice_get bits other ≡ Some (free place bit)
    other_there = ap (λ bs. slice_get bs other) same ∙ in_other

    at : (one < other) ⊎ (other ≤ one) → (other < one) ⊎ (one ≤ other) → one ≡ other
    at (inl less) more =
        let within = slice_get_within bits one (free place bit) one_there in
        absurd (apart one other place bit (omega (arith, within, past)) less one_there other_there)
    at (inr up) (inl less) =
        let within = slice_get_within bits other (free place bit) other_there in
        absurd (apart other one place bit (omega (arith, within, past)) less other_there one_there)
    at (inr up) (inr down) = omega (arith, up, down)

pub columns-end : (u : Unrolling) (bits : List FreeBit) (i : ℕ) → bits ≡ u.bits → length bits ≤ i → AreApart bits i
    → IsTrue true ↔ HasOneColumnEach u
columns-end u bits i same past apart = (λ _. columns-apart u bits i same past apart, λ _. refl)

pub columns-not : (u : Unrolling) (bits : List FreeBit) (i : ℕ) (d : FreeBit) (answer : Bool) → bits ≡ u.bits → i < length bits
    → answer ≡ false → IsTrue answer ↔ IsAbsent bits (i + 1) (get_or bits i d).place (get_or bits i d).bit
    → IsTrue false ↔ HasOneColumnEach u
columns-not u bits i d answer same within fails tells = (λ h. absurd cc, λ each. sym fails ∙ tells.1 (none each))
  where
    none : HasOneColumnEach u → IsAbsent bits (i + 1) (get_or bits i d).place (get_or bits i d).bit
    none each j after there =
        let here : slice_get u.bits i ≡ Some (get_or bits i d) =
        ap (λ bs. slice_get bs i) (sym same) ∙ slice_get-get_or bits i d within in
        let is : i ≡ j =
        each i j (get_or bits i d).place (get_or bits i d).bit here (ap (λ bs. slice_get bs j) (sym same) ∙ there) in
        omega (arith, after, is)

pub ruleset columns = (columns-more, columns-end, columns-not)

-- a place whose bits up to the last were found, and one that has too few, too many, or lacks a bit
pub place-there : (u : Unrolling) (bits : List FreeBit) (place width i : ℕ) → bits ≡ u.bits → width ≡ width_in bits place
    → 1 ≤ width → width ≤ 128 → width ≤ i → ((b : ℕ) → b < i → HasFreeBit u place b) → IsTrue true ↔ IsPlace u place
place-there u bits place width i same is some few past there = (
  λ _. record {
    some = subst (λ n. 1 ≤ n) wide some;
    few = subst (λ n. n ≤ 128) wide few;
    bits = λ bit below. there bit (omega (arith, below, wide, past));
  },
  λ _. refl,
)
  where
    wide : width ≡ width_in u.bits place
    wide = is ∙ ap (λ bs. width_in bs place) same

pub place-narrow : (u : Unrolling) (bits : List FreeBit) (place width : ℕ) → bits ≡ u.bits → width ≡ width_in bits place
    → width < 1 → IsTrue false ↔ IsPlace u place
place-narrow u bits place width same is none =
    (λ h. absurd cc, λ p. absurd (omega (arith, none, p.some, is ∙ ap (λ bs. width_in bs place) same)))

pub place-wide : (u : Unrolling) (bits : List FreeBit) (place width : ℕ) → bits ≡ u.bits → width ≡ width_in bits place
    → 128 < width → IsTrue false ↔ IsPlace u place
place-wide u bits place width same is many =
    (λ h. absurd cc, λ p. absurd (omega (arith, many, p.few, is ∙ ap (λ bs. width_in bs place) same)))

pub place-lacks : (u : Unrolling) (bits : List FreeBit) (place width bit : ℕ) (answer : Bool) → bits ≡ u.bits
    → width ≡ width_in bits place → bit < width → answer ≡ false → IsTrue answer ↔ HasFreeBit u place bit
    → IsTrue false ↔ IsPlace u place
place-lacks u bits place width bit answer same is within fails tells = (
  λ h. absurd cc,
  λ p. sym fails ∙ tells.1 (p.bits bit (omega (arith, within, is ∙ ap (λ bs. width_in bs place) same))),
)

pub ruleset one_place = (place-there, place-narrow, place-wide, place-lacks)

-- some places
pub all-there : (u : Unrolling) (places : List ℕ) (i : ℕ) → length places ≤ i
    → ((k d : ℕ) → k < i → IsPlace u (get_or places k d)) → IsTrue true ↔ All (IsPlace u) places
all-there u places i past there = (λ _. λ k d within. there k d (omega (arith, within, past)), λ _. refl)

pub all-lack : (u : Unrolling) (places : List ℕ) (i d : ℕ) (answer : Bool) → i < length places → answer ≡ false
    → IsTrue answer ↔ IsPlace u (get_or places i d) → IsTrue false ↔ All (IsPlace u) places
all-lack u places i d answer within fails tells = (λ h. absurd cc, λ all. sym fails ∙ tells.1 (all i d within))

pub ruleset some_places = (all-there, all-lack)

-- the places of groups before a number
abbrev pub ArePlacesTo : Unrolling → List Group → ℕ → Type 0
ArePlacesTo u groups n =
    (i place : ℕ) (group : Group) → i < n → slice_get groups i ≡ Some group → Contains group.places place → IsPlace u place

pub places-more : (u : Unrolling) (groups : List Group) (i : ℕ) (group : Group) (listed : List ℕ) (answer : Bool) → ArePlacesTo u groups i
    → group ≡ get_or groups i group → listed ≡ group.places → answer ≡ true → IsTrue answer ↔ All (IsPlace u) listed
    → ArePlacesTo u groups (i + 1)
places-more u groups i group listed answer are is same holds tells j place g below there member = at (cases_lt j i)
  where
    at : (j < i) ⊎ (i ≤ j) → IsPlace u place
    at (inl low) = are j place g low there member
    at (inr past) =
        let here : j ≡ i = omega (arith, past, below) in
        let this : group ≡ g = is ∙ get_or_from_slice_get groups i g group (ap (slice_get groups) (sym here) ∙ there) in
        let (k, within, at_place) = member in
        let places : listed ≡ g.places = same ∙ ap (λ (x : Group). x.places) this in
        subst (IsPlace u) (ap (λ qs. get_or qs k place) places ∙ at_place)
        (tells.0 holds k place (omega (arith, within, ap length places)))

pub places-end : (u : Unrolling) (groups : List Group) (i : ℕ) → length groups ≤ i → ArePlacesTo u groups i → IsTrue true ↔ ArePlaces u groups
places-end u groups i past are = (λ _. each, λ _. refl)
  where
    each : ArePlaces u groups
    each j place group there member =
        let within = slice_get_within groups j group there in
        are j place group (omega (arith, within, past)) there member

pub places-not : (u : Unrolling) (groups : List Group) (i : ℕ) (group : Group) (listed : List ℕ) (answer : Bool) → i < length groups
    → group ≡ get_or groups i group → listed ≡ group.places → answer ≡ false → IsTrue answer ↔ All (IsPlace u) listed
    → IsTrue false ↔ ArePlaces u groups
places-not u groups i group listed answer within is same fails tells = (λ h. absurd cc, λ are. sym fails ∙ tells.1 (each are))
  where
    each : ArePlaces u groups → All (IsPlace u) listed
    each are = subst (All (IsPlace u)) (sym same) (λ k d below.
        are i (get_or group.places k d) group (slice_get-at groups i group within is) (Contains-get_or group.places k d below))

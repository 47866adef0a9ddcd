-- Where no numbers make a cycle of a trace right, no choices make the trace right.
use Rattle.std.proofs.Common.{◌≡◌, ℕ, zero, suc, ◌<◌, ◌^◌, ◌==◌, true, List, [], ◌∷◌, length, get_or, refl, ap, sym, subst, arith}
use Rattle.std.specs.Prelude.{All, slice_get, Some}
use Rattle.std.specs.Option.{option_map_or}
use Rattle.std.proofs.lemmas.List.{get_or_default}
use Rattle.std.proofs.lemmas.List.Elements.{All-head, All-tail}
use Rattle.std.proofs.lemmas.Bool.{eq-eqb}
use Rattle.loc_base.proofs.ShelfLists.{list_any-member}
use Rattle.design_core.specs.declared.design.Design.{Design}
use Rattle.design_core.specs.declared.place.Place.{Place}
use Rattle.design_core.specs.declared.trace.Trace.{Trace}
use Rattle.design_core.specs.Run.{Choices, choice_at, samples_at, expected_at, IsRight, Meets}
use Rattle.design_core.specs.Works.{AreOfWidth}
use Rattle.plain_list.specs.Network.{IsNetwork}
use Rattle.plain_list.specs.Trial.{choice_of, AreNumbersFor}
use Rattle.design_core.specs.Explained.{is_one_of, place_width}
use Rattle.plain_list.specs.Rightness.{AreRight}
use Rattle.plain_list.proofs.Cycles.{cycles-by-meets}
use Rattle.plain_list.proofs.Choices.{Same, settled-same, numbers_of, number_for-numbers_of}

-- each place's number is of its width
abbrev pub IsOfPlace : Design → (ℕ → ℕ) → ℕ → Type 0
IsOfPlace d chosen p = chosen p < 2 ^ place_width d p

pub numbers_of-fit : (d : Design) (chosen : ℕ → ℕ) (places : List ℕ) → All (IsOfPlace d chosen) places → AreNumbersFor d places (numbers_of chosen places)
numbers_of-fit d chosen [] a = tt
numbers_of-fit d chosen (place ∷ places) a =
    (All-head (IsOfPlace d chosen) place places a, numbers_of-fit d chosen places (All-tail (IsOfPlace d chosen) place places a))

pub place_at : (places : List Place) (p : ℕ) → p < length places → (place : Place) × (slice_get places p ≡ Some place)
place_at [] p h = absurd (omega (arith, h))
place_at (place ∷ places) zero h = (place, refl)
place_at (place ∷ places) (suc p) h = place_at places p (omega (arith, h))

-- choices of the places' widths give numbers for them
pub chosen-fit : (d : Design) (places : List ℕ) (c : Choices) (t : ℕ) → All (λ p. p < length d.places.items) places → AreOfWidth d (is_one_of places) c
    → AreNumbersFor d places (numbers_of (c t) places)
chosen-fit d places c t all widths = numbers_of-fit d (c t) places (λ k e h. fits (get_or places k e) (list_any-member (λ place. place == get_or places k e) places (get_or places k e) (k, h, get_or_default places k (get_or places k e) e h) (eq-eqb (get_or places k e) (get_or places k e) refl)) (place_at d.places.items (get_or places k e) (all k e h)))
  where
    fits : (p : ℕ) → is_one_of places p ≡ true → (place : Place) × (slice_get d.places.items p ≡ Some place) → IsOfPlace d (c t) p
    fits p freed (place, at) = subst (λ n. c t p < 2 ^ n) (sym (ap (λ o. option_map_or (λ (q : Place). q.width) o 0) at)) (widths t p place at freed)

pub none-explained : (d : Design) (order : List ℕ) (trace : Trace) (places : List ℕ) (t : ℕ) → IsNetwork d order → t < trace.cycles → All (λ p. p < length d.places.items) places
    → ((tried : List ℕ) → AreNumbersFor d places tried → ¬ AreRight d order (samples_at d trace t) (expected_at d trace t) places tried)
    → (c : Choices) → AreOfWidth d (is_one_of places) c → ¬ Meets d trace (is_one_of places) c
none-explained d order trace places t n h all none c widths meets =
    none tried (chosen-fit d places c t all widths)
    (subst (IsRight d (expected_at d trace t)) (settled-same d order (samples_at d trace t) (choice_at (is_one_of places) c t) (choice_of places tried) same)
    (cycles-by-meets d order trace (is_one_of places) c n meets t h))
  where
    tried : List ℕ
    tried = numbers_of (c t) places

    same : Same (choice_at (is_one_of places) c t) (choice_of places tried)
    same = record { frees = λ p. refl; chosen = λ p freed. sym (number_for-numbers_of (c t) places p freed) }

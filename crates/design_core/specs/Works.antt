-- Which sets of suspects can explain what the traces show (Smith, Veneris, Ali and Viglas, Fault diagnosis and logic
-- debugging using Boolean satisfiability, IEEE TCAD 2005): the values are chosen for each trace and each cycle.
use Rattle.std.specs.Prelude.{ℕ, ◌≡◌, ◌<◌, ◌≤◌, ◌-◌, ◌^◌, ◌==◌, Bool, false, ◌&&◌, nat_le, IsTrue, List, length, slice_get, Some, All, Contains}
use Rattle.std.specs.Option.{option_map_or}
use Rattle.std.specs.List.{list_any}
use Rattle.std.specs.List.Sorted.{IsStrictlyIncreasing}
use Rattle.design_core.specs.declared.design.Design.{Design}
use Rattle.design_core.specs.declared.place.Place.{Place}
use Rattle.design_core.specs.declared.trace.Trace.{Trace}
use Rattle.design_core.specs.Run.{Choices, Meets}

-- the suspects, numbered from 1: each is the list of its places
abbrev pub Groups : Type 0
Groups = List (List ℕ)

-- whether a suspect has a place; there is no suspect 0
abbrev pub suspect_has : Groups → ℕ → ℕ → Bool
suspect_has groups place suspect =
    nat_le 1 suspect && option_map_or (λ places. list_any (λ p. p == place) places) (slice_get groups (suspect - 1)) false

-- whether a place is one of a set's suspects'
abbrev pub places_of : Groups → List ℕ → ℕ → Bool
places_of groups set place = list_any (suspect_has groups place) set

-- each chosen value of a freed place has the place's width
abbrev pub AreOfWidth : Design → (ℕ → Bool) → Choices → Type 0
AreOfWidth d freed c =
    (t p : ℕ) (place : Place) → slice_get d.places.items p ≡ Some place → IsTrue (freed p) → c t p < 2 ^ place.width

-- for each trace, some values of the set's places in each cycle make the trace right
abbrev pub Works : Design → List Trace → Groups → List ℕ → Type 0
Works d traces groups set =
    (trace : Trace) → Contains traces trace
    → (c : Choices) × AreOfWidth d (places_of groups set) c × Meets d trace (places_of groups set) c

-- a set of suspects: their numbers, ascending
pub record IsSet (groups : Groups) (set : List ℕ) : Type 0 where
  pub ascending : IsStrictlyIncreasing set
  pub numbers : All (λ suspect. (1 ≤ suspect) × (suspect ≤ length groups)) set

-- each member of the one set is one of the other
abbrev pub IsWithin : List ℕ → List ℕ → Type 0
IsWithin inner outer = All (Contains outer) inner

-- a set of which something holds that holds of no proper subset of it
pub record IsMinimalFor (Work : List ℕ → Type 0) (groups : Groups) (set : List ℕ) : Type 0 where
  pub works : Work set
  pub least : (inner : List ℕ) → IsSet groups inner → IsWithin inner set → ¬ IsWithin set inner → ¬ Work inner

-- a set that works, and no proper subset of it does
abbrev pub IsMinimal : Design → List Trace → Groups → List ℕ → Type 0
IsMinimal d traces groups set = IsMinimalFor (Works d traces groups) groups set

-- Which suspects are asked for by the names of granularities.
use Rattle.std.specs.Prelude.{◌≡◌, ℕ, ◌<◌, List, [], ◌∷◌, Option, Some, None, if◌then◌else◌, nat_eq}
use Rattle.std.specs.Option.{option_map_or}
use Rattle.std.specs.List.{flat_map}
use Rattle.std.specs.Cmp.Lexicographic.{pointwise}
use Rattle.design_core.specs.declared.place.Place.{Place}
use Rattle.suspect_map.specs.declared.group.Group.{Group}
use Rattle.suspect_map.specs.declared.choose.ChooseErr.{ChooseErr}
use Rattle.suspect_map.specs.declared.choose.ChooseErr.TheVariants as error

-- the first granularity that has a name
abbrev pub named : {G : Type 0} → (G → List ℕ) → List G → List ℕ → Option G
named called [] name = None
named called (kind ∷ kinds) name = if pointwise nat_eq (called kind) name then Some kind else named called kinds name

-- a name, where no granularity was found for it, else what is found later
abbrev pub unknown_or : {G : Type 0} → List ℕ → Option G → Option (List ℕ) → Option (List ℕ)
unknown_or name None later = Some name
unknown_or name (Some kind) later = later

-- the first name that no granularity has
abbrev pub unknown : {G : Type 0} → (G → List ℕ) → List G → List (List ℕ) → Option (List ℕ)
unknown called kinds [] = None
unknown called kinds (name ∷ names) = unknown_or name (named called kinds name) (unknown called kinds names)

-- the suspects of the first granularity of each name, joined
abbrev pub joined : {G : Type 0} → (G → List ℕ) → (G → List Place → List Group) → List G → List (List ℕ) → List Place → List Group
joined called lists kinds names places = flat_map (λ name. option_map_or (λ kind. lists kind places) (named called kinds name) []) names

-- why no suspects are given, the first unknown name and their number being known
abbrev pub ChooseCause : Option (List ℕ) → ℕ → ChooseErr → Type 0
ChooseCause unknown count error.NoMemory = Unit {0}
ChooseCause unknown count (error.UnknownKind name) = unknown ≡ Some name
ChooseCause unknown count error.Suspects = (unknown ≡ None) × (4096 < count)

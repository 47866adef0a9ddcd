-- Which suspects a list of places gives: a suspect for each key that a place has, with all places of that key.
use Rattle.std.specs.Prelude.{ℕ, ◌+◌, ◌<◌, Bool, false, List, [], ◌∷◌, ◌++◌, take, Option, Some, None, if◌then◌else◌, All}
use Rattle.std.specs.Option.{option_map_or}
use Rattle.std.specs.List.{list_any}
use Rattle.std.specs.List.Sorted.{IsStrictlyIncreasing}
use Rattle.design_core.specs.declared.place.Place.{Place}
use Rattle.suspect_map.specs.declared.group.Group.{Group}
use Rattle.suspect_map.specs.declared.label.Label.{Label}
use Rattle.suspect_map.specs.declared.label.Label.TheVariants as by

-- what is printed for a suspect, by a place of it
abbrev pub label_of : Label → Place → List ℕ
label_of by.Module place = place.«module»
label_of by.Path place = place.path

-- how places are grouped: the key of a place, where it has one; whether two keys are the same; and what a suspect's label is
pub record Grouping (K : Type 0) : Type 0 where
  pub key : Place → Option K
  pub same : K → K → Bool
  pub label : Label

-- whether a place has a given key
abbrev pub has_key : {K : Type 0} → Grouping K → K → Place → Bool
has_key g k place = option_map_or (λ own. g.same own k) (g.key place) false

-- the places in a list of what passes a test, numbered from a number on
abbrev pub numbers_at : {A : Type 0} → (A → Bool) → ℕ → List A → List ℕ
numbers_at test at [] = []
numbers_at test at (x ∷ xs) = if test x then at ∷ numbers_at test (at + 1) xs else numbers_at test (at + 1) xs

-- the suspect of a place's key, where no place before it has that key
abbrev pub group_at : {K : Type 0} → Grouping K → List ℕ → List Place → ℕ → Place → Option K → List Group
group_at g kind places at place None = []
group_at g kind places at place (Some k) =
    if list_any (has_key g k) (take at places) then []
    else record { kind = kind; label = label_of g.label place; places = numbers_at (has_key g k) 0 places } ∷ []

-- the suspects whose least place is one of the rest, which are numbered from a number on
abbrev pub groups_from : {K : Type 0} → Grouping K → List ℕ → List Place → ℕ → List Place → List Group
groups_from g kind places at [] = []
groups_from g kind places at (place ∷ rest) =
    group_at g kind places at place (g.key place) ++ groups_from g kind places (at + 1) rest

-- the suspects of a list of places, in the order of their least places
abbrev pub groups_of : {K : Type 0} → Grouping K → List ℕ → List Place → List Group
groups_of g kind places = groups_from g kind places 0 places

-- each place of each suspect is below a number
abbrev pub AreWithin : ℕ → List Group → Type 0
AreWithin count groups = All (λ group. All (λ place. place < count) group.places) groups

-- the places of each suspect ascend
abbrev pub AreAscending : List Group → Type 0
AreAscending groups = All (λ group. IsStrictlyIncreasing group.places) groups

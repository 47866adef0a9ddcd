-- What it is to be the suspects of a list of places, said without how they are found.
use Rattle.std.specs.Prelude.{◌≡◌, ℕ, ◌<◌, ◌↔◌, List, map, length, Some, All, Contains, slice_get, slice_index, Decides}
use Rattle.std.specs.List.Sorted.{IsStrictlyIncreasing}
use Rattle.design_core.specs.declared.place.Place.{Place}
use Rattle.suspect_map.specs.declared.group.Group.{Group}
use Rattle.suspect_map.specs.Groups.{Grouping, label_of}

-- a number is that of a place with a key
pub record HasKey {K : Type 0} (g : Grouping K) (places : List Place) (k : K) (number : ℕ) : Type 0 where
  pub place : Place
  pub there : slice_get places number ≡ Some place
  pub key : g.key place ≡ Some k

-- the least place of a suspect
abbrev pub least : Group → ℕ
least group = slice_index group.places 0

-- a suspect is of one key: it has each place of that key, ascending, and some; its label is that of its least place
pub record IsSuspect {K : Type 0} (g : Grouping K) (kind : List ℕ) (places : List Place) (group : Group) : Type 0 where
  pub key : K
  pub named : group.kind ≡ kind
  pub some : 0 < length group.places
  pub ascending : IsStrictlyIncreasing group.places
  pub whole : (number : ℕ) → Contains group.places number ↔ HasKey g places key number
  pub label : (place : Place) → slice_get places (least group) ≡ Some place → group.label ≡ label_of g.label place

-- the suspects of a list of places: every place with a key is in one, and their least places ascend
pub record AreSuspects {K : Type 0} (g : Grouping K) (kind : List ℕ) (places : List Place) (groups : List Group) : Type 0 where
  pub each : All (IsSuspect g kind places) groups
  pub all : (k : K) (number : ℕ) → HasKey g places k number → (group : Group) × Contains groups group × Contains group.places number
  pub ordered : IsStrictlyIncreasing (map least groups)

-- two keys are the same where their test says so
abbrev pub TestsKeys : {K : Type 0} → Grouping K → Type 0
TestsKeys {K} g = (a b : K) → Decides (g.same a b) (a ≡ b)

-- places, how they are grouped, what the suspects are called, and two lists of suspects
pub record TwoGroupings (K : Type 0) : Type 0 where
  pub grouping : Grouping K
  pub kind : List ℕ
  pub places : List Place
  pub one : List Group
  pub other : List Group

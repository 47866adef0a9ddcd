-- Private, for the functions inside this crate: how suspects are found. Each place is given the least place of its suspect, which is
-- the first with its key.
use Rattle.std.specs.Prelude.{◌≡◌, ℕ, ◌+◌, ◌<◌, ◌≤◌, Bool, false, List, [], ◌∷◌, ◌++◌, map, length, drop, slice_index_or, Option, Some, None, if◌then◌else◌, nat_eq, unwrap_or}
use Rattle.std.specs.Option.{option_map_or}
use Rattle.std.specs.HashMap.{HashMap}
use Rattle.std.specs.HashMap as hash
use Rattle.design_core.specs.declared.place.Place.{Place}
use Rattle.suspect_map.specs.declared.group.Group.{Group}
use Rattle.suspect_map.specs.declared.label.Label.{Label}
use Rattle.suspect_map.specs.Groups.{label_of, numbers_at}

-- the number of the first that passes a test, numbered from a number on
abbrev pub first_at : {A : Type 0} → (A → Bool) → ℕ → List A → Option ℕ
first_at test at [] = None
first_at test at (x ∷ xs) = if test x then Some at else first_at test (at + 1) xs

-- whether a key is the same as one
abbrev pub is_same : {K : Type 0} → (K → K → Bool) → K → Option K → Bool
is_same same k key = option_map_or (λ own. same own k) key false

-- the number of the first key that is the same as one
abbrev pub first_by : {K : Type 0} → (K → K → Bool) → List (Option K) → Option K → Option ℕ
first_by same keys None = None
first_by same keys (Some k) = first_at (is_same same k) 0 keys

-- for each key, the number of the first that is the same
abbrev pub firsts_by : {K : Type 0} → (K → K → Bool) → List (Option K) → List (Option ℕ)
firsts_by same keys = map (first_by same keys) keys

-- the number under a key in a table
abbrev pub under : {S : Type 0} → HashMap ℕ ℕ S → ℕ → Option ℕ
under table key = hash.get_by (nat_eq key) table

-- the number of a key that is met: the one under it, else a new one
abbrev pub met : {K : Type 0} → (K → Option ℕ) → ℕ → Option K → Option ℕ
met numbers new None = None
met numbers new (Some k) = Some (unwrap_or (numbers k) new)

-- the numbers under keys once a key was met
abbrev pub after : {K : Type 0} → (K → K → Bool) → (K → Option ℕ) → ℕ → Option K → K → Option ℕ
after same numbers new None q = numbers q
after same numbers new (Some k) q = if same k q then Some (unwrap_or (numbers k) new) else numbers q

-- whether a number is the one that is given
abbrev pub is_number : ℕ → Option ℕ → Bool
is_number number first = option_map_or (nat_eq number) first false

-- each number that is given is below one
abbrev pub PointsWithin : ℕ → List (Option ℕ) → Type 0
PointsWithin count numbers = (p q : ℕ) → slice_index_or numbers p None ≡ Some q → q < count

-- the chain from a number on runs through these, the next of each number being given
abbrev pub RunsThrough : List (Option ℕ) → Option ℕ → List ℕ → Type 0
RunsThrough next at [] = at ≡ None
RunsThrough next at (number ∷ rest) = (at ≡ Some number) × RunsThrough next (slice_index_or next number None) rest

-- the next of each number is above it, and has a next of its own
abbrev pub GoesForward : List (Option ℕ) → Type 0
GoesForward next = (p q : ℕ) → slice_index_or next p None ≡ Some q → (p < q) × (q < length next)

-- the places from a number on are chained by the suspects that their firsts lead
pub record IsChained (firsts : List (Option ℕ)) (from : ℕ) (heads next : List (Option ℕ)) : Type 0 where
  pub heads_long : length heads ≡ length firsts
  pub next_long : length next ≡ length firsts
  pub heads_from : (p q : ℕ) → slice_index_or heads p None ≡ Some q → (from ≤ q) × (q < length next)
  pub forward : GoesForward next
  pub runs : (p : ℕ) → p < length firsts → RunsThrough next (slice_index_or heads p None) (numbers_at (is_number p) from (drop from firsts))

-- a suspect by a place of it and its members
abbrev pub group_of : Label → List ℕ → Place → List ℕ → Group
group_of label kind place members = record { kind = kind; label = label_of label place; places = members }

-- the suspect that a place leads, where it is its own first
abbrev pub led_at : Label → List ℕ → List (Option ℕ) → ℕ → Place → Option ℕ → List Group
led_at label kind firsts at place first =
    if is_number at first then group_of label kind place (numbers_at (is_number at) 0 firsts) ∷ [] else []

-- the suspects that the rest of the places lead, with their firsts beside them
abbrev pub led_from : Label → List ℕ → List (Option ℕ) → ℕ → List Place → List (Option ℕ) → List Group
led_from label kind firsts at [] _ = []
led_from label kind firsts at (place ∷ rest) [] = []
led_from label kind firsts at (place ∷ rest) (first ∷ behind) =
    led_at label kind firsts at place first ++ led_from label kind firsts (at + 1) rest behind

-- The lines of a set. Each ends with a newline.
use Rattle.std.specs.Prelude.{ℕ, ◌-◌, ◌<◌, ◌≤◌, List, [], ◌∷◌, ◌++◌, length, codes, decimal, slice_get, All}
use Rattle.std.specs.List.{flat_map, join_by}
use Rattle.std.specs.Option.{option_map_or}
use Rattle.printed_text.specs.Numerals.{newline}
use Rattle.design_core.specs.declared.place.Place.{Place}
use Rattle.suspect_map.specs.declared.group.Group.{Group}

-- `set {1,2}`
abbrev pub set_line : List ℕ → List ℕ
set_line members = codes "set {" ++ join_by decimal (codes ",") members ++ codes "}" ++ newline

-- the line of a group's first place, which is its least where they ascend, and 0 for a group without places
abbrev pub line_of : List Place → List ℕ → ℕ
line_of places [] = 0
line_of places (first ∷ more) = option_map_or (λ place. place.line) (slice_get places first) 0

-- two spaces, and of a suspect its number, its kind, its line and its label
abbrev pub group_line : List Place → ℕ → Group → List ℕ
group_line places number group =
    codes "  " ++ decimal number ++ codes " " ++ group.kind ++ codes " " ++ decimal (line_of places group.places) ++ codes " " ++ group.label ++ newline

abbrev pub member_line : List Group → List Place → ℕ → List ℕ
member_line groups places number = option_map_or (group_line places number) (slice_get groups (number - 1)) []

-- the number of a suspect, from 1
abbrev pub IsMemberOf : List Group → ℕ → Type 0
IsMemberOf groups number = (1 ≤ number) × (number ≤ length groups)

-- each number of each group is that of a place
abbrev pub AreWithin : List Place → List Group → Type 0
AreWithin places groups = All (λ group. All (λ place. place < length places) group.places) groups

-- the lines of a set: its own, and one for each member
abbrev pub set_lines : List Group → List Place → List ℕ → List ℕ
set_lines groups places members = set_line members ++ flat_map (member_line groups places) members

-- A granularity of the tests' own.
use Rattle.std.specs.Prelude.{true, List, [], ◌∷◌, codes}
use Rattle.design_core.specs.declared.place.Place.{Place}
use Rattle.suspect_map.specs.declared.group.Group.{Group}
use Rattle.suspect_map.specs.Groups.{numbers_at}

-- one suspect with all places
abbrev pub everything : List Place → List Group
everything places = record { kind = codes "all"; label = codes "all"; places = numbers_at (λ _. true) 0 places } ∷ []

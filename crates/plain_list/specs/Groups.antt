-- The suspects of the plain list: each place of the design is a suspect of its own.
use Rattle.std.specs.Prelude.{ℕ, ◌-◌, List, [], ◌∷◌, length, map}
use Rattle.design_core.specs.declared.design.Design.{Design}
use Rattle.design_core.specs.Works.{Groups}
use Rattle.plain_list.specs.Candidates.{numbers_from}

-- the suspects of a design: the first has the place 0, and so on
abbrev pub groups_of : Design → Groups
groups_of d = map (λ place. place ∷ []) (numbers_from 0 (length d.places.items))

-- the places of a set of suspects
abbrev pub places_in : List ℕ → List ℕ
places_in set = map (λ suspect. suspect - 1) set

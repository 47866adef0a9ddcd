-- The arms of a case one by one, as the code binds them. What only private contracts cite.
use Rattle.std.specs.Prelude.{Bool, true, false, List, [], ◌∷◌, ◌++◌, Result, Ok}
use Rattle.design_core.specs.declared.place.Place.{Place}
use Rattle.design_core.specs.declared.statement.Stmt.{Stmt}
use Rattle.design_core.specs.declared.statement.Stmt.TheVariants as stmt
use Rattle.v_hierarchy.specs.Views.{PlainArm, labelled, otherwise}
use Rattle.v_binding.specs.declared.error.BindErr.{BindErr}
use Rattle.v_binding.specs.Steps.{◌>>=◌, each}
use Rattle.v_binding.specs.Names.{Names}
use Rattle.v_binding.specs.Places.{Home, Placed, placed}
use Rattle.v_binding.specs.Cases.{Context, label_at}
use Rattle.v_binding.specs.Statements as written
use Rattle.v_binding.specs.Statements.{as_default, bound}
use Rattle.bind_statements.specs.declared.chosen.BoundArm.{BoundArm}
use Rattle.bind_statements.specs.declared.chosen.BoundArm.TheVariants.{Item as item, Other as other}
use Rattle.bind_statements.specs.declared.chosen.Chosen.{Chosen}
use Rattle.v_binding.specs.Turns.{FitTurns}

abbrev pub chosen_of : Chosen → written.Chosen
chosen_of c = record { items = c.items; other = c.other }

abbrev pub is_nothing : Stmt → Bool
is_nothing stmt.Nothing = true
is_nothing _ = false

-- an arm by itself
abbrev pub bound_arm : Home → Names → Context → PlainArm → List Place → Result (Placed BoundArm) BindErr
bound_arm home names c (labelled labels x) places =
    each (label_at names c) labels [] >>= λ list. bound home names x places >>= λ one. Ok (placed (item (record { labels = list; body = one.value })) one.places)
bound_arm home names c (otherwise x) places = bound home names x places >>= λ one. Ok (placed (other one.value) one.places)

-- one arm more
abbrev pub chosen_with : written.Chosen → BoundArm → written.Chosen
chosen_with done (item i) = record { items = done.items ++ i ∷ []; other = done.other }
chosen_with done (other s) = record { items = done.items; other = as_default s }

-- the turns of an arm's statement
abbrev pub FitArm : PlainArm → Type 0
FitArm (labelled _ body) = FitTurns body
FitArm (otherwise body) = FitTurns body

-- The names that the declarations of one item add (IEEE 1364-2005, 4.2, 4.10 and 12.3.3): the range or the type first, then each name.
use Rattle.std.specs.Prelude.{List, ◌∷◌, Option, Result}
use Rattle.v_syntax.specs.declared.declaration.Identifier.{Identifier}
use Rattle.v_syntax.specs.declared.item.ParameterKind.{ParameterKind}
use Rattle.v_syntax.specs.PartTree.{PlainRange, PlainNamed}
use Rattle.v_syntax.specs.ItemTree.{PlainDeclarator, PlainParameterType}
use Rattle.v_hierarchy.specs.declared.bounds.Bounds.{Bounds}
use Rattle.v_hierarchy.specs.declared.error.ElabErr.{ElabErr}
use Rattle.v_hierarchy.specs.declared.signal.Signal.{Signal}
use Rattle.v_hierarchy.specs.Constants.{bounds_if}
use Rattle.v_hierarchy.specs.Names.{Entry, look_in}
use Rattle.v_hierarchy.specs.Parameters.{kind_at}
use Rattle.v_hierarchy.specs.Steps.{◌>>=◌, each}
use Rattle.v_hierarchy.specs.Items.{Place, ported, direction_of, net_of, parameter_of}

abbrev pub with_bounds : Signal → Option Bounds → Signal
with_bounds s b = record { direction = s.direction; kind = s.kind; signed = s.signed; bounds = b }

abbrev pub ports_declared : Place → Signal → Option PlainRange → List Identifier → List Entry → Result (List Entry) ElabErr
ports_declared place s range list names =
    bounds_if (look_in (names ∷ place.outer)) range >>= λ b. each (direction_of (ported place) (with_bounds s b)) list names

abbrev pub nets_declared : List (List Entry) → Signal → Option PlainRange → List PlainDeclarator → List Entry → Result (List Entry) ElabErr
nets_declared outer s range list names = bounds_if (look_in (names ∷ outer)) range >>= λ b. each (net_of (with_bounds s b)) list names

abbrev pub parameters_declared : Place → ParameterKind → PlainParameterType → List PlainNamed → List Entry → Result (List Entry) ElabErr
parameters_declared place own type_of list names = kind_at (look_in (names ∷ place.outer)) type_of >>= λ kind. each (parameter_of place own kind) list names

-- The parts of items, as private contracts cite them.
use Rattle.std.specs.Prelude.{ℕ, List, ◌∷◌, Bool, Option, Some, None, Result, Ok, Err}
use Rattle.loc_base.specs.declared.span.Span.{Span}
use Rattle.v_syntax.specs.declared.site.Site.{Site}
use Rattle.v_syntax.specs.declared.declaration.Identifier.{Identifier}
use Rattle.v_syntax.specs.declared.item.ParameterKind.{ParameterKind}
use Rattle.v_syntax.specs.PartTree.{PlainRange, PlainNamed}
use Rattle.v_syntax.specs.StatementTree.{PlainHead, PlainStatement}
use Rattle.v_syntax.specs.ModuleTree.{PlainModule}
use Rattle.v_syntax.specs.ItemTree.{PlainSensitivity, PlainDeclarator, PlainParameterType, PlainConnections, PlainInstance, PlainItem, PlainBlock}
use Rattle.v_sizes.specs.declared.meaning.Const.{Const}
use Rattle.v_hierarchy.specs.declared.error.ElabErr.{ElabErr}
use Rattle.v_hierarchy.specs.declared.error.ElabErr.TheVariants as fault
use Rattle.v_hierarchy.specs.declared.signal.Signal.{Signal}
use Rattle.v_hierarchy.specs.Names.{Entry, integer, genvar, look_in}
use Rattle.v_hierarchy.specs.Parameters.{Given, given_at}
use Rattle.v_hierarchy.specs.Paths.{below}
use Rattle.v_hierarchy.specs.Steps.{◌>>=◌, each}
use Rattle.v_hierarchy.specs.Unrolled.{unrolled, begun, stepped, turns, most_turns}
use Rattle.v_hierarchy.specs.Items.{Child, Place, Met, frames, with_names, with_copy, written, always, named_as, module_named, instance_of, loop_genvar, turn_met, turn_of, block_of, body_of}
use Rattle.v_connections.specs.Declarations.{ports_declared, nets_declared, parameters_declared}

-- ---- items without items inside
abbrev pub ports_met : Place → Signal → Option PlainRange → List Identifier → Met → Result Met ElabErr
ports_met place s range list met = ports_declared place s range list met.names >>= λ more. Ok (with_names met more)

abbrev pub nets_met : List (List Entry) → PlainItem → Signal → Option PlainRange → List PlainDeclarator → Met → Result Met ElabErr
nets_met outer x s range list met = nets_declared outer s range list met.names >>= λ more. Ok (with_copy (with_names met more) (written x))

abbrev pub integers_met : PlainItem → List Identifier → Met → Result Met ElabErr
integers_met x list met = each (named_as integer) list met.names >>= λ more. Ok (with_copy (with_names met more) (written x))

abbrev pub genvars_met : List Identifier → Met → Result Met ElabErr
genvars_met list met = each (named_as genvar) list met.names >>= λ more. Ok (with_names met more)

abbrev pub parameters_met : Place → ParameterKind → PlainParameterType → List PlainNamed → Met → Result Met ElabErr
parameters_met place own type_of list met = parameters_declared place own type_of list met.names >>= λ more. Ok (with_names met more)

abbrev pub always_met : List (List Entry) → Site → PlainSensitivity → PlainStatement → Met → Result Met ElabErr
always_met outer s events body met =
    unrolled (met.names ∷ outer) body met.left >>= λ x. Ok (with_copy (record { names = met.names; copies = met.copies; left = x.1 }) (always s events x.0))

-- ---- module instances
abbrev pub unit_named : List PlainModule → Identifier → Result PlainModule ElabErr
unit_named units name = elim (module_named name.name units) [
  | Some m ↦ Ok m
  | None ↦ Err (fault.UnknownModule name.site.span)
]

-- the module that an item names, with the values that it gives
abbrev pub making_met : List PlainModule → List (List Entry) → Identifier → Option PlainConnections → Result (PlainModule × List Given) ElabErr
making_met units scopes name parameters = unit_named units name >>= λ m. given_at (look_in scopes) m parameters >>= λ values. Ok (m, values)

abbrev pub instances_met : Place → Site → Identifier → Option PlainConnections → List PlainInstance → Met → Result Met ElabErr
instances_met place s name parameters list met =
    making_met place.units (frames place met) name parameters >>= λ m. each (instance_of place s m.0 m.1) list met

-- an instance of it below a path
abbrev pub child_made : List ℕ → PlainModule → List Given → PlainInstance → Child
child_made path m values i = record { «module» = m; values = values; path = below path i.name.name; connections = i.connections }

-- ---- generates
abbrev pub block_met : Place → PlainBlock → Met → Result Met ElabErr
block_met place block = block_of (λ own. body_of own block) place block

-- a turn of a generate loop, which is counted
abbrev pub turn_met_at : Place → Span → PlainHead → PlainBlock → List (List Entry) → Const → Met → Result Met ElabErr
turn_met_at place span head body scopes value met = turn_met span met >>= turn_of (λ own. body_of own body) place head.variable body scopes value

-- the turns from one on
abbrev pub turns_met : Place → Span → PlainHead → PlainBlock → List (List Entry) → Const × Bool → Met → Result Met ElabErr
turns_met place span head body scopes first met =
    turns most_turns span (turn_met span) (turn_of (λ own. body_of own body) place head.variable body scopes) (stepped scopes head) first met

abbrev pub loop_met : Place → Span → PlainHead → PlainBlock → Met → Result Met ElabErr
loop_met place span head body met =
    loop_genvar (frames place met) head.variable >>= λ _. begun (frames place met) head >>= λ first. turns_met place span head body (frames place met) first met

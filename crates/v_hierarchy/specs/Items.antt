-- What the items of a module make (IEEE 1364-2005, 12.1 to 12.4): names, children, and items that stay as they are written, with
-- generates expanded where they stand.
use Rattle.std.specs.Prelude.{⊤, ℕ, zero, suc, Bool, if◌then◌else◌, List, [], ◌∷◌, ◌++◌, Option, Some, None, Result, Ok, Err}
use Rattle.std.specs.Option.{option_map_or}
use Rattle.loc_base.specs.declared.span.Span.{Span}
use Rattle.v_syntax.specs.declared.site.Site.{Site}
use Rattle.v_syntax.specs.declared.declaration.Identifier.{Identifier}
use Rattle.v_syntax.specs.declared.item.ParameterKind.{ParameterKind}
use Rattle.v_syntax.specs.declared.item.ParameterKind.TheVariants as parameter_kind
use Rattle.v_syntax.specs.Tree.{Tree}
use Rattle.v_syntax.specs.PartTree.{PlainNamed}
use Rattle.v_syntax.specs.ItemTree.{PlainSensitivity, PlainDeclarator, PlainConnection, PlainConnections, ordered, named, PlainInstance, PlainItem, port_item, net_item, integer_item, genvar_item, parameter_item, assign_item, gate_item, always_item, initial_item, instance_item, generate_item, loop_item, if_item, if_else_item, PlainBlock, single, several, Items, no_items, more_items}
use Rattle.v_syntax.specs.ModuleTree.{PlainModule, PlainPorts}
use Rattle.v_sizes.specs.declared.meaning.Const.{Const}
use Rattle.v_hierarchy.specs.declared.error.ElabErr.{ElabErr}
use Rattle.v_hierarchy.specs.declared.error.ElabErr.TheVariants as fault
use Rattle.v_hierarchy.specs.declared.left.Left.{Left}
use Rattle.v_hierarchy.specs.Steps.{◌>>=◌, each, turned, placed}
use Rattle.v_hierarchy.specs.Constants.{bounds_if, site_of}
use Rattle.v_hierarchy.specs.Constants as whole
use Rattle.v_hierarchy.specs.declared.signal.Signal.{Signal}
use Rattle.v_hierarchy.specs.declared.kind.Kind.{Kind}
use Rattle.v_hierarchy.specs.Names.{Entry, Standing, signal, array, integer, genvar, same_name, declared, find_in, look_in}
use Rattle.v_hierarchy.specs.Parameters.{Given, given, given_at, kind_at, parameter, is_among}
use Rattle.v_hierarchy.specs.Headers.{port_names}
use Rattle.v_hierarchy.specs.Paths.{below, block_part, turn_part}
use Rattle.v_hierarchy.specs.Unrolled.{Steps, unrolled, at_turn, holds_at, begun, stepped, turns, most_turns}

-- ---- what items make
-- a module instance: its module with the values that it gives, its path, and what it is connected to
pub record Child : Type 0 where
  pub «module» : PlainModule
  pub values : List Given
  pub path : List ℕ
  pub connections : PlainConnections

mutual
  pub data Copied : Type 0 where
    -- an item as it is written
    written : PlainItem → Copied
    -- an always block with its loops unrolled
    always : Site → PlainSensitivity → Steps → Copied
    -- of the item that makes it
    child : Site → Child → Copied
    inner : Block → Copied
    -- a turn of a generate loop, with its variable's value
    turn : Identifier → Const → Block → Copied

  -- a scope: its path, its names in the order of their declarations, and what its items make
  pub data Block : Type 0 where
    scope : List ℕ → List Entry → Copies → Block

  pub data Copies : Type 0 where
    no_copy : Copies
    copy : Copied → Copies → Copies

-- one more, at the end
abbrev pub and_copy : Copies → Copied → Copies
and_copy no_copy x = copy x no_copy
and_copy (copy y rest) x = copy y (and_copy rest x)

-- ---- where an item stands
pub record Place : Type 0 where
  -- the modules of the text
  pub units : List PlainModule
  -- how many levels of instances may stand below
  pub levels : ℕ
  pub path : List ℕ
  -- the scopes around its own, the innermost first
  pub outer : List (List Entry)
  -- the ports of the module and the values given to its parameters; nothing in a generate block
  pub header : Option (PlainPorts × List Given)

-- what is met of a scope so far, and what is left of the counts
pub record Met : Type 0 where
  pub names : List Entry
  pub copies : Copies
  pub left : Left

abbrev pub frames : Place → Met → List (List Entry)
frames place met = met.names ∷ place.outer

abbrev pub with_names : Met → List Entry → Met
with_names met names = record { names = names; copies = met.copies; left = met.left }

abbrev pub with_copy : Met → Copied → Met
with_copy met x = record { names = met.names; copies = and_copy met.copies x; left = met.left }

-- ---- declarations (4.2, 4.9, 12.3.3)
abbrev pub ported : Place → List (List ℕ)
ported place = option_map_or (λ h. port_names h.0) place.header []

-- a direction for a name of the header
abbrev pub direction_of : List (List ℕ) → Signal → Identifier → List Entry → Result (List Entry) ElabErr
direction_of ports s name names =
    if is_among name.name ports then declared (record { name = name; standing = signal s }) names else Err (fault.PortName name.site.span)

-- a net or a register, or with a range of its own an array
abbrev pub net_of : Signal → PlainDeclarator → List Entry → Result (List Entry) ElabErr
net_of s d names = declared (record { name = d.name; standing = option_map_or (array s) d.range (signal s) }) names

abbrev pub named_as : Standing → Identifier → List Entry → Result (List Entry) ElabErr
named_as s name names = declared (record { name = name; standing = s }) names

-- the value that is given to a parameter from outside, which a local one or one in a generate block has none of
abbrev pub outside_value : Place → ParameterKind → List ℕ → Option Const
outside_value place parameter_kind.Local name = None
outside_value place parameter_kind.Parameter name = option_map_or (λ h. given h.1 name) place.header None

abbrev pub parameter_of : Place → ParameterKind → Kind → PlainNamed → List Entry → Result (List Entry) ElabErr
parameter_of place own kind x names = parameter place.outer kind (outside_value place own x.name.name) x.name x.value names

-- ---- module instances (12.1.2, 12.3.5, 12.3.6)
abbrev pub module_named : List ℕ → List PlainModule → Option PlainModule
module_named name [] = None
module_named name (m ∷ ms) = if same_name m.name.name name then Some m else module_named name ms

-- no more connections than ports
abbrev pub few : Span → List (List ℕ) → List (Option Tree) → Result ⊤ ElabErr
few span ports [] = Ok tt
few span (port ∷ ports) (value ∷ values) = few span ports values
few span [] (Some e ∷ values) = Err (fault.PortName (site_of e).span)
few span [] (None ∷ values) = Err (fault.PortName span)

-- each to a port, once
abbrev pub connected : List (List ℕ) → PlainConnection → List (List ℕ) → Result (List (List ℕ)) ElabErr
connected ports c seen =
    if is_among c.name.name ports
    then (if is_among c.name.name seen then Err (fault.PortName c.name.site.span) else Ok (seen ++ c.name.name ∷ []))
    else Err (fault.PortName c.name.site.span)

abbrev pub connections_fit : Span → PlainModule → PlainConnections → Result ⊤ ElabErr
connections_fit span m (ordered values) = few span (port_names m.ports) values
connections_fit span m (named list) = each (connected (port_names m.ports)) list [] >>= λ _. Ok tt

-- an instance stands at most so many levels below the top
abbrev pub not_deeper : ℕ → Span → Result ⊤ ElabErr
not_deeper zero span = Err (fault.Depth span)
not_deeper (suc levels) span = Ok tt

abbrev pub instance_of : Place → Site → PlainModule → List Given → PlainInstance → Met → Result Met ElabErr
instance_of place s m values i met =
    not_deeper place.levels i.name.site.span >>= λ _. placed i.name.site.span met.left >>= λ left. connections_fit i.site.span m i.connections >>= λ _.
    Ok (with_copy (record { names = met.names; copies = met.copies; left = left })
    (child s (record { «module» = m; values = values; path = below place.path i.name.name; connections = i.connections })))

abbrev pub unit_of : Place → Identifier → Result PlainModule ElabErr
unit_of place name = elim (module_named name.name place.units) [
  | Some m ↦ Ok m
  | None ↦ Err (fault.UnknownModule name.site.span)
]

-- ---- generates (12.4)
-- a generate loop's variable is declared a genvar, and isn't that of a loop around it
abbrev pub loop_genvar : List (List Entry) → Identifier → Result ⊤ ElabErr
loop_genvar scopes name = elim (find_in scopes name.name) [
  | None ↦ Err (fault.UnknownName name.site.span)
  | Some genvar ↦ Ok tt
  | Some _ ↦ Err (fault.NotConstant name.site.span)
]

abbrev pub turn_met : Span → Met → Result Met ElabErr
turn_met span met = turned span met.left >>= λ left. Ok (record { names = met.names; copies = met.copies; left = left })

-- the place of a generate block, of a part of the path and with the scopes around it
abbrev pub within : Place → List ℕ → List (List Entry) → Place
within place part scopes = record { units = place.units; levels = place.levels; path = below place.path part; outer = scopes; header = None }

-- what is met when a scope begins
abbrev pub begins : List Entry → Left → Met
begins names left = record { names = names; copies = no_copy; left = left }

-- the scope that ends
abbrev pub scope_of : Place → Met → Block
scope_of place own = scope place.path own.names own.copies

-- a scope that ends becomes a part of the one around it
abbrev pub ends : Met → Met → Copied → Met
ends met own x = with_copy (record { names = met.names; copies = met.copies; left = own.left }) x

abbrev pub chosen : Bool → (Met → Result Met ElabErr) → (Met → Result Met ElabErr) → Met → Result Met ElabErr
chosen holds one other met = if holds then one met else other met

-- a block that a condition chooses, where what stands in it is met so
abbrev pub block_of : (Place → Met → Result Met ElabErr) → Place → PlainBlock → Met → Result Met ElabErr
block_of body place block met =
    let own = within place (block_part block) (frames place met) in
    body own (begins [] met.left) >>= λ x. Ok (ends met x (inner (scope_of own x)))

-- a loop's block at one turn
abbrev pub turn_of : (Place → Met → Result Met ElabErr) → Place → Identifier → PlainBlock → List (List Entry) → Const → Met → Result Met ElabErr
turn_of body place variable block scopes value met =
    let own = within place (turn_part block (whole.integer value)) (at_turn variable value scopes) in
    body own (begins [] met.left) >>= λ x. Ok (ends met x (turn variable value (scope_of own x)))

-- ---- items
abbrev mutual
  pub item : Place → PlainItem → Met → Result Met ElabErr
  item place (port_item _ direction kind signed range names) met =
      bounds_if (look_in (frames place met)) range >>= λ b.
      each (direction_of (ported place) (record { direction = Some direction; kind = kind; signed = signed; bounds = b })) names met.names >>= λ more.
      Ok (with_names met more)
  item place (net_item s kind signed range delay names) met =
      bounds_if (look_in (frames place met)) range >>= λ b.
      each (net_of (record { direction = None; kind = Some kind; signed = signed; bounds = b })) names met.names >>= λ more.
      Ok (with_copy (with_names met more) (written (net_item s kind signed range delay names)))
  item place (integer_item s names) met =
      each (named_as integer) names met.names >>= λ more. Ok (with_copy (with_names met more) (written (integer_item s names)))
  item place (genvar_item _ names) met = each (named_as genvar) names met.names >>= λ more. Ok (with_names met more)
  item place (parameter_item _ own type_of values) met =
      kind_at (look_in (frames place met)) type_of >>= λ kind. each (parameter_of place own kind) values met.names >>= λ more. Ok (with_names met more)
  item place (assign_item s delay assignments) met = Ok (with_copy met (written (assign_item s delay assignments)))
  item place (gate_item s kind delay gates) met = Ok (with_copy met (written (gate_item s kind delay gates)))
  item place (initial_item s body) met = Ok (with_copy met (written (initial_item s body)))
  item place (always_item s events body) met =
      unrolled (frames place met) body met.left >>= λ x.
      Ok (with_copy (record { names = met.names; copies = met.copies; left = x.1 }) (always s events x.0))
  item place (instance_item s name parameters instances) met =
      unit_of place name >>= λ m. given_at (look_in (frames place met)) m parameters >>= λ values. each (instance_of place s m values) instances met
  item place (generate_item _ list) met = items place list met
  item place (loop_item s head body) met =
      loop_genvar (frames place met) head.variable >>= λ _. begun (frames place met) head >>= λ first.
      turns most_turns s.span (turn_met s.span) (turn_of (λ own. body_of own body) place head.variable body (frames place met)) (stepped (frames place met) head) first met
  item place (if_item _ condition on_true) met = holds_at (frames place met) condition >>= λ holds. chosen holds (block_of (λ own. body_of own on_true) place on_true) (λ same. Ok same) met
  item place (if_else_item _ condition on_true other) met =
      holds_at (frames place met) condition >>= λ holds. chosen holds (block_of (λ own. body_of own on_true) place on_true) (block_of (λ own. body_of own other) place other) met

  pub items : Place → Items → Met → Result Met ElabErr
  items place no_items met = Ok met
  items place (more_items x xs) met = item place x met >>= items place xs

  -- what stands in a generate block
  pub body_of : Place → PlainBlock → Met → Result Met ElabErr
  body_of place (single _ x) met = item place x met
  body_of place (several _ _ xs) met = items place xs met

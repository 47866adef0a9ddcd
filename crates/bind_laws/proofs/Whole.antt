-- The list of instances.
use Rattle.std.proofs.Common.{◌≡◌, ℕ, zero, suc, Bool, true, false, List, [], ◌∷◌, ◌++◌, length, Option, Some, None}
use Rattle.std.specs.Prelude.{◌||◌, if◌then◌else◌, map, Result, Ok}
use Rattle.v_syntax.specs.declared.declaration.Identifier.{Identifier}
use Rattle.v_syntax.specs.Tree.{Tree}
use Rattle.v_syntax.specs.ItemTree.{items_of}
use Rattle.v_syntax.specs.ModuleTree.{PlainPort, declared_port, same_port, PlainPorts, no_ports, name_ports, declared_ports, PlainHeaderParameter, PlainModule}
use Rattle.v_sizes.specs.Context.{IsMeaning}
use Rattle.v_hierarchy.specs.declared.error.ElabErr.{ElabErr}
use Rattle.v_hierarchy.specs.declared.left.Left.{Left}
use Rattle.v_hierarchy.specs.declared.kind.Kind.{Kind}
use Rattle.v_hierarchy.specs.declared.kind.Kind.TheVariants as kind_case
use Rattle.v_hierarchy.specs.declared.signal.Signal.{Signal}
use Rattle.v_hierarchy.specs.Steps.{◌>>=◌, each}
use Rattle.v_hierarchy.specs.Constants.{bounds_if}
use Rattle.v_hierarchy.specs.Names.{Entry, Standing, signal, array, integer, genvar, constant, same_name, find, declared, meaning_of, bounds_of, look_in}
use Rattle.v_hierarchy.specs.Stands.{IsRange, IsRangeIf, IsKind}
use Rattle.v_hierarchy.specs.Parameters.{Given, given, kind_at, Heading, heading_kind, is_written, header_parameter, header_parameters, parameter}
use Rattle.v_hierarchy.specs.Headers.{Porting, ported, port_at, nothing_before, declared_ports_of, port_names_fit, directed_in_all, header_ports, ports_named, signal_of}
use Rattle.v_hierarchy.specs.Items.{Child, Met, begins}
use Rattle.v_hierarchy.specs.Instances.{Instance, place_of, contents, instance, children, Found, with_instance, walked, unit_name, top_of, most_left, top_child, instances}
use Rattle.v_hierarchy.proofs.RangeLaws.{scalar_range}
use Rattle.v_binding.specs.Standing.{EntriesStand, PortsStand, BlockStands, InstancesStand}
use Rattle.bind_laws.proofs.Steps.{between, ended, each-keeps}
use Rattle.bind_laws.proofs.Entries.{bounds_if-range, kind_at-is, parameter-stands, declared-stands}
use Rattle.bind_laws.proofs.Made.{Stood, items-stand}

-- ---- headers
record Headed (h : Heading) : Type 0 where
  kind : IsKind h.kind
  names : EntriesStand h.names

heading-is : (p : PlainHeaderParameter) (h : Heading) (kind : Kind) → Headed h → heading_kind p h ≡ Ok kind → IsKind kind
heading-is p h kind headed = by (p.opens || is_written p.type_of)
  where
    by : (own : Bool) → (if own then kind_at (look_in (h.names ∷ [])) p.type_of else Ok h.kind) ≡ Ok kind → IsKind kind
    by true is = kind_at-is (look_in (h.names ∷ [])) p.type_of kind is
    by false is = ended IsKind h.kind kind is headed.kind

header-stands : (values : List Given) (p : PlainHeaderParameter) (h after : Heading) → Headed h → header_parameter values p h ≡ Ok after → Headed after
header-stands values p h after headed is =
    between (heading_kind p h) _ after (Headed after) is λ kind first is.
    between (parameter [] kind (given values p.name.name) p.name p.value h.names) _ after (Headed after) is λ names second is.
    let own = heading-is p h kind headed first in
    ended Headed (record { kind = kind; names = names }) after is
    (record { kind = own; names = parameter-stands [] kind (given values p.name.name) p.name p.value h.names names own headed.names second })

parameters-stand : (values : List Given) (ps : List PlainHeaderParameter) (names : List Entry) → header_parameters values ps ≡ Ok names → EntriesStand names
parameters-stand values ps names is =
    let none : Heading = record { kind = kind_case.AsValue; names = [] } in
    between (each (header_parameter values) ps none) _ names (EntriesStand names) is λ met first is.
    ended EntriesStand met.names names is (each-keeps Headed (header_parameter values) (header-stands values) ps none met (record { kind = tt; names = tt }) first).names

record Ported (p : Porting) : Type 0 where
  before : IsRangeIf p.before.bounds
  names : EntriesStand p.names

ported-stands : (name : Identifier) (s : Signal) (names : List Entry) (after : Porting) → IsRangeIf s.bounds → EntriesStand names → ported name s names ≡ Ok after → Ported after
ported-stands name s names after range all is =
    between (declared (record { name = name; standing = signal s }) names) _ after (Ported after) is λ more first is.
    ended Ported (record { before = s; names = more }) after is
    (record { before = range; names = declared-stands (record { name = name; standing = signal s }) names more range all first })

port-stands : (p : PlainPort) (met after : Porting) → Ported met → port_at p met ≡ Ok after → Ported after
port-stands (declared_port _ direction kind signed range name _) met after all is =
    between (bounds_if (look_in (met.names ∷ [])) range) _ after (Ported after) is λ b first is.
    ported-stands name (record { direction = Some direction; kind = kind; signed = signed; bounds = b }) met.names after
    (bounds_if-range (look_in (met.names ∷ [])) range b first) all.names is
port-stands (same_port _ name _) met after all is = ported-stands name met.before met.names after all.before all.names is

abbrev pub ports_over : PlainModule → PlainPorts → List Entry → Result (List Entry) ElabErr
ports_over m ports names = elim ports [
  | no_ports ↦ Ok names
  | name_ports list ↦ port_names_fit (directed_in_all (items_of m.items)) list >>= λ _. Ok names
  | declared_ports list ↦ declared_ports_of list names
]

ports-stand : (m : PlainModule) (ports : PlainPorts) (names after : List Entry) → EntriesStand names → ports_over m ports names ≡ Ok after → EntriesStand after
ports-stand m no_ports names after all is = ended EntriesStand names after is all
ports-stand m (name_ports list) names after all is =
    between (port_names_fit (directed_in_all (items_of m.items)) list) (λ _. Ok names) after (EntriesStand after) is λ _ _ is. ended EntriesStand names after is all
ports-stand m (declared_ports list) names after all is =
    let none : Porting = record { before = nothing_before; names = names } in
    between (each port_at list none) _ after (EntriesStand after) is λ met first is.
    ended EntriesStand met.names after is (each-keeps Ported port_at port-stands list none met (record { before = scalar_range; names = all }) first).names

-- ---- an instance
contents-stand : (units : List PlainModule) (levels : ℕ) (c : Child) (left : Left) (met : Met) → contents units levels c left ≡ Ok met → Stood met
contents-stand units levels c left met is =
    between (header_parameters c.values c.«module».parameters >>= header_ports c.«module») _ met (Stood met) is λ names headed is.
    between (header_parameters c.values c.«module».parameters) (header_ports c.«module») names (Stood met) headed λ own first second.
    items-stand (place_of units levels c) (items_of c.«module».items) (begins names left) met
    (record { names = ports-stand c.«module» c.«module».ports own names (parameters-stand c.values c.«module».parameters own first) second; copies = tt }) is

found-range : (name : List ℕ) (names : List Entry) → EntriesStand names → IsRange (bounds_of (signal_of (find name names)))
found-range name [] all = scalar_range
found-range name (e ∷ es) all = by (same_name e.name.name name) (found-range name es all.1)
  where
    own : (s : Standing) → IsMeaning (meaning_of s) → IsRange (bounds_of (signal_of (Some s)))
    own (signal s) one = one
    own (array s r) one = scalar_range
    own integer one = scalar_range
    own genvar one = scalar_range
    own (constant c b) one = scalar_range

    by : (same : Bool) → IsRange (bounds_of (signal_of (find name es))) → IsRange (bounds_of (signal_of (if same then Some e.standing else find name es)))
    by true rest = own e.standing all.0
    by false rest = rest

named-stand : (ports : List (Identifier × Option Tree)) (names : List Entry) → EntriesStand names
    → PortsStand (map (λ (p : Identifier × Option Tree). record { name = p.0; signal = signal_of (find p.0.name names); start = p.1 }) ports)
named-stand [] names all = tt
named-stand (p ∷ ps) names all = (found-range p.0.name names all, named-stand ps names all)

-- ---- the walk
one-more : (is : List Instance) (i : Instance) → InstancesStand is → PortsStand i.ports → BlockStands i.body → InstancesStand (is ++ i ∷ [])
one-more [] i all ports body = (ports, body, tt)
one-more (x ∷ xs) i all ports body = (all.0, all.1, one-more xs i all.2 ports body)

abbrev FoundStand : Found → Type 0
FoundStand found = InstancesStand found.list

with-stands : (c : Child) (parent : Option ℕ) (met : Met) (found : Found) → Stood met → FoundStand found → FoundStand (with_instance c parent met found)
with-stands c parent met found stood all =
    one-more found.list (instance c parent met) all (named-stand (ports_named c.«module».ports) met.names stood.names) (stood.names, stood.copies)

walked-stand : (units : List PlainModule) (levels : ℕ) (parent : Option ℕ) (c : Child) (found after : Found) → FoundStand found
    → walked units levels parent c found ≡ Ok after → FoundStand after
walked-stand units zero parent c found after all is =
    between (contents units 0 c found.left) _ after (FoundStand after) is λ met first is.
    ended FoundStand (with_instance c parent met found) after is (with-stands c parent met found (contents-stand units 0 c found.left met first) all)
walked-stand units (suc levels) parent c found after all is =
    between (contents units (suc levels) c found.left) _ after (FoundStand after) is λ met first is.
    each-keeps FoundStand (walked units levels (Some (length found.list))) (λ d m n stand e. walked-stand units levels (Some (length found.list)) d m n stand e)
    (children met.copies) (with_instance c parent met found) after (with-stands c parent met found (contents-stand units (suc levels) c found.left met first) all) is

pub instances-stand : (units : List PlainModule) (name : List ℕ) (list : List Instance) → instances units name ≡ Ok list → InstancesStand list
instances-stand units name list is =
    between (top_of units name) _ list (InstancesStand list) is λ m _ is.
    between (each unit_name units []) _ list (InstancesStand list) is λ _ _ is.
    between (walked units 64 None (top_child m) (record { list = []; left = most_left })) _ list (InstancesStand list) is λ found first is.
    ended InstancesStand found.list list is (walked-stand units 64 None (top_child m) (record { list = []; left = most_left }) found tt first)

-- Connections of module instances (IEEE 1364-2005, 12.3.9): each is a continuous assignment, of an expression to an input or of an
-- output to a left side, which is a place. They come in the order of the ports.
use Rattle.std.specs.Prelude.{ℕ, ◌==◌, Bool, if◌then◌else◌, max, List, [], ◌∷◌, map, length, Option, Some, None, Result, Ok, Err}
use Rattle.std.specs.Option.{option_map_or}
use Rattle.v_syntax.specs.declared.site.Site.{Site}
use Rattle.v_syntax.specs.Tree.{Tree, no_select}
use Rattle.v_syntax.specs.Tree as written
use Rattle.v_syntax.specs.ItemTree.{PlainConnection, PlainConnections, ordered, named}
use Rattle.design_core.specs.declared.driver.Driver.TheVariants as driver
use Rattle.design_core.specs.declared.expression.Typed.{Typed}
use Rattle.design_core.specs.declared.expression.Node.TheVariants as node
use Rattle.design_core.specs.declared.place.PlaceKind.TheVariants as place_kind
use Rattle.design_core.specs.declared.statement.Part.TheVariants as part
use Rattle.v_sizes.specs.Sized.{sized, with_width}
use Rattle.v_hierarchy.specs.Constants.{site_of, width}
use Rattle.v_hierarchy.specs.Names.{bounds_of, same_name}
use Rattle.v_hierarchy.specs.Headers.{Port}
use Rattle.v_hierarchy.specs.Items.{Child}
use Rattle.v_hierarchy.specs.Instances.{Instance}
use Rattle.v_binding.specs.declared.error.BindErr.{BindErr}
use Rattle.v_binding.specs.declared.error.BindErr.TheVariants as fault
use Rattle.v_binding.specs.Steps.{◌>>=◌}
use Rattle.v_binding.specs.Names.{Names, find}
use Rattle.v_binding.specs.Expressions.{assigned}
use Rattle.v_binding.specs.Lefts.{target, as_left}
use Rattle.v_binding.specs.Places.{Home}
use Rattle.v_binding.specs.Signals.{is_input, Scope, scoped}
use Rattle.v_binding.specs.Bound.{Bound, with_driver, with_root}
use Rattle.v_binding.specs.Clocks.{root_named}
use Rattle.v_binding.specs.Blocks.{Frame}
use Rattle.v_binding.specs.Assignments.{driven, driven_at, number_of}

-- a port of an instance by its signal
pub record Socket : Type 0 where
  pub name : List ℕ
  pub input : Bool
  pub signal : ℕ
  pub width : ℕ
  pub signed : Bool

abbrev pub socket : Names → Port → Socket
socket names p =
    record { name = p.name.name; input = is_input p.signal.direction; signal = number_of (find names p.name.name); width = width (bounds_of p.signal); signed = p.signal.signed }

abbrev pub sockets : Instance → Scope → List Socket
sockets i (scoped names _) = map (socket names) i.ports

-- ---- what a port is connected to
pub record Wire : Type 0 where
  pub site : Site
  pub value : Tree

abbrev pub wire_at : Tree → Wire
wire_at e = record { site = site_of e; value = e }

abbrev pub wire_of : PlainConnection → Option Wire
wire_of c = option_map_or (λ e. Some (record { site = c.site; value = e })) c.value None

abbrev pub wire_named : List ℕ → List PlainConnection → Option Wire
wire_named name [] = None
wire_named name (c ∷ cs) = if same_name c.name.name name then wire_of c else wire_named name cs

-- ---- an input, from an expression: the clock, or another input of the top, may be handed on by a plain name
abbrev pub plain_name : Tree → Option (List ℕ)
plain_name (written.name _ text no_select) = Some text
plain_name _ = None

abbrev pub handed_on : Names → Bound → Socket → Tree → Option ℕ
handed_on names b p e = if p.width == 1 then option_map_or (root_named b.roots names) (plain_name e) None else None

abbrev pub input_of : Frame → Names → Socket → Wire → Bound → Result Bound BindErr
input_of f names p w b =
    assigned names w.value p.width >>= λ e.
    let d = driver.Cont (record { parts = part.Whole p.signal ∷ [] }) e None w.site.span in
    elim (handed_on names b p w.value) [
      | Some input ↦ Ok (with_root (record { signal = p.signal; input = input }) (with_driver d b))
      | None ↦ Ok (driven f w.site.span d b)
    ]

-- ---- an output, to a left side
abbrev pub output_value : Socket → ℕ → Typed
output_value p left = with_width (max left p.width) (sized p.width p.signed (node.Whole p.signal))

abbrev pub output_of : Frame → Home → Names → ℕ → Socket → Wire → Bound → Result Bound BindErr
output_of f home names copy p w b = elim (as_left w.value) [
  | None ↦ Err (fault.PortName (site_of w.value).span)
  | Some left ↦ target names left >>= λ l. Ok (driven_at f home place_kind.PortOut w.site copy w.site.span l (output_value p l.width) b)
]

abbrev pub connection : Frame → Home → Names → ℕ → Socket → Option Wire → Bound → Result Bound BindErr
connection f home names copy p None b = Ok b
connection f home names copy p (Some w) b = if p.input then input_of f names p w b else output_of f home names copy p w b

-- ---- all connections of an instance
abbrev pub by_order : Frame → Home → Names → ℕ → List Socket → List (Option Tree) → Bound → Result Bound BindErr
by_order f home names copy (p ∷ ps) (value ∷ values) b =
    connection f home names copy p (option_map_or (λ e. Some (wire_at e)) value None) b >>= by_order f home names copy ps values
by_order f home names copy _ _ b = Ok b

abbrev pub by_name : Frame → Home → Names → ℕ → List PlainConnection → List Socket → Bound → Result Bound BindErr
by_name f home names copy list [] b = Ok b
by_name f home names copy list (p ∷ ps) b = connection f home names copy p (wire_named p.name list) b >>= by_name f home names copy list ps

abbrev pub connected : Frame → Home → Names → ℕ → List Socket → PlainConnections → Bound → Result Bound BindErr
connected f home names copy ports (ordered values) b = by_order f home names copy ports values b
connected f home names copy ports (named list) b = by_name f home names copy list ports b

-- an instance's place has the path of the instance
abbrev pub child_of : Frame → Home → Names → List Socket → Child → Bound → Result Bound BindErr
child_of f home names ports c b =
    connected f (record { «module» = home.«module»; path = c.path; item = home.item }) names (length b.places) ports c.connections b

-- Parameters (IEEE 1364-2005, 4.10 and 12.2): their types, their values, and the values that an instance gives them.
use Rattle.std.specs.Prelude.{⊤, ℕ, Bool, true, false, not, ◌&&◌, ◌||◌, if◌then◌else◌, pos, is_some, List, [], ◌∷◌, ◌++◌, Option, Some, None, Result, Ok, Err}
use Rattle.std.specs.List.{list_any}
use Rattle.loc_base.specs.Bits.{width_of}
use Rattle.v_syntax.specs.declared.declaration.Identifier.{Identifier}
use Rattle.v_syntax.specs.declared.item.ParameterKind.{ParameterKind}
use Rattle.v_syntax.specs.declared.item.ParameterKind.TheVariants as parameter_kind
use Rattle.v_syntax.specs.Tree.{Tree}
use Rattle.v_syntax.specs.PartTree.{PlainNamed}
use Rattle.v_syntax.specs.ItemTree.{PlainParameterType, vector_type, integer_type, PlainConnection, PlainConnections, ordered, named, PlainItem, parameter_item, generate_item, Items, no_items, more_items, items_of}
use Rattle.v_syntax.specs.ModuleTree.{PlainHeaderParameter, PlainModule}
use Rattle.v_sizes.specs.declared.meaning.Const.{Const}
use Rattle.v_sizes.specs.Look.{Look}
use Rattle.v_hierarchy.specs.declared.error.ElabErr.{ElabErr}
use Rattle.v_hierarchy.specs.declared.error.ElabErr.TheVariants as fault
use Rattle.v_hierarchy.specs.Steps.{◌>>=◌, each}
use Rattle.v_hierarchy.specs.declared.bounds.Bounds.{Bounds}
use Rattle.v_hierarchy.specs.declared.kind.Kind.{Kind}
use Rattle.v_hierarchy.specs.declared.kind.Kind.TheVariants as kind_case
use Rattle.v_hierarchy.specs.Constants.{constant_at, assigned, bounds, down_from, width, bounds_if, site_of}
use Rattle.v_hierarchy.specs.Names.{Entry, Standing, constant, same_name, fresh, look_in}

-- ---- types
-- that of the value where nothing is written, else a sign with or without a range
abbrev pub kind_of : Bool → Option Bounds → Kind
kind_of false None = kind_case.AsValue
kind_of signed range = kind_case.Typed signed range

abbrev pub kind_at : Look → PlainParameterType → Result Kind ElabErr
kind_at look (vector_type signed range) = bounds_if look range >>= λ b. Ok (kind_of signed b)
kind_at look integer_type = Ok (kind_case.Typed true (Some (bounds (pos 31) (pos 0))))

-- whether anything is written of a type
abbrev pub is_written : PlainParameterType → Bool
is_written (vector_type signed range) = signed || is_some range
is_written integer_type = true

-- ---- values
-- a value of a type, with the range from which bits are selected
abbrev pub valued : Kind → Const → Standing
valued kind_case.AsValue c = constant c (down_from (width_of c.bits))
valued (kind_case.Typed signed None) c = constant (record { bits = c.bits; signed = signed }) (down_from (width_of c.bits))
valued (kind_case.Typed signed (Some b)) c = constant (assigned (width b) signed c) b

-- the width to which a value of a type is assigned, 0 for none
abbrev pub context_of : Kind → ℕ
context_of (kind_case.Typed _ (Some b)) = width b
context_of _ = 0

-- a value that an instance gives to a parameter
pub record Given : Type 0 where
  pub name : List ℕ
  pub value : Const

abbrev pub given : List Given → List ℕ → Option Const
given [] name = None
given (g ∷ gs) name = if same_name g.name name then Some g.value else given gs name

-- the value that was given, else its own
abbrev pub value_at : Look → Kind → Option Const → Tree → Result Standing ElabErr
value_at look kind (Some c) e = Ok (valued kind c)
value_at look kind None e = constant_at look (context_of kind) e >>= λ c. Ok (valued kind c)

-- a parameter among the names of its scope, which stand inside the scopes around it
abbrev pub parameter : List (List Entry) → Kind → Option Const → Identifier → Tree → List Entry → Result (List Entry) ElabErr
parameter outer kind value name e names =
    fresh name names >>= λ _. value_at (look_in (names ∷ outer)) kind value e >>= λ s.
    Ok (names ++ record { name = name; standing = s } ∷ [])

-- ---- those of a header
-- the type of the parameter before, and the names so far
pub record Heading : Type 0 where
  pub kind : Kind
  pub names : List Entry

-- one without a type of its own has that of the one before it
abbrev pub heading_kind : PlainHeaderParameter → Heading → Result Kind ElabErr
heading_kind p met = if p.opens || is_written p.type_of then kind_at (look_in (met.names ∷ [])) p.type_of else Ok met.kind

abbrev pub header_parameter : List Given → PlainHeaderParameter → Heading → Result Heading ElabErr
header_parameter values p met =
    heading_kind p met >>= λ kind. parameter [] kind (given values p.name.name) p.name p.value met.names >>= λ names.
    Ok (record { kind = kind; names = names })

abbrev pub header_parameters : List Given → List PlainHeaderParameter → Result (List Entry) ElabErr
header_parameters values ps = each (header_parameter values) ps (record { kind = kind_case.AsValue; names = [] }) >>= λ met. Ok met.names

-- ---- what may be given from outside: the header's parameters, then those of the module's own items
abbrev pub parameter_names : ParameterKind → List PlainNamed → List (List ℕ)
parameter_names parameter_kind.Parameter [] = []
parameter_names parameter_kind.Parameter (x ∷ xs) = x.name.name ∷ parameter_names parameter_kind.Parameter xs
parameter_names parameter_kind.Local xs = []

abbrev mutual
  pub open_in : PlainItem → List (List ℕ)
  open_in (parameter_item _ kind _ values) = parameter_names kind values
  open_in (generate_item _ items) = open_in_all items
  open_in _ = []

  pub open_in_all : Items → List (List ℕ)
  open_in_all no_items = []
  open_in_all (more_items x xs) = open_in x ++ open_in_all xs

abbrev pub header_names : List PlainHeaderParameter → List (List ℕ)
header_names [] = []
header_names (p ∷ ps) = p.name.name ∷ header_names ps

abbrev pub open_names : PlainModule → List (List ℕ)
open_names m = header_names m.parameters ++ open_in_all (items_of m.items)

-- no value stands beyond the names
abbrev pub no_value : Option Tree → Result ⊤ ElabErr
no_value None = Ok tt
no_value (Some e) = Err (fault.Parameter (site_of e).span)

-- by order; one that is left out keeps its own value
abbrev pub given_by_order : Look → List (List ℕ) → List (Option Tree) → Result (List Given) ElabErr
given_by_order look names [] = Ok []
given_by_order look [] (value ∷ rest) = no_value value >>= λ _. given_by_order look [] rest
given_by_order look (name ∷ names) (None ∷ rest) = given_by_order look names rest
given_by_order look (name ∷ names) (Some e ∷ rest) =
    constant_at look 0 e >>= λ c. given_by_order look names rest >>= λ more. Ok (record { name = name; value = c } ∷ more)

-- by name: one that may be given, once; an empty one keeps its own value
abbrev pub given_value : Look → List ℕ → Option Tree → List Given → Result (List Given) ElabErr
given_value look name None done = Ok done
given_value look name (Some e) done = constant_at look 0 e >>= λ c. Ok (done ++ record { name = name; value = c } ∷ [])

-- the names met so far, and the values given so far
pub record Naming : Type 0 where
  pub seen : List (List ℕ)
  pub done : List Given

abbrev pub is_among : List ℕ → List (List ℕ) → Bool
is_among name names = list_any (same_name name) names

abbrev pub given_by_name : Look → List (List ℕ) → PlainConnection → Naming → Result Naming ElabErr
given_by_name look names c met =
    if is_among c.name.name names && not (is_among c.name.name met.seen)
    then (given_value look c.name.name c.value met.done >>= λ done. Ok (record { seen = met.seen ++ c.name.name ∷ []; done = done }))
    else Err (fault.Parameter c.name.site.span)

abbrev pub given_by_names : Look → List (List ℕ) → List PlainConnection → Result (List Given) ElabErr
given_by_names look names values = each (given_by_name look names) values (record { seen = []; done = [] }) >>= λ met. Ok met.done

-- the values that an instance of a module gives
abbrev pub given_at : Look → PlainModule → Option PlainConnections → Result (List Given) ElabErr
given_at look m None = Ok []
given_at look m (Some (ordered values)) = given_by_order look (open_names m) values
given_at look m (Some (named values)) = given_by_names look (open_names m) values

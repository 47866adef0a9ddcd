-- The variables of a design's ports (IEEE 1364-2005, 18.2.3): those of the first scope that declares every port, or of the first
-- that has a path, where it declares every port. A scope declares a port by its name, or, where it has no variable of that name, as
-- a bit of a variable that the name says.
use Rattle.std.specs.Prelude.{ℕ, zero, suc, Bool, false, not, ◌&&◌, ◌||◌, ◌==◌, nat_lt, nat_le, if◌then◌else◌, List, [], ◌∷◌, ◌++◌, length, map, Option, Some, None, is_some, slice_get, fold}
use Rattle.std.specs.List.{list_any, list_all, find, position_or_len}
use Rattle.std.specs.Option.{option_and_then, option_map, option_map_or, option_or}
use Rattle.design_core.specs.declared.signal.Signal.{Signal}
use Rattle.design_core.specs.declared.design.Design.{Design}
use Rattle.design_core.specs.Valuation.{width_at}
use Rattle.vcd_reading.specs.Commands.{same_bytes}
use Rattle.vcd_words.specs.Times.{time_of, time_in}
use Rattle.vcd_reading.specs.Header.{is_real_type, Header, Opened, Variable}
use Rattle.vcd_reading.specs.Bits.{BitName, bit_in}
use Rattle.vcd_reading.specs.declared.part.Part.{Part}
use Rattle.vcd_reading.specs.declared.part.Part.TheVariants.{Whole, Bit}

-- a port of the top: the number of its signal, its width, its name, and the bit of a variable that it may be
pub record Port : Type 0 where
  pub signal : ℕ
  pub width : ℕ
  pub name : List ℕ
  pub bit : Option BitName

abbrev pub name_at : Design → ℕ → List ℕ
name_at d s = option_map_or (λ (signal : Signal). signal.path) (slice_get d.signals.items s) []

-- a port of one bit may be that of a variable, by its name
abbrev pub port_bit : ℕ → List ℕ → Option BitName
port_bit width name = if width == 1 then bit_in name else None

abbrev pub port_at : Design → ℕ → Port
port_at d s = record {
  signal = s;
  width = width_at d.signals.items s;
  name = name_at d s;
  bit = port_bit (width_at d.signals.items s) (name_at d s);
}

-- the clock is the port of one bit that has its name, and no bit of another variable
abbrev pub clock_port : Design → List ℕ → Port
clock_port d name = record {
  signal = position_or_len (λ (signal : Signal). same_bytes signal.path name) d.signals.items;
  width = 1;
  name = name;
  bit = None;
}

abbrev pub input_ports : Design → List Port
input_ports d = map (port_at d) d.inputs.items

abbrev pub output_ports : Design → List Port
output_ports d = map (port_at d) d.outputs.items

abbrev pub clock_ports : Design → Option (List ℕ) → List Port
clock_ports d None = []
clock_ports d (Some name) = clock_port d name ∷ []

-- the ports of the top: inputs, outputs, and the clock
abbrev pub ports_of : Design → Option (List ℕ) → List Port
ports_of d clock = input_ports d ++ output_ports d ++ clock_ports d clock

-- whether a variable stands in a scope, not in one inside it, and has a name
abbrev pub is_named : ℕ → List ℕ → Variable → Bool
is_named scope name v = option_map_or (λ s. s == scope) v.scope false && same_bytes v.name name

-- the variable of a name in a scope: the first of two counts
abbrev pub variable_in : Header → ℕ → List ℕ → Option Variable
variable_in h scope name = find (is_named scope name) h.variables

-- where the bits of a port stand: a variable, and which of its bits they are
pub record Place : Type 0 where
  pub variable : Variable
  pub part : Part

abbrev pub whole : Variable → Place
whole v = record { variable = v; part = Whole }

-- whether a variable of a size has bits, of which one has a number: 2 to 128 of them
abbrev pub has_bit : Variable → ℕ → ℕ → Bool
has_bit v number size = nat_lt number size && nat_lt 1 size && nat_le size 128 && not (is_real_type v.type_word)

abbrev pub bit_of_size : Variable → ℕ → ℕ → Option Place
bit_of_size v number size = if has_bit v number size then Some (record { variable = v; part = Bit number size }) else None

-- the bit of a variable that has a number, if any
abbrev pub bit_of : ℕ → Variable → Option Place
bit_of number v = option_and_then (bit_of_size v number) (time_in v.size)

-- where a bit stands in a scope, if it does
abbrev pub bit_place : Header → ℕ → BitName → Option Place
bit_place h scope bit = option_and_then (bit_of bit.number) (variable_in h scope bit.name)

-- where a port stands in a scope, if it does: it is the variable of its name, else the bit that it may be
abbrev pub place_in : Header → ℕ → Port → Option Place
place_in h scope port =
    option_or (option_map whole (variable_in h scope port.name)) (option_and_then (bit_place h scope) port.bit)

-- whether a scope declares every port
abbrev pub declares : Header → List Port → ℕ → Bool
declares h ports scope = list_all (λ port. is_some (place_in h scope port)) ports

-- the least number below another that passes a test
abbrev pub least_below : (ℕ → Bool) → ℕ → Option ℕ
least_below test zero = None
least_below test (suc n) = option_or (least_below test n) (if test n then Some n else None)

-- the first scope that declares every port
abbrev pub first_scope : Header → List Port → Option ℕ
first_scope h ports = least_below (declares h ports) (length h.scopes)

-- the path of a scope of a name: behind that of the scope around it, if there is one, and a dot
abbrev pub path_in : List (List ℕ) → Option ℕ → List ℕ → List ℕ
path_in paths None name = name
path_in paths (Some around) name = option_map_or (λ outer. outer ++ 46 ∷ name) (slice_get paths around) name

-- one more path, that of one more scope
abbrev pub with_path : List (List ℕ) → Opened → List (List ℕ)
with_path paths opened = paths ++ path_in paths opened.around opened.name ∷ []

-- the paths of scopes: the names of those around them and their own, from the outermost on, joined by dots
abbrev pub paths_of : List Opened → List (List ℕ)
paths_of scopes = fold with_path [] scopes

-- the place of the first element that passes a test
abbrev pub place_of : {X : Type 0} → (X → Bool) → List X → Option ℕ
place_of test [] = None
place_of test (x ∷ xs) = if test x then Some 0 else option_map suc (place_of test xs)

-- the first scope of a path
abbrev pub scope_at : Header → List ℕ → Option ℕ
scope_at h path = place_of (same_bytes path) (paths_of h.scopes)

-- a scope, where it declares every port
abbrev pub if_declares : Header → List Port → ℕ → Option ℕ
if_declares h ports scope = if declares h ports scope then Some scope else None

-- what is looked for in a dump: the ports, and the path of the scope in which they are to stand, where one is named
pub record Sought : Type 0 where
  pub scope : Option (List ℕ)
  pub ports : List Port

-- ports, in whatever scope
abbrev pub anywhere : List Port → Sought
anywhere ports = record { scope = None; ports = ports }

-- the scope of ports: the first of the path that is named, where it declares every one; else the first that declares every one
abbrev pub scope_by : Header → List Port → Option (List ℕ) → Option ℕ
scope_by h ports None = first_scope h ports
scope_by h ports (Some path) = option_and_then (if_declares h ports) (scope_at h path)

abbrev pub scope_of : Header → Sought → Option ℕ
scope_of h sought = scope_by h sought.ports sought.scope

-- where a port stands in a scope, if there is a scope
abbrev pub port_place : Header → Option ℕ → Port → Option Place
port_place h scope port = option_and_then (λ s. place_in h s port) scope

-- the code of a port's variable in that scope
abbrev pub code_of : Header → Sought → Port → List ℕ
code_of h sought port = option_map_or (λ (p : Place). p.variable.code) (port_place h (scope_of h sought) port) []

-- which of its bits are the port's
abbrev pub part_of : Header → Sought → Port → Part
part_of h sought port = option_map_or (λ (p : Place). p.part) (port_place h (scope_of h sought) port) Whole

-- whether the variable of a port has a code
abbrev pub has_code : Header → Sought → List ℕ → Port → Bool
has_code h sought code port = option_map_or (λ (p : Place). same_bytes p.variable.code code) (port_place h (scope_of h sought) port) false

-- whether a code is declared
abbrev pub is_declared : Header → List ℕ → Bool
is_declared h code = list_any (λ (v : Variable). same_bytes v.code code) h.variables

-- whether a code is that of a port
abbrev pub is_of_port : Header → Sought → List ℕ → Bool
is_of_port h sought code = list_any (has_code h sought code) sought.ports

-- how many digits a value of a port's variable may have: the bits of the port, or all of the variable of which it is one
abbrev pub most_digits : ℕ → Part → ℕ
most_digits width Whole = width
most_digits width (Bit number size) = size

-- whether a port's variable has a code and may not have so many digits
abbrev pub is_shorter : Header → Sought → List ℕ → ℕ → Port → Bool
is_shorter h sought code digits port = has_code h sought code port && nat_lt (most_digits port.width (part_of h sought port)) digits

-- whether a number of digits is more than a variable of a port of a code may have
abbrev pub is_too_long : Header → Sought → List ℕ → ℕ → Bool
is_too_long h sought code digits = list_any (is_shorter h sought code digits) sought.ports

-- whether a port that is a whole variable has a real one or one of another width
abbrev pub misfits : ℕ → Variable → Part → Bool
misfits width v Whole = is_real_type v.type_word || not (time_of v.size == width)
misfits width v (Bit number size) = false

abbrev pub is_unfit : Header → Sought → Port → Bool
is_unfit h sought port = option_map_or (λ (p : Place). misfits port.width p.variable p.part) (port_place h (scope_of h sought) port) false

-- The variables of a wave: the ports of the top in port order, which is that of their signals' numbers, and behind them
-- the freed places.
use Rattle.std.specs.Prelude.{ℕ, ◌+◌, nat_le, nat_eq, if◌then◌else◌, List, [], ◌∷◌, Option, Some, None, slice_get, decimal}
use Rattle.std.specs.List.{position_or_len}
use Rattle.std.specs.Option.{option_map_or, unwrap_or}
use Rattle.std.specs.Cmp.Lexicographic.{pointwise}
use Rattle.design_core.specs.declared.signal.Signal.{Signal}
use Rattle.design_core.specs.declared.place.Place.{Place}
use Rattle.design_core.specs.declared.design.Design.{Design}
use Rattle.design_core.specs.Valuation.{width_at}
use Rattle.vcd_waves.specs.declared.variable.Variable.{Variable}
use Rattle.vcd_waves.specs.declared.variable.Kind.{Kind}
use Rattle.vcd_waves.specs.declared.variable.Kind.TheVariants.{Clock, Input, Output, Freed}
use Rattle.vcd_waves.specs.declared.wave.Wave.{Wave}

-- the name of the clock, where there is one
abbrev pub clock_of : Wave → Option (List ℕ)
clock_of w = elim w.clock [ None ↦ None | Some name ↦ Some name.now ]

-- the name of a signal
abbrev pub name_at : List Signal → ℕ → List ℕ
name_at signals number = option_map_or (λ (signal : Signal). signal.path) (slice_get signals number) []

-- the width of a place
abbrev pub place_width : List Place → ℕ → ℕ
place_width places number = option_map_or (λ (place : Place). place.width) (slice_get places number) 0

-- the number of the clock's signal: the first of its name
abbrev pub clock_signal : List Signal → List ℕ → ℕ
clock_signal signals name = position_or_len (λ (signal : Signal). pointwise nat_eq signal.path name) signals

-- the width of a variable by its kind and number
abbrev pub width_in : Design → Kind → ℕ → ℕ
width_in d Clock number = 1
width_in d Input number = width_at d.signals.items number
width_in d Output number = width_at d.signals.items number
width_in d Freed number = place_width d.places.items number

-- the variables of a list of numbers of one kind, whose places in that list are counted on from one
abbrev pub listed : Design → Kind → ℕ → List ℕ → List Variable
listed d kind place [] = []
listed d kind place (number ∷ rest) =
    (record { kind = kind; place = place; number = number; width = width_in d kind number }) ∷ listed d kind (place + 1) rest

-- the variable of the clock
abbrev pub clock_variables : Design → Option (List ℕ) → List Variable
clock_variables d None = []
clock_variables d (Some name) = listed d Clock 0 (clock_signal d.signals.items name ∷ [])

-- a variable and those behind it among others, each before the others of a greater number
abbrev pub placed_among : Variable → (List Variable → List Variable) → List Variable → List Variable
placed_among v behind [] = v ∷ behind []
placed_among v behind (other ∷ others) =
    if nat_le v.number other.number then v ∷ behind (other ∷ others) else other ∷ placed_among v behind others

-- two lists of variables as one, by their numbers
abbrev pub merged : List Variable → List Variable → List Variable
merged [] others = others
merged (v ∷ rest) others = placed_among v (merged rest) others

-- the ports of the top in port order, the clock among them
abbrev pub port_variables : Design → Option (List ℕ) → List Variable
port_variables d clock =
    merged (clock_variables d clock) (merged (listed d Input 0 d.inputs.items) (listed d Output 0 d.outputs.items))

-- the name of a variable: that of its port, or `p` and the number of its place
abbrev pub name_in : Design → Option (List ℕ) → Kind → ℕ → List ℕ
name_in d clock Clock number = unwrap_or clock []
name_in d clock Input number = name_at d.signals.items number
name_in d clock Output number = name_at d.signals.items number
name_in d clock Freed number = 112 ∷ decimal number

abbrev pub name_of : Design → Option (List ℕ) → Variable → List ℕ
name_of d clock v = name_in d clock v.kind v.number

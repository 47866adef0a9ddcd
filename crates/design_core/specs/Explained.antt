-- Values that show that a set of suspects works: a word for each of its places in each cycle of the traces (Smith,
-- Veneris, Ali and Viglas, Fault diagnosis and logic debugging using Boolean satisfiability, IEEE TCAD 2005).
use Rattle.std.specs.Prelude.{ℕ, ◌≡◌, ◌<◌, ◌+◌, ◌*◌, ◌-◌, ◌==◌, Bool, if◌then◌else◌, List, [], ◌∷◌, length, take, drop, map, slice_get, Some}
use Rattle.std.specs.Option.{option_map_or}
use Rattle.std.specs.List.{list_any}
use Rattle.std.specs.List.Sorted.{IsStrictlyIncreasing}
use Rattle.loc_base.specs.declared.bits.Bits.{Bits}
use Rattle.loc_base.specs.Bits.{width_of, value_of}
use Rattle.design_core.specs.declared.design.Design.{Design}
use Rattle.design_core.specs.declared.trace.Trace.{Trace}
use Rattle.design_core.specs.declared.values.Values.{Values}
use Rattle.design_core.specs.Run.{Choices, Meets}
use Rattle.design_core.specs.Works.{Groups, AreOfWidth, places_of}

-- the number chosen for a place, by the places and the numbers for them
abbrev pub number_for : List ℕ → List ℕ → ℕ → ℕ
number_for [] numbers p = 0
number_for (place ∷ places) [] p = 0
number_for (place ∷ places) (number ∷ numbers) p = if place == p then number else number_for places numbers p

-- whether a place is one of some
abbrev pub is_one_of : List ℕ → ℕ → Bool
is_one_of places p = list_any (λ place. place == p) places

abbrev pub place_width : Design → ℕ → ℕ
place_width d p = option_map_or (λ place. place.width) (slice_get d.places.items p) 0

-- the number of cycles of the traces before one of them
abbrev pub cycles_before : List Trace → ℕ → ℕ
cycles_before [] j = 0
cycles_before (trace ∷ traces) j = if j == 0 then 0 else trace.cycles + cycles_before traces (j - 1)

-- the row of a number, from 0: a word for each of some places, rows standing one after another in a flat list
abbrev pub row_of : List ℕ → List Bits → ℕ → List Bits
row_of places rows r = let width = length places in take width (drop (r * width) rows)

-- a word for each place, of the place's width
abbrev pub IsRow : Design → List ℕ → List Bits → Type 0
IsRow d places row = map width_of row ≡ map (place_width d) places

-- so many rows
pub record AreRows (d : Design) (places : List ℕ) (rows : List Bits) (count : ℕ) : Type 0 where
  pub whole : length rows ≡ count * length places
  pub each : (r : ℕ) → r < count → IsRow d places (row_of places rows r)

-- the numbers of a row of values
abbrev pub row_at : Values → ℕ → List ℕ
row_at values r = map value_of (row_of values.places.items values.rows.items r)

-- the values as choices for the trace of a number: in each cycle those of its row
abbrev pub choices_in : List Trace → Values → ℕ → Choices
choices_in traces values j t p = number_for values.places.items (row_at values (cycles_before traces j + t)) p

-- the values are of the places' widths, and with them as choices each trace is right
pub record Explains (d : Design) (traces : List Trace) (groups : Groups) (set : List ℕ) (values : Values) : Type 0 where
  pub widths : (j : ℕ) (trace : Trace) → slice_get traces j ≡ Some trace → AreOfWidth d (places_of groups set) (choices_in traces values j)
  pub meets : (j : ℕ) (trace : Trace) → slice_get traces j ≡ Some trace → Meets d trace (places_of groups set) (choices_in traces values j)

-- the values are of the places of a set, ascending: a row of them for each cycle of the traces, one trace after another
pub record AreValuesOf (d : Design) (traces : List Trace) (groups : Groups) (set : List ℕ) (values : Values) : Type 0 where
  pub ascending : IsStrictlyIncreasing values.places.items
  pub places : (p : ℕ) → is_one_of values.places.items p ≡ places_of groups set p
  pub rows : AreRows d values.places.items values.rows.items (cycles_before traces (length traces))

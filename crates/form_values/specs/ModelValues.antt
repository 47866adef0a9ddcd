-- The values that a model of a form gives to places: each bit is what the model gives to the literal of that bit in that cycle.
use Rattle.std.specs.Prelude.{ℕ, zero, suc, ◌≡◌, ◌+◌, ◌-◌, ◌<◌, ◌≤◌, ◌==◌, max, Bool, false, if◌then◌else◌, List, [], ◌∷◌, ◌++◌, length, map, slice_get, slice_index_or, Some, Contains}
use Rattle.std.specs.List.Sorted.{IsStrictlyIncreasing}
use Rattle.loc_base.specs.Bits.{width_of, value_of}
use Rattle.suspect_map.specs.declared.group.Group.{Group}
use Rattle.design_core.specs.declared.trace.Trace.{Trace}
use Rattle.design_core.specs.declared.values.Values.{Values}
use Rattle.design_core.specs.Valuation.{bit, number}
use Rattle.design_core.specs.Explained.{choices_in, is_one_of}
use Rattle.unroller.specs.declared.free_bit.FreeBit.{FreeBit}
use Rattle.unroller.specs.Unrolls.{Unrolling}
use Rattle.unroller.specs.Reads.{HasFreeBit, free_at}
use Rattle.form_laws.specs.Runs.{Chosen, CircuitMeets}
use Rattle.form_laws.specs.Models.{Selects, column_of, freed_by, value_in}
use Rattle.form_laws.specs.Encodes.{Asked, CanBeAsked, SatisfiesForm, unrolling_of}

-- the truth values of a form's variables, where the values stand at the variable less 1
abbrev pub assignment_of : List Bool → ℕ → Bool
assignment_of model v = slice_index_or model (v - 1) false

-- the width of a place: one more than the greatest of its bits
abbrev pub width_in : List FreeBit → ℕ → ℕ
width_in [] place = 0
width_in (x ∷ bits) place = if x.place == place then max (x.bit + 1) (width_in bits place) else width_in bits place

-- a place of the circuit: it has from 1 to 128 bits, and each up to the last is there
pub record IsPlace (u : Unrolling) (place : ℕ) : Type 0 where
  pub some : 1 ≤ width_in u.bits place
  pub few : width_in u.bits place ≤ 128
  pub bits : (bit : ℕ) → bit < width_in u.bits place → HasFreeBit u place bit

-- the places of the suspects are places of the circuit
abbrev pub ArePlaces : Unrolling → List Group → Type 0
ArePlaces u groups = (i place : ℕ) (group : Group) → slice_get groups i ≡ Some group → Contains group.places place → IsPlace u place

-- what an assignment gives to the literal of a bit of a place in a cycle
abbrev pub model_bit : (ℕ → Bool) → Unrolling → ℕ → ℕ → ℕ → Bool
model_bit a u moment place b = value_in a (free_at u moment (column_of u.bits place b))

-- the number of which these are the bits
abbrev pub model_number : (ℕ → Bool) → Unrolling → ℕ → ℕ → ℕ
model_number a u moment place = number (width_in u.bits place) (model_bit a u moment place)

-- those of some places in the cycles of all traces, so many: cycle by cycle
abbrev pub model_numbers : (ℕ → Bool) → Unrolling → List ℕ → ℕ → List ℕ
model_numbers a u places zero = []
model_numbers a u places (suc moment) = model_numbers a u places moment ++ map (model_number a u moment) places

abbrev pub widths_of : Unrolling → List ℕ → ℕ → List ℕ
widths_of u places zero = []
widths_of u places (suc moment) = widths_of u places moment ++ map (width_in u.bits) places

-- the values are of the places of a set's suspects, ascending: a word of its width for each of them in each cycle, whose bits
-- are what the assignment gives to the literals of the place's bits
pub record AreModelValues (a : ℕ → Bool) (u : Unrolling) (groups : List Group) (members : List ℕ) (values : Values) : Type 0 where
  pub ascending : IsStrictlyIncreasing values.places.items
  pub places : (p : ℕ) → is_one_of values.places.items p ≡ freed_by groups members p
  pub widths : map width_of values.rows.items ≡ widths_of u values.places.items (length u.ends)
  pub numbers : map value_of values.rows.items ≡ model_numbers a u values.places.items (length u.ends)

-- the bits of the values for the trace of a number
abbrev pub chosen_in : List Trace → Values → ℕ → Chosen
chosen_in traces values number t place b = bit (choices_in traces values number t place) b

-- where the assignment is a model of the form whose true selectors are the members, the values make each trace right
abbrev pub MeetTraces : (ℕ → Bool) → Unrolling → List Group → List ℕ → Values → Type 0
MeetTraces a u groups members values =
    (of : Asked) → CanBeAsked of → u ≡ unrolling_of of → groups ≡ of.groups → SatisfiesForm of a → Selects a (length groups) members
    → (number : ℕ) (trace : Trace) → slice_get of.traces number ≡ Some trace
    → CircuitMeets of.circuit trace (freed_by groups members) (chosen_in of.traces values number)

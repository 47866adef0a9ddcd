-- Examples, computed.
use Rattle.std.proofs.Common.{◌≡◌, ℕ, true, false, List, [], ◌∷◌, map, refl, Some, None, Err}
use Rattle.std.specs.Prelude.{codes}
use Rattle.vcd_reading.specs.Commands.{named_command, is_dump, is_end}
use Rattle.vcd_reading.specs.declared.part.Part.TheVariants.{Whole, Bit}
use Rattle.vcd_reading.specs.Bits.{bit_in}
use Rattle.vcd_reading.specs.Header.{Header, Opened, Variable, is_real_type}
use Rattle.vcd_reading.specs.Scopes.{Port, anywhere, code_of, is_too_long, place_in, port_bit, scope_of}
use Rattle.vcd_reading.specs.Pieces.{behind_end}
use Rattle.vcd_reading.specs.Events.{Event, rises}
use Rattle.vcd_reading.specs.Changes.{Past}
use Rattle.vcd_reading.specs.Reading.{stops, step, ReadsText, at_fault}
use Rattle.vcd_traces.specs.Samples.{Watch, Watches, moments, sample, known_bits}

-- a change to known bits, and one to unknown ones
abbrev to_bits : ℕ → List ℕ → ℕ → Event
to_bits time code ones = record { time = Some time; code = code; level = record { ones = ones; unknowns = 0 } }

abbrev to_unknown : ℕ → List ℕ → ℕ → Event
to_unknown time code unknowns = record { time = Some time; code = code; level = record { ones = 0; unknowns = unknowns } }

-- a counter of two bits: it counts at each rising edge of its clock
abbrev count_port : Watch
count_port = record { signal = 1; width = 2; code = codes "q"; part = Whole }

abbrev counter : Watches
counter = record { clock = Some (codes "!"); inputs = []; outputs = count_port ∷ []; zero_inputs = false }

abbrev counter_events : List Event
counter_events =
    to_bits 0 (codes "!") 0 ∷ to_bits 0 (codes "q") 0 ∷ to_bits 5 (codes "!") 1 ∷ to_bits 5 (codes "q") 1 ∷ to_bits 10 (codes "!") 0
    ∷ to_bits 15 (codes "!") 1 ∷ to_bits 15 (codes "q") 2 ∷ to_bits 20 (codes "!") 0 ∷ to_bits 25 (codes "!") 1 ∷ to_bits 25 (codes "q") 3 ∷ []

-- its cycles are the stamps at which the clock rises, and it is seen with the values before them
pub counter_cycles : moments counter.clock counter_events (0 ∷ 5 ∷ 10 ∷ 15 ∷ 20 ∷ 25 ∷ []) ≡ 5 ∷ 15 ∷ 25 ∷ []
counter_cycles = refl

pub counter_samples : map (λ time. (sample counter.clock counter_events time count_port).ones) (5 ∷ 15 ∷ 25 ∷ []) ≡ 0 ∷ 1 ∷ 2 ∷ []
counter_samples = refl

-- without a clock it is seen with the values after each stamp
pub counter_unclocked : map (λ time. (sample None counter_events time count_port).ones) (0 ∷ 5 ∷ 10 ∷ 15 ∷ []) ≡ 0 ∷ 1 ∷ 1 ∷ 2 ∷ []
counter_unclocked = refl

-- before its first change no bit is known, and none is checked
pub before_first_change : known_bits 2 (sample counter.clock [] 5 count_port) ≡ 0
before_first_change = refl

-- of a bit that is unknown the others are checked
pub one_bit_unknown : known_bits 2 (sample None (to_unknown 0 (codes "q") 2 ∷ []) 0 count_port) ≡ 1
one_bit_unknown = refl

-- a clock that goes 0, 1, 0 within a stamp doesn't rise there
pub no_edge_within_a_stamp : rises (codes "!") (to_bits 0 (codes "!") 0 ∷ to_bits 5 (codes "!") 1 ∷ to_bits 5 (codes "!") 0 ∷ []) 5 ≡ false
no_edge_within_a_stamp = refl

-- nor does one that goes from x to 1
pub no_edge_from_unknown : rises (codes "!") (to_unknown 0 (codes "!") 1 ∷ to_bits 5 (codes "!") 1 ∷ []) 5 ≡ false
no_edge_from_unknown = refl

-- a text that ends inside a change is wrong at its end
abbrev past_header : Past
past_header = record { header = record { scopes = []; current = None; variables = []; ended = true }; time = Some 5; ended = []; events = [] }

pub ends_inside_a_change : step (anywhere []) 42 past_header (record { at = 36; word = codes "b01x1" }) [] ≡ stops 42
ends_inside_a_change = refl

-- a time that is less than the last is wrong itself
pub time_falls : step (anywhere []) 42 past_header (record { at = 36; word = codes "#3" }) [] ≡ stops 36
time_falls = refl

-- so is one that ends inside a section
pub ends_in_a_section : ReadsText (anywhere []) (codes "$comment none") (Err 13)
unfolding named_command is_dump is_end behind_end
ends_in_a_section = at_fault refl

-- ---- bits of variables
-- `data_3_` may be bit 3 of `data`; a name may have an `_` itself
pub a_name_of_a_bit : bit_in (codes "data_3_") ≡ Some (record { name = codes "data"; number = 3 })
a_name_of_a_bit = refl

pub a_name_with_an_underscore : bit_in (codes "my_bus_127_") ≡ Some (record { name = codes "my_bus"; number = 127 })
a_name_with_an_underscore = refl

-- no number of more than 127, none with a 0 in front, none at all, and nothing behind the last `_`
pub a_number_too_great : bit_in (codes "data_128_") ≡ None
a_number_too_great = refl

pub a_zero_in_front : bit_in (codes "data_03_") ≡ None
a_zero_in_front = refl

pub no_number : bit_in (codes "data__") ≡ None
no_number = refl

pub no_last_underscore : bit_in (codes "data_3") ≡ None
no_last_underscore = refl

-- a header that declares `data` in a scope, of eight bits, and in a scope after it also `data_3_`
abbrev declared_bits : ℕ → List ℕ → List ℕ → List ℕ → Variable
declared_bits scope size code name = record { scope = Some scope; type_word = codes "wire"; size = size; code = code; name = name }

abbrev outermost : List ℕ → Opened
outermost name = record { around = None; name = name }

abbrev two_scopes : Header
two_scopes = record {
  scopes = outermost (codes "first") ∷ outermost (codes "second") ∷ [];
  current = None;
  variables = declared_bits 0 (codes "8") (codes "#") (codes "data") ∷ declared_bits 1 (codes "8") (codes "#") (codes "data")
      ∷ declared_bits 1 (codes "1") (codes "$") (codes "data_3_") ∷ [];
  ended = true;
}

-- ports of one bit
abbrev named_port : List ℕ → Port
named_port name = record { signal = 0; width = 1; name = name; bit = port_bit 1 name }

-- in the first scope `data_3_` is bit 3 of `data`, in the second the variable of its name
pub a_bit_of_a_variable : place_in two_scopes 0 (named_port (codes "data_3_")) ≡ Some (record {
  variable = declared_bits 0 (codes "8") (codes "#") (codes "data");
  part = Bit 3 8;
})
unfolding is_real_type
a_bit_of_a_variable = refl

pub a_name_before_a_bit : place_in two_scopes 1 (named_port (codes "data_3_")) ≡ Some (record {
  variable = declared_bits 1 (codes "1") (codes "$") (codes "data_3_");
  part = Whole;
})
a_name_before_a_bit = refl

-- `data` has no bit 8
pub no_such_bit : place_in two_scopes 0 (named_port (codes "data_8_")) ≡ None
no_such_bit = refl

-- the first scope declares every bit, and a value may have as many digits as `data` has bits
pub the_first_scope : scope_of two_scopes (anywhere (named_port (codes "data_3_") ∷ named_port (codes "data_0_") ∷ [])) ≡ Some 0
unfolding is_real_type
the_first_scope = refl

pub eight_digits : is_too_long two_scopes (anywhere (named_port (codes "data_3_") ∷ [])) (codes "#") 8 ≡ false
unfolding is_real_type
eight_digits = refl

pub nine_digits : is_too_long two_scopes (anywhere (named_port (codes "data_3_") ∷ [])) (codes "#") 9 ≡ true
unfolding is_real_type
nine_digits = refl

-- bit 3 of 8 is 1, and bit 2 is 0
abbrev bit_port : ℕ → Watch
bit_port number = record { signal = 0; width = 1; code = codes "#"; part = Bit number 8 }

pub bit_3 : (sample None (to_bits 0 (codes "#") 8 ∷ []) 0 (bit_port 3)).ones ≡ 1
bit_3 = refl

pub bit_2 : (sample None (to_bits 0 (codes "#") 8 ∷ []) 0 (bit_port 2)).ones ≡ 0
bit_2 = refl

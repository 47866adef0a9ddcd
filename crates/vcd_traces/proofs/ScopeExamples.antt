-- Examples, computed: scopes by their paths, and unknown bits of inputs that are read as 0.
use Rattle.std.proofs.Common.{◌≡◌, ℕ, true, false, List, [], ◌∷◌, length, refl, Option, Some, None}
use Rattle.std.specs.Prelude.{codes}
use Rattle.design_core.specs.declared.design.Design.{Design}
use Rattle.vcd_words.specs.Words.{Placed, words_at}
use Rattle.vcd_reading.specs.declared.error.VcdErr.TheVariants.{MissingPort, UnknownInput}
use Rattle.vcd_reading.specs.declared.part.Part.TheVariants.{Whole}
use Rattle.vcd_reading.specs.Commands.{is_end}
use Rattle.vcd_reading.specs.Events.{Event}
use Rattle.vcd_reading.specs.Header.{Header, Opened, Variable, scope_name}
use Rattle.vcd_reading.specs.Scopes.{Port, anywhere, declares, least_below, paths_of, ports_of, scope_at, scope_of}
use Rattle.vcd_traces.specs.Samples.{Watch, Watches, by_clock, known_bits, needed, sample, scope_refusal, sought_of, unknown_from}

-- the name of a scope is the second word behind its `$scope`, as it stands there, and none where a `$end` stands before it
pub a_scope_has_a_name : scope_name (words_at 0 (codes "module golden $end ")) ≡ codes "golden"
unfolding scope_name is_end
a_scope_has_a_name = refl

pub a_copy_keeps_its_number : scope_name (words_at 0 (codes "begin row[3] $end ")) ≡ codes "row[3]"
unfolding scope_name is_end
a_copy_keeps_its_number = refl

pub a_scope_without_a_name : scope_name (words_at 0 (codes "module $end $var ")) ≡ []
unfolding scope_name is_end
a_scope_without_a_name = refl

-- a bench that has all ports' names itself, and in it the golden model, the design, and a scope that has no `q`
abbrev scope_in : Option ℕ → List ℕ → Opened
scope_in around name = record { around = around; name = name }

abbrev declared_in : ℕ → List ℕ → List ℕ → Variable
declared_in scope code name = record { scope = Some scope; type_word = codes "wire"; size = codes "1"; code = code; name = name }

abbrev bench : Header
bench = record {
  scopes = scope_in None (codes "tb") ∷ scope_in (Some 0) (codes "golden") ∷ scope_in (Some 0) (codes "dut") ∷ scope_in (Some 2) (codes "part") ∷ [];
  current = None;
  variables = declared_in 0 (codes "!") (codes "d") ∷ declared_in 0 (codes "#") (codes "q") ∷ declared_in 1 (codes "!") (codes "d")
      ∷ declared_in 1 (codes "$") (codes "q") ∷ declared_in 2 (codes "!") (codes "d") ∷ declared_in 2 (codes "#") (codes "q")
      ∷ declared_in 3 (codes "!") (codes "d") ∷ [];
  ended = true;
}

abbrev bit_named : ℕ → List ℕ → Port
bit_named signal name = record { signal = signal; width = 1; name = name; bit = None }

abbrev both : List Port
both = bit_named 0 (codes "d") ∷ bit_named 1 (codes "q") ∷ []

-- a path has the names of the scopes around, from the outermost on
pub the_paths : paths_of bench.scopes ≡ codes "tb" ∷ codes "tb.golden" ∷ codes "tb.dut" ∷ codes "tb.dut.part" ∷ []
the_paths = refl

-- without a path the bench's own scope is taken, since it is the first that declares both
pub the_first_that_declares : scope_of bench (anywhere both) ≡ Some 0
the_first_that_declares = refl

pub the_golden_model : scope_of bench (record { scope = Some (codes "tb.golden"); ports = both }) ≡ Some 1
the_golden_model = refl

-- a path begins at an outermost scope and is the whole path
pub no_such_path : scope_of bench (record { scope = Some (codes "golden"); ports = both }) ≡ None
no_such_path = refl

pub no_part_of_a_path : scope_of bench (record { scope = Some (codes "tb.gold"); ports = both }) ≡ None
no_part_of_a_path = refl

-- a scope of the path that lacks a port is refused, though others declare it
pub a_scope_that_lacks_a_port : scope_refusal (scope_of bench (record { scope = Some (codes "tb.dut.part"); ports = both })) ≡ Some MissingPort
a_scope_that_lacks_a_port = refl

-- of two scopes of a path the first is taken, also where it lacks a port and the other has it
abbrev twice : Header
twice = record {
  scopes = scope_in None (codes "tb") ∷ scope_in None (codes "tb") ∷ [];
  current = None;
  variables = declared_in 1 (codes "!") (codes "d") ∷ [];
  ended = true;
}

pub the_first_of_two : scope_at twice (codes "tb") ≡ Some 0
the_first_of_two = refl

pub the_first_lacks_it : scope_of twice (record { scope = Some (codes "tb"); ports = bit_named 0 (codes "d") ∷ [] }) ≡ None
the_first_lacks_it = refl

-- an input whose bit is unknown in its only cycle: refused, or read as 0
abbrev input_port : Watch
input_port = record { signal = 7; width = 1; code = codes "!"; part = Whole }

abbrev one_input : Watches
one_input = record { clock = None; inputs = input_port ∷ []; outputs = []; zero_inputs = false }

abbrev unknown_bit : List Event
unknown_bit = (record { time = Some 0; code = codes "!"; level = record { ones = 0; unknowns = 1 } }) ∷ []

pub an_unknown_input : unknown_from one_input unknown_bit 0 (0 ∷ []) ≡ Some (UnknownInput 0 7)
an_unknown_input = refl

pub none_is_refused : unknown_from (record one_input { zero_inputs = true }) unknown_bit 0 (0 ∷ []) ≡ None
none_is_refused = refl

pub it_is_read_as_0 : (sample None unknown_bit 0 input_port).ones ≡ 0
it_is_read_as_0 = refl

-- where nothing is said of scopes and unknown bits, all is as it is without them
pub no_path : (h : Header) (ports : List Port) → scope_of h (anywhere ports) ≡ least_below (declares h ports) (length h.scopes)
no_path h ports = refl

pub by_a_clock : (d : Design) (clock : Option (List ℕ)) → sought_of d (by_clock clock) ≡ anywhere (ports_of d clock)
by_a_clock d clock = refl

pub all_are_needed : (w : Watches) → needed false w.inputs ≡ w.inputs
all_are_needed w = refl

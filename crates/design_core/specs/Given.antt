-- What is given to the evaluator of cycles, and what it asks of it.
use Rattle.std.specs.Prelude.{ℕ, ◌≡◌, ◌+◌, ◌*◌, Bool, false, IsTrue, List, length, slice_get, slice_range}
use Rattle.std.specs.Option.{option_map_or}
use Rattle.std.specs.List.{list_all}
use Rattle.loc_base.specs.declared.bits.Bits.{Bits}
use Rattle.loc_base.specs.Bits.{value_of}
use Rattle.design_core.specs.declared.design.Design.{Design}
use Rattle.design_core.specs.declared.trace.Trace.{Trace}
use Rattle.design_core.specs.Run.{Choices}
use Rattle.design_core.specs.WellFormed.{signal_fits, driver_fits, clocked_fits}

-- the signals and assignments of a design fit: all that is needed to carry it out. Those of a well-formed design do
pub record CanRun (d : Design) : Type 0 where
  pub signals : IsTrue (list_all signal_fits d.signals.items)
  pub drivers : IsTrue (list_all (driver_fits d.signals.items d.places.items) d.drivers.items)
  pub clocked : IsTrue (list_all (clocked_fits d) d.clocked.items)

-- one entry for each place of the design
pub record AreChosen (d : Design) (freed : List Bool) (chosen : List Bits) : Type 0 where
  pub frees : length freed ≡ length d.places.items
  pub values : length chosen ≡ length d.places.items

-- the entries of a cycle among those of a trace, a number of them in each cycle
abbrev pub row : {X : Type 0} → List X → ℕ → ℕ → List X
row entries width t = slice_range entries (t * width) (t * width + width)

-- whether a place is freed, by one entry for each place
abbrev pub freed_of : List Bool → ℕ → Bool
freed_of freed p = option_map_or (λ b. b) (slice_get freed p) false

-- the values chosen, by one word for each place in each cycle
abbrev pub choices_of : Design → List Bits → Choices
choices_of d chosen t p = option_map_or value_of (slice_get (row chosen (length d.places.items) t) p) 0

-- one entry for each place of the design, and one word for each place in each cycle
pub record AreChosenThroughout (d : Design) (trace : Trace) (freed : List Bool) (chosen : List Bits) : Type 0 where
  pub frees : length freed ≡ length d.places.items
  pub values : length chosen ≡ trace.cycles * length d.places.items

-- A design whose lists are those that binding gives, and what is bound of it so far.
use Rattle.std.specs.Prelude.{ℕ, ◌≡◌, ◌+◌, ◌==◌, Bool, true, false, ◌&&◌, if◌then◌else◌, nat_lt, Option, List, length, sum_by}
use Rattle.std.specs.List.{list_all, list_any}
use Rattle.std.specs.Option.{option_map_or}
use Rattle.loc_base.specs.Bits.{width_of}
use Rattle.design_core.specs.declared.signal.Signal.{Signal}
use Rattle.design_core.specs.declared.place.Place.{Place}
use Rattle.design_core.specs.declared.driver.Reset.{Reset}
use Rattle.design_core.specs.declared.driver.Clocked.{Clocked}
use Rattle.design_core.specs.declared.design.Design.{Design}
use Rattle.design_core.specs.Valuation.{width_at}
use Rattle.design_core.specs.WellFormed.{is_width, driver_fits, statement_fits, is_reset_values, times_in_driver, times_in_clocked}
use Rattle.v_hierarchy.specs.Instances.{Instance}
use Rattle.v_binding.specs.Starts.{Start}
use Rattle.v_binding.specs.Bound.{Bound}
use Rattle.v_binding.specs.Binding.{is_the_clock, Binding}
use Rattle.bind_laws.specs.Every.{Every}

-- the lists of the design that is to become: its signals, places and inputs, and its clock
pub record Whole : Type 0 where
  pub signals : List Signal
  pub places : List Place
  pub clock : Option ℕ
  pub inputs : List ℕ

-- 1 for a number below another, else 0
abbrev pub below : ℕ → ℕ → ℕ
below p n = if nat_lt p n then 1 else 0

-- a reset's signal is an input of 1 bit, and its values are constants
abbrev pub reset_fits : Whole → Reset → Bool
reset_fits w r =
    list_any (λ input. input == r.signal) w.inputs && width_at w.signals r.signal == 1 && is_reset_values r.values
    && statement_fits w.signals w.places r.values

abbrev pub clocked_fits : Whole → Clocked → Bool
clocked_fits w block = statement_fits w.signals w.places block.body && option_map_or (reset_fits w) block.reset true

-- an input of 1 bit of the top is the clock, or one that traces give
pub record RootFits (w : Whole) (input : ℕ) : Type 0 where
  pub of_width : width_at w.signals input ≡ 1
  pub given : is_the_clock w.clock input ≡ false → list_any (λ i. i == input) w.inputs ≡ true

-- a start value has its signal's width
abbrev pub StartFits : Whole → Start → Type 0
StartFits w x = width_of x.value ≡ width_at w.signals x.signal

-- how many times a place stands in what is bound
abbrev pub times_bound : ℕ → Bound → ℕ
times_bound p b = sum_by (times_in_driver p) b.drivers + sum_by (times_in_clocked p) b.clocked

-- what is bound so far fits, and each of its places stands in it once
pub record BoundFits (w : Whole) (b : Bound) : Type 0 where
  pub drivers : list_all (driver_fits w.signals w.places) b.drivers ≡ true
  pub clocked : list_all (clocked_fits w) b.clocked ≡ true
  pub once : (p : ℕ) → times_bound p b ≡ below p (length b.places)
  pub roots : Every (λ r. RootFits w r.input) b.roots
  pub declared : Every (StartFits w) b.declared
  pub initial : Every (λ i. StartFits w i.start) b.initial
  pub places : list_all (λ place. is_width place.width) b.places ≡ true

-- a design of the lists that binding gives
pub record IsDesignOf (b : Binding) (d : Design) : Type 0 where
  pub signals : d.signals.items ≡ b.signals
  pub drivers : d.drivers.items ≡ b.bound.drivers
  pub clocked : d.clocked.items ≡ b.bound.clocked
  pub places : d.places.items ≡ b.bound.places
  pub inputs : d.inputs.items ≡ b.inputs
  pub outputs : d.outputs.items ≡ b.outputs

-- instances with the name of a clock, what binding gives for them, and a design of it
pub record BoundDesign : Type 0 where
  pub instances : List Instance
  pub clock : Option (List ℕ)
  pub binding : Binding
  pub design : Design

-- A design with its conditions and the connections of input ports freed (IEEE 1364-2005, 9.4, 9.5 and 12.3.9): each has a place,
-- so that a set of suspects can choose its value (Smith, Veneris, Ali and Viglas, Fault diagnosis and logic debugging using
-- Boolean satisfiability, IEEE TCAD 2005). What the design has keeps its number; what is new stands behind it.
use Rattle.std.specs.Prelude.{ℕ, ◌≡◌, ◌+◌, ◌-◌, false, pos, List, [], ◌∷◌, ◌++◌, length, None, Some}
use Rattle.std.specs.List.{AllZip}
use Rattle.loc_base.specs.Bits.{width_of, value_of}
use Rattle.design_core.specs.declared.signal.Signal.{Signal}
use Rattle.design_core.specs.declared.signal.SignalKind.TheVariants as kind
use Rattle.design_core.specs.declared.place.Place.{Place}
use Rattle.design_core.specs.declared.place.PlaceKind.TheVariants as place_kind
use Rattle.design_core.specs.declared.driver.Driver.{Driver}
use Rattle.design_core.specs.declared.driver.Driver.TheVariants.{Cont, Comb}
use Rattle.design_core.specs.declared.driver.Clocked.{Clocked}
use Rattle.design_core.specs.declared.design.Design.{Design}
use Rattle.freed_conditions.specs.Kept.{Next, behind}
use Rattle.freed_conditions.specs.Widths.{widths, widths_of_drivers, widths_of_clocked, widths_of_connections}
use Rattle.freed_conditions.specs.Freed.{freed}

-- the combinational blocks freed; a continuous assignment stays
abbrev pub freed_drivers : Next → List Driver → List Driver
freed_drivers n [] = []
freed_drivers n (Cont target value place span ∷ rest) = Cont target value place span ∷ freed_drivers n rest
freed_drivers n (Comb body span ∷ rest) = Comb (freed n body) span ∷ freed_drivers (behind (widths body) n) rest

-- the drivers without a place take the next places, one after another
abbrev pub connected : ℕ → List Driver → List Driver
connected place [] = []
connected place (Cont target value None span ∷ rest) = Cont target value (Some place) span ∷ connected (place + 1) rest
connected place (Cont target value (Some own) span ∷ rest) = Cont target value (Some own) span ∷ connected place rest
connected place (Comb body span ∷ rest) = Comb body span ∷ connected place rest

-- the bodies of the clocked blocks freed; a reset's signal and values stay
abbrev pub freed_clocked : Next → List Clocked → List Clocked
freed_clocked n [] = []
freed_clocked n (block ∷ rest) = record { reset = block.reset; body = freed n block.body } ∷ freed_clocked (behind (widths block.body) n) rest

-- the first signal and the first place behind those of a design
abbrev pub begins : Design → Next
begins d = record { signal = length d.signals.items; place = length d.places.items }

-- the widths of all conditions: of the combinational blocks, then of the clocked ones
abbrev pub condition_widths : Design → List ℕ
condition_widths d = widths_of_drivers d.drivers.items ++ widths_of_clocked d.clocked.items

-- the widths of the connections of input ports
abbrev pub connection_widths : Design → List ℕ
connection_widths d = widths_of_connections d.signals.items d.drivers.items

-- a net [bits - 1 : 0] in which a condition of so many bits is kept (4.2 and 4.3)
pub record IsKeptIn (bits : ℕ) (s : Signal) : Type 0 where
  pub width : s.width ≡ bits
  pub signed : s.signed ≡ false
  pub left : s.left ≡ pos (bits - 1)
  pub right : s.right ≡ pos 0
  pub kind : s.kind ≡ kind.Net
  pub start_width : width_of s.start ≡ bits
  pub start_value : value_of s.start ≡ 0

-- the place of a condition of so many bits
pub record IsConditionOf (bits : ℕ) (p : Place) : Type 0 where
  pub width : p.width ≡ bits
  pub kind : p.kind ≡ place_kind.Cond

-- the place of a connection of so many bits
pub record IsConnectionOf (bits : ℕ) (p : Place) : Type 0 where
  pub width : p.width ≡ bits
  pub kind : p.kind ≡ place_kind.PortIn

-- the design e is d with its conditions and its connections of input ports freed
pub record IsFreed (d e : Design) : Type 0 where
  pub hidden : List Signal
  pub conditions : List Place
  pub connections : List Place
  pub signals : e.signals.items ≡ d.signals.items ++ hidden
  pub are_kept_in : AllZip IsKeptIn (condition_widths d) hidden
  pub places : e.places.items ≡ d.places.items ++ (conditions ++ connections)
  pub are_conditions : AllZip IsConditionOf (condition_widths d) conditions
  pub are_connections : AllZip IsConnectionOf (connection_widths d) connections
  pub drivers : e.drivers.items
      ≡ connected (length d.places.items + length (condition_widths d)) (freed_drivers (begins d) d.drivers.items)
  pub clocked : e.clocked.items ≡ freed_clocked (behind (widths_of_drivers d.drivers.items) (begins d)) d.clocked.items
  pub inputs : e.inputs.items ≡ d.inputs.items
  pub outputs : e.outputs.items ≡ d.outputs.items

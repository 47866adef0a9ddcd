-- A network: a design of continuous assignments alone, each to one whole net, with an order in which each of them
-- reads nothing that it or a later one assigns.
use Rattle.std.specs.Prelude.{ℕ, ◌≡◌, ◌≢◌, ◌<◌, Bool, false, ◌&&◌, if◌then◌else◌, ◌==◌, nat_lt, List, [], ◌∷◌, length, slice_get, Option, Some, None, All, AllPairs, Contains}
use Rattle.std.specs.Option.{option_map_or}
use Rattle.loc_base.specs.declared.bits.Bits.{Bits}
use Rattle.design_core.specs.declared.signal.Signal.{Signal}
use Rattle.design_core.specs.declared.statement.Part.{Part}
use Rattle.design_core.specs.declared.statement.Part.TheVariants.{Whole}
use Rattle.design_core.specs.declared.driver.Driver.{Driver}
use Rattle.design_core.specs.declared.driver.Driver.TheVariants.{Cont, Comb}
use Rattle.design_core.specs.declared.design.Design.{Design}
use Rattle.design_core.specs.Valuation.{Valuation, bit, width_at}
use Rattle.design_core.specs.Value.{value}
use Rattle.design_core.specs.After.{Choice}
use Rattle.design_core.specs.Drives.{is_reg, is_listed}
use Rattle.design_core.specs.Cycle.{before, cont_assigned}
use Rattle.design_core.specs.Reads.{reads}
use Rattle.design_core.specs.WellFormed.{IsWellFormed}

-- the signal that a left side of one whole signal names
abbrev pub whole_of : List Part → Option ℕ
whole_of (Whole signal ∷ []) = Some signal
whole_of _ = None

-- the net that a driver assigns, where it is a continuous assignment to one whole net
abbrev pub target_of : Driver → Option ℕ
target_of (Cont target _ _ _) = whole_of target.parts
target_of (Comb _ _) = None

-- whether a driver's value reads a bit
abbrev pub value_reads : List Signal → ℕ → ℕ → Driver → Bool
value_reads signals s b (Cont _ computed _ _) = reads signals s b computed
value_reads signals s b (Comb _ _) = false

-- the driver of a number assigns a net
abbrev pub Assigns : Design → ℕ → ℕ → Type 0
Assigns d i s = (driver : Driver) × (slice_get d.drivers.items i ≡ Some driver) × (target_of driver ≡ Some s)

-- the driver of the one number reads nothing of the net that the driver of the other assigns
abbrev pub IsFreeOf : Design → ℕ → ℕ → Type 0
IsFreeOf d i j =
    (driver : Driver) (s b : ℕ) → slice_get d.drivers.items i ≡ Some driver → Assigns d j s
    → value_reads d.signals.items s b driver ≡ false

pub record IsNetwork (d : Design) (order : List ℕ) : Type 0 where
  pub well_formed : IsWellFormed d
  pub assigned : (i : ℕ) → i < length d.drivers.items → (s : ℕ) × Assigns d i s
  pub once : (i j s : ℕ) → Assigns d i s → Assigns d j s → i ≡ j
  pub inputs_free : (i s : ℕ) → Assigns d i s → is_listed d s ≡ false
  pub unclocked : d.clocked.items ≡ []
  pub no_registers : (s : ℕ) (signal : Signal) → slice_get d.signals.items s ≡ Some signal → is_reg signal.kind ≡ false
  pub order_all : (i : ℕ) → i < length d.drivers.items → Contains order i
  pub order_numbers : All (λ i. i < length d.drivers.items) order
  pub order_self : All (λ i. IsFreeOf d i i) order
  pub order_later : AllPairs (λ i j. (i ≢ j) × IsFreeOf d i j) order

-- a net, all of it, with other bits
abbrev pub with_net : List Signal → Valuation → Option ℕ → (ℕ → Bool) → Valuation
with_net signals V None bits = V
with_net signals V (Some signal) bits = λ s b. if s == signal && nat_lt b (width_at signals signal) then bits b else V s b

-- one assignment carried out
abbrev pub assign : List Signal → Choice → Valuation → Driver → Valuation
assign signals choice V (Cont target computed place _) =
    with_net signals V (whole_of target.parts) (bit (cont_assigned choice place (value signals V computed)))
assign signals choice V (Comb _ _) = V

-- the assignment of a number carried out
abbrev pub step : Design → Choice → Valuation → ℕ → Valuation
step d choice V i = option_map_or (assign d.signals.items choice V) (slice_get d.drivers.items i) V

-- the assignments of an order carried out one after another
abbrev pub settled_from : Design → Choice → Valuation → List ℕ → Valuation
settled_from d choice V [] = V
settled_from d choice V (i ∷ rest) = settled_from d choice (step d choice V i) rest

-- the valuation of a cycle of a network
abbrev pub settled : Design → List ℕ → List Bits → Choice → Valuation
settled d order samples choice = settled_from d choice (before d samples (λ _ _. false)) order

-- Words that the contracts of the evaluator's own functions use, for cycles and runs.
use Rattle.std.specs.Prelude.{ℕ, ◌≡◌, ◌+◌, Bool, false, not, ◌&&◌, ◌||◌, if◌then◌else◌, IsTrue, List, slice_get, Some}
use Rattle.std.specs.Option.{option_map_or}
use Rattle.std.specs.List.{list_any}
use Rattle.loc_base.specs.declared.bits.Bits.{Bits}
use Rattle.loc_base.specs.Bits.{bit_of}
use Rattle.design_core.specs.declared.signal.Signal.{Signal}
use Rattle.design_core.specs.declared.statement.Part.{Part}
use Rattle.design_core.specs.declared.statement.CaseItem.{CaseItem}
use Rattle.design_core.specs.declared.driver.Driver.{Driver}
use Rattle.design_core.specs.declared.driver.Driver.TheVariants.{Cont, Comb}
use Rattle.design_core.specs.declared.driver.Reset.{Reset}
use Rattle.design_core.specs.declared.driver.Clocked.{Clocked}
use Rattle.plain_sim.specs.declared.cycle.drives.Asked.{Asked}
use Rattle.plain_sim.specs.declared.cycle.drives.Asked.TheVariants.{Bit, Later}
use Rattle.plain_sim.specs.declared.cycle.region.Region.{Region}
use Rattle.plain_sim.specs.declared.cycle.region.Region.TheVariants as region
use Rattle.design_core.specs.declared.design.Design.{Design}
use Rattle.design_core.specs.declared.trace.Checked.{Checked}
use Rattle.design_core.specs.declared.trace.Trace.{Trace}
use Rattle.design_core.specs.Run.{Choices, expected_at, IsRunFrom, IsRight}
use Rattle.design_core.specs.Valuation.{Valuation, bit}
use Rattle.design_core.specs.Value.{value}
use Rattle.design_core.specs.Store.{store}
use Rattle.design_core.specs.After.{Choice, after}
use Rattle.design_core.specs.Reads.{AgreeOn}
use Rattle.design_core.specs.Drives.{part_drives, part_names, some_set, driver_drives, is_driven, block_drives, block_assigns_later, is_register_bit, is_listed}
use Rattle.design_core.specs.Cycle.{is_active, is_reset, is_clocked, cont_assigned, driven, left_from}

-- what is asked of an assignment: whether it assigns a bit, or whether it assigns a signal by `<=`
abbrev pub asked_of : List Signal → Asked → List Part → Bool → Bool
asked_of signals (Bit signal position) parts later = list_any (part_drives signals signal position) parts
asked_of signals (Later signal) parts later = later && list_any (part_names signal) parts

-- whether some assignment of a case item passes a test
abbrev pub item_passes : (List Part → Bool → Bool) → CaseItem → Bool
item_passes test item = some_set test item.body

-- whether some assignment of a clocked block passes what is asked, in its body or among its reset's values
abbrev pub block_passes : List Signal → Asked → Clocked → Bool
block_passes signals asked block =
    some_set (asked_of signals asked) block.body || option_map_or (λ r. some_set (asked_of signals asked) r.values) block.reset false

-- whether a bit is in a region; a reset is active by V
abbrev pub is_in : Design → Valuation → Region → ℕ → ℕ → Bool
is_in d V region.Listed s b = is_listed d s
is_in d V region.Registers s b = is_register_bit d s b
is_in d V region.Reset s b = is_register_bit d s b && is_reset d V s b
is_in d V region.Held s b = is_register_bit d s b && not (is_reset d V s b)
is_in d V region.Unclocked s b = is_register_bit d s b && not (is_clocked d s b)
is_in d V region.NoRegister s b = not (is_register_bit d s b)
is_in d V region.Undriven s b = not (is_listed d s || is_register_bit d s b || is_driven d s b)
is_in d V (region.Driver i) s b = option_map_or (driver_drives d.signals.items s b) (slice_get d.drivers.items i) false
is_in d V (region.Block i) s b = option_map_or (λ block. is_register_bit d s b && block_drives d.signals.items s b block) (slice_get d.clocked.items i) false
is_in d V (region.Later i) s b = option_map_or (block_assigns_later s) (slice_get d.clocked.items i) false

-- a bit of the one where a test passes, else of the other
abbrev pub either_bit : (ℕ → Bool) → (ℕ → Bool) → (ℕ → Bool) → ℕ → Bool
either_bit test one other b = if test b then one b else other b

-- the bits of the one valuation where a test passes, else those of the other
abbrev pub blended : (ℕ → ℕ → Bool) → Valuation → Valuation → Valuation
blended test one other s = either_bit (test s) (one s) (other s)

-- what a driver gives, begun in a valuation in which its own bits are 0; V has the bits as they are
abbrev pub driven_from : List Signal → Choice → Valuation → Valuation → Driver → Valuation
driven_from signals choice V rest (Cont target computed place span) =
    store signals rest rest target.parts (bit (cont_assigned choice place (value signals V computed)))
driven_from signals choice V rest (Comb body span) = (after signals choice body (record { now = rest; later = rest })).now

-- the equation of the driver of a number
abbrev pub DriverHolds : Design → Choice → Valuation → ℕ → Type 0
DriverHolds d choice V i =
    (driver : Driver) → slice_get d.drivers.items i ≡ Some driver
    → AgreeOn (λ s b. driver_drives d.signals.items s b driver) V (driven d.signals.items choice V driver)

-- the equation of the reset of the clocked block of a number; E is the valuation before anything is computed
abbrev pub ResetHolds : Design → Choice → Valuation → Valuation → ℕ → Type 0
ResetHolds d choice E V i =
    (block : Clocked) (r : Reset) → slice_get d.clocked.items i ≡ Some block → block.reset ≡ Some r → IsTrue (is_active V block)
    → AgreeOn (λ s b. is_register_bit d s b && block_drives d.signals.items s b block) V (left_from d.signals.items choice block E r.values)

-- the equation of the body of the clocked block of a number
abbrev pub BodyHolds : Design → Choice → Valuation → Valuation → ℕ → Type 0
BodyHolds d choice V next i =
    (block : Clocked) → slice_get d.clocked.items i ≡ Some block → IsTrue (not (is_active V block))
    → AgreeOn (λ s b. is_register_bit d s b && block_drives d.signals.items s b block) next (left_from d.signals.items choice block V block.body)

-- both equations of the clocked block of a number
pub record BlockHolds (d : Design) (choice : Choice) (E V next : Valuation) (i : ℕ) : Type 0 where
  pub reset : ResetHolds d choice E V i
  pub body : BodyHolds d choice V next i

-- ---- runs
-- each bit of an output that is checked is as expected
abbrev pub IsRightWord : Bits → Checked → Type 0
IsRightWord word checked = (b : ℕ) → IsTrue (bit_of checked.mask b) → bit_of word b ≡ bit_of checked.value b

-- the cycles from cycle t on, begun in a state, have valuations that are right
abbrev pub MeetsFrom : Design → Trace → (ℕ → Bool) → Choices → ℕ → Valuation → Type 0
MeetsFrom d trace freed c t state =
    (run : List Valuation) × IsRunFrom d trace freed c t state run
    × ((j : ℕ) (V : Valuation) → slice_get run j ≡ Some V → IsRight d (expected_at d trace (t + j)) V)

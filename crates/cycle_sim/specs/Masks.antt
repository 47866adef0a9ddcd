-- Masks: some bits of the signals, each mask those of one signal where its word has 1.
use Rattle.std.specs.Prelude.{ℕ, ◌≡◌, ◌==◌, ◌<◌, Bool, false, not, ◌&&◌, ◌||◌, if◌then◌else◌, IsTrue, List, All, map, length, slice_get, slice_index_or, nat_lt, [], Some}
use Rattle.std.specs.List.{list_any}
use Rattle.std.specs.Option.{option_map_or}
use Rattle.loc_base.specs.declared.bits.Bits.{Bits}
use Rattle.loc_base.specs.Bits.{bit_of, width_of}
use Rattle.design_core.specs.declared.signal.Signal.{Signal}
use Rattle.design_core.specs.declared.statement.Stmt.{Stmt}
use Rattle.design_core.specs.declared.driver.Driver.{Driver}
use Rattle.design_core.specs.declared.driver.Clocked.{Clocked}
use Rattle.design_core.specs.declared.design.Design.{Design}
use Rattle.design_core.specs.Valuation.{Valuation, width_at}
use Rattle.design_core.specs.After.{Choice, after}
use Rattle.design_core.specs.Cycle.{driven}
use Rattle.design_core.specs.Drives.{some_set, part_drives, driver_drives, block_drives, block_assigns_later, is_register_bit}
use Rattle.cycle_sim.specs.declared.mask.Mask.{Mask}
use Rattle.cycle_sim.specs.declared.registers.Registers.{Registers}

-- whether a mask has a bit
abbrev pub in_mask : Mask → ℕ → ℕ → Bool
in_mask m s b = m.signal == s && bit_of m.bits b

-- whether one of some masks has it
abbrev pub covers : List Mask → ℕ → ℕ → Bool
covers masks s b = list_any (λ m. in_mask m s b) masks

-- each mask has the width of its signal's word
pub record AreMasksOf (widths : List ℕ) (masks : List Mask) : Type 0 where
  pub each : (i : ℕ) (m : Mask) → slice_get masks i ≡ Some m → slice_get widths m.signal ≡ Some (width_of m.bits)

abbrev pub widths_of : List Signal → List ℕ
widths_of signals = map (λ s. s.width) signals

-- the bits of some masks are those that pass a test
pub record AreMasksFor (signals : List Signal) (masks : List Mask) (test : ℕ → ℕ → Bool) : Type 0 where
  pub widths : AreMasksOf (widths_of signals) masks
  pub same : (s b : ℕ) → covers masks s b ≡ test s b

-- whether a statement assigns a bit by `=`
abbrev pub assigns_now : List Signal → ℕ → ℕ → Stmt → Bool
assigns_now signals s b statement = some_set (λ parts later. not later && list_any (part_drives signals s b) parts) statement

-- whether a clocked block does, by its body or by its reset's values
pub record AssignsNone (signals : List Signal) (block : Clocked) (s b : ℕ) : Type 0 where
  pub body : assigns_now signals s b block.body ≡ false
  pub reset : option_map_or (λ r. assigns_now signals s b r.values) block.reset false ≡ false

-- whether a bit is a register's that a clocked block drives
abbrev pub is_own : Design → Clocked → ℕ → ℕ → Bool
is_own d block s b = is_register_bit d s b && block_drives d.signals.items s b block

-- the masks of a clocked block: its registers' bits, those of them in signals that it does not assign by `<=`, and the
-- bits that it assigns by `=`
pub record AreBlockMasks (d : Design) (block : Clocked) (mine once current : List Mask) : Type 0 where
  pub own : AreMasksFor d.signals.items mine (is_own d block)
  pub now : AreMasksFor d.signals.items current (λ s b. is_own d block s b && not (block_assigns_later s block))
  pub at_once_widths : AreMasksOf (widths_of d.signals.items) once
  pub at_once : (s b : ℕ) → covers once s b ≡ false → AssignsNone d.signals.items block s b

-- a row of masks for each driver: the bits that it drives
pub record AreDriverMasks (d : Design) (rows : List (List Mask)) : Type 0 where
  pub many : length rows ≡ length d.drivers.items
  pub each : (i : ℕ) (driver : Driver) → slice_get d.drivers.items i ≡ Some driver
      → AreMasksFor d.signals.items (slice_index_or rows i []) (λ s b. driver_drives d.signals.items s b driver)

-- a valuation with a driver's own bits as it gives them
abbrev pub with_own : List Signal → Choice → Driver → Valuation → Valuation
with_own signals choice driver V s b = if driver_drives signals s b driver then driven signals choice V driver s b else V s b

-- rows of masks for each clocked block
pub record AreClockedMasks (d : Design) (own at_once now : List (List Mask)) : Type 0 where
  pub own_many : length own ≡ length d.clocked.items
  pub at_once_many : length at_once ≡ length d.clocked.items
  pub now_many : length now ≡ length d.clocked.items
  pub each : (i : ℕ) (block : Clocked) → slice_get d.clocked.items i ≡ Some block
      → AreBlockMasks d block (slice_index_or own i []) (slice_index_or at_once i []) (slice_index_or now i [])

-- the bits of registers, as masks
pub record AreRegisters (d : Design) (masks : List Mask) : Type 0 where
  pub widths : AreMasksOf (widths_of d.signals.items) masks
  pub same : (s b : ℕ) → covers masks s b ≡ (is_register_bit d s b && nat_lt b (width_at d.signals.items s))

-- each bit of a word is 1
abbrev pub IsFull : Bits → Type 0
IsFull bits = (b : ℕ) → b < width_of bits → IsTrue (bit_of bits b)

-- whether a signal is one of some
abbrev pub is_among : List ℕ → ℕ → Bool
is_among signals s = list_any (λ k. k == s) signals

-- some masks have the bits of the words of some signals, and those of some other masks
pub record IsSplit (widths : List ℕ) (masks : List Mask) (signals : List ℕ) (others : List Mask) : Type 0 where
  pub whole : All (λ s. s < length widths) signals
  pub parts : AreMasksOf widths others
  pub same : (s b width : ℕ) → slice_get widths s ≡ Some width → b < width → covers masks s b ≡ (is_among signals s || covers others s b)

-- the bits of registers are those of the whole words and of the parts
abbrev pub AreSplit : List ℕ → Registers → Type 0
AreSplit widths registers = IsSplit widths registers.masks.items registers.whole.items registers.parts.items

-- what a statement of a clocked block leaves in the words of states, begun with V and S: the later updates, but what is
-- read in the registers' bits that it does not assign by `<=`
abbrev pub left_in : List Signal → Choice → List Mask → Stmt → Valuation → Valuation → Valuation
left_in signals choice masks statement V S s b =
    let m = after signals choice statement (record { now = V; later = S }) in
    if covers masks s b then m.now s b else m.later s b

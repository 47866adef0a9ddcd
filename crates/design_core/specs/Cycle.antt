-- One clock cycle of a design whose values have two states. Each driver gives one equation for its bits, and all of
-- them hold at once: nothing here says in which order they are computed.
use Rattle.std.specs.Prelude.{ℕ, ◌≡◌, ◌==◌, Bool, false, not, ◌&&◌, ◌||◌, if◌then◌else◌, IsTrue, List, [], ◌∷◌, Contains, Option, Some, None}
use Rattle.std.specs.Option.{option_map_or}
use Rattle.std.specs.List.{list_any}
use Rattle.loc_base.specs.declared.bits.Bits.{Bits}
use Rattle.loc_base.specs.Bits.{bit_of}
use Rattle.design_core.specs.declared.signal.Signal.{Signal}
use Rattle.design_core.specs.declared.statement.Stmt.{Stmt}
use Rattle.design_core.specs.declared.driver.Driver.{Driver}
use Rattle.design_core.specs.declared.driver.Driver.TheVariants.{Cont, Comb}
use Rattle.design_core.specs.declared.driver.Reset.{Reset}
use Rattle.design_core.specs.declared.driver.Clocked.{Clocked}
use Rattle.design_core.specs.declared.design.Design.{Design}
use Rattle.design_core.specs.Valuation.{Valuation, bit}
use Rattle.design_core.specs.Value.{value}
use Rattle.design_core.specs.Store.{store}
use Rattle.design_core.specs.After.{Choice, assigned, after, Updates}
use Rattle.design_core.specs.Drives.{driver_drives, is_driven, block_drives, block_assigns_later, is_register_bit, is_listed}

-- a bit of an input, by the input's sample
abbrev pub sampled : List ℕ → List Bits → Valuation
sampled [] samples s b = false
sampled (input ∷ inputs) [] s b = false
sampled (input ∷ inputs) (sample ∷ samples) s b = if input == s then bit_of sample b else sampled inputs samples s b

-- the valuation before anything is computed: samples and register states, all other bits 0
abbrev pub before : Design → List Bits → Valuation → Valuation
before d samples state s b =
    if is_listed d s then sampled d.inputs.items samples s b else is_register_bit d s b && state s b

-- a valuation with a driver's own bits at 0
abbrev pub without : List Signal → Driver → Valuation → Valuation
without signals driver V s b = not (driver_drives signals s b driver) && V s b

-- what a place of a continuous assignment assigns, where it has one
abbrev pub cont_assigned : Choice → Option ℕ → ℕ → ℕ
cont_assigned choice None computed = computed
cont_assigned choice (Some place) computed = assigned choice place computed

-- what a driver gives its bits where the bits are as in V
abbrev pub driven : List Signal → Choice → Valuation → Driver → Valuation
driven signals choice V (Cont target computed place span) =
    let rest = without signals (Cont target computed place span) V in
    store signals rest rest target.parts (bit (cont_assigned choice place (value signals V computed)))
driven signals choice V (Comb body span) =
    let rest = without signals (Comb body span) V in
    (after signals choice body (record { now = rest; later = rest })).now

-- what a clocked block leaves for its registers: their later updates where they are assigned by `<=`
abbrev pub left : Clocked → Updates → Valuation
left block m s b = if block_assigns_later s block then m.later s b else m.now s b

-- what a statement of a clocked block leaves for its registers, begun in V
abbrev pub left_from : List Signal → Choice → Clocked → Valuation → Stmt → Valuation
left_from signals choice block V statement = left block (after signals choice statement (record { now = V; later = V }))

-- whether the reset of a clocked block is active: its signal is at the reset's level
abbrev pub is_active : Valuation → Clocked → Bool
is_active V block = option_map_or (λ r. if r.level then V r.signal 0 else not (V r.signal 0)) block.reset false

-- whether a clocked block whose reset is active drives a bit
abbrev pub is_reset : Design → Valuation → ℕ → ℕ → Bool
is_reset d V s b = list_any (λ block. is_active V block && block_drives d.signals.items s b block) d.clocked.items

-- whether a clocked block drives a bit
abbrev pub is_clocked : Design → ℕ → ℕ → Bool
is_clocked d s b = list_any (block_drives d.signals.items s b) d.clocked.items

-- V and the next states are those of one cycle, for these samples and register states, some places being freed and
-- their values chosen. Each fact is said of every bit, by its signal and position.
pub record Cycle (d : Design) (samples : List Bits) (state : Valuation) (choice : Choice) (V next : Valuation) : Type 0 where
  -- an input has its sample
  pub input : (s b : ℕ) → IsTrue (is_listed d s) → V s b ≡ sampled d.inputs.items samples s b
  -- a register whose block's reset is active has its reset value, in this very cycle
  pub reset : (block : Clocked) (r : Reset) (s b : ℕ) → Contains d.clocked.items block → block.reset ≡ Some r
      → IsTrue (is_active V block) → IsTrue (block_drives d.signals.items s b block) → IsTrue (is_register_bit d s b)
      → V s b ≡ left_from d.signals.items choice block (before d samples state) r.values s b
  -- every other register has its state
  pub register : (s b : ℕ) → IsTrue (is_register_bit d s b) → IsTrue (not (is_reset d V s b)) → V s b ≡ state s b
  -- a driver's bits are what it gives them, the other bits being as they are
  pub driver : (driver : Driver) (s b : ℕ) → Contains d.drivers.items driver
      → IsTrue (driver_drives d.signals.items s b driver) → V s b ≡ driven d.signals.items choice V driver s b
  -- a bit that is none of these is 0, the clock's among them
  pub other : (s b : ℕ) → IsTrue (not (is_listed d s || is_register_bit d s b || is_driven d s b)) → V s b ≡ false
  -- the next state of a register is what its block leaves, where the block's reset is not active
  pub next_clocked : (block : Clocked) (s b : ℕ) → Contains d.clocked.items block → IsTrue (not (is_active V block))
      → IsTrue (block_drives d.signals.items s b block) → IsTrue (is_register_bit d s b)
      → next s b ≡ left_from d.signals.items choice block V block.body s b
  -- where it is active, the next state is the reset value
  pub next_reset : (s b : ℕ) → IsTrue (is_register_bit d s b) → IsTrue (is_reset d V s b) → next s b ≡ V s b
  -- every other register keeps its state
  pub next_kept : (s b : ℕ) → IsTrue (is_register_bit d s b) → IsTrue (not (is_clocked d s b)) → next s b ≡ state s b
  -- and a bit that is no register has the next state 0
  pub next_other : (s b : ℕ) → IsTrue (not (is_register_bit d s b)) → next s b ≡ false

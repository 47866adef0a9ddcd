-- Ranges of instructions, and what their runs do: all drivers in their order, and the statements of the clocked blocks.
use Rattle.std.specs.Prelude.{ℕ, ◌≡◌, ◌+◌, ◌<◌, ◌≤◌, Bool, false, IsTrue, List, length, map, slice_get, Option, Some}
use Rattle.loc_base.specs.declared.bits.Bits.{Bits}
use Rattle.loc_base.specs.Bits.{width_of}
use Rattle.design_core.specs.declared.expression.Typed.{Typed}
use Rattle.design_core.specs.declared.statement.Part.{Part}
use Rattle.design_core.specs.declared.statement.Stmt.{Stmt}
use Rattle.design_core.specs.declared.driver.Clocked.{Clocked}
use Rattle.design_core.specs.declared.driver.Reset.{Reset}
use Rattle.design_core.specs.declared.driver.Driver.{Driver}
use Rattle.design_core.specs.declared.design.Design.{Design}
use Rattle.design_core.specs.Valuation.{Valuation, bit, width_at}
use Rattle.design_core.specs.Store.{store, with_bits}
use Rattle.design_core.specs.Constant.{zeros}
use Rattle.design_core.specs.After.{Choice, after}
use Rattle.design_core.specs.Cycle.{cont_assigned}
use Rattle.design_core.specs.Drives.{is_driven}
use Rattle.design_core.specs.Steps.{with_driver, with_drivers}
use Rattle.design_core.specs.WellFormed.{statement_fits}
use Rattle.design_core.specs.Words.{valuation_of}
use Rattle.plain_sim.specs.EvaluateCycle.{blended}
use Rattle.cycle_code.specs.Program.{Program, Grown, program_of, signals_of, count_of}
use Rattle.cycle_code.specs.Cells.{below, updates_in, HasConstants}
use Rattle.cycle_code.specs.Effects.{held_in}
use Rattle.cycle_code.specs.Fitting.{IsSound}
use Rattle.cycle_code.specs.Running.{run}
use Rattle.cycle_compile.specs.Compiling.{Leads, value_in}
use Rattle.cycle_sim.specs.declared.mask.Mask.{Mask}
use Rattle.cycle_code.specs.declared.range.Range.{Range}
use Rattle.cycle_sim.specs.declared.compiled.Compiled.{Compiled}
use Rattle.cycle_sim.specs.Masks.{assigns_now, covers, in_mask, left_in, with_own}

-- ---- the cells
-- the words that are read, those of later updates, and the room
abbrev pub now_in : Program → Valuation → Valuation
now_in p V = below (count_of p) V

abbrev pub later_in : Program → Valuation → Valuation
later_in p V = below (count_of p) (λ s. V (count_of p + s))

abbrev pub room_in : Program → Valuation → Valuation
room_in p V = below (count_of p) (λ s. V (count_of p + count_of p + s))

-- the cells of a program between its runs: each has its width, and the constants hold their numbers
pub record AreCells (p : Program) (cells : List Bits) : Type 0 where
  pub widths : map width_of cells ≡ p.widths
  pub constants : HasConstants p (valuation_of cells)

-- the cells between two numbers are as they were
abbrev pub Untouched : ℕ → ℕ → Valuation → Valuation → Type 0
Untouched from to V W = (cell b : ℕ) → from ≤ cell → cell < to → W cell b ≡ V cell b

-- ---- ranges
-- what a run leaves besides the words of the signals: the room as it was, and the constants
pub record Spares (p : Program) (V W : Valuation) : Type 0 where
  pub room : room_in p W ≡ room_in p V
  pub constants : HasConstants p W

-- a range carries out a statement, in each program that a program grows into
pub record Carries (p : Program) (range : Range) (statement : Stmt) : Type 0 where
  pub within : range.from ≤ length p.instructions
  pub updates : (q : Program) (choice : Choice) (V : Valuation) → Grown p q → HasConstants q V
      → updates_in (count_of q) (run q choice range.to range.from V) ≡ after (signals_of q) choice statement (updates_in (count_of q) V)
  pub spares : (q : Program) (choice : Choice) (V : Valuation) → Grown p q → HasConstants q V
      → Spares q V (run q choice range.to range.from V)

-- a range carries out the drivers of some numbers in order
pub record Drives (p : Program) (range : Range) (order : List ℕ) : Type 0 where
  pub within : range.from ≤ length p.instructions
  pub now : (q : Program) (choice : Choice) (V : Valuation) → Grown p q → HasConstants q V
      → now_in q (run q choice range.to range.from V) ≡ with_drivers q.design choice order (now_in q V)
  pub later : (q : Program) (choice : Choice) (V : Valuation) → Grown p q → HasConstants q V → (s b : ℕ) → is_driven q.design s b ≡ false
      → later_in q (run q choice range.to range.from V) s b ≡ later_in q V s b
  pub spares : (q : Program) (choice : Choice) (V : Valuation) → Grown p q → HasConstants q V
      → Spares q V (run q choice range.to range.from V)

-- the range of a block's reset carries out the reset's values, where it has one
abbrev pub CarriesReset : Program → Range → Clocked → Type 0
CarriesReset p range block = (reset : Reset) → block.reset ≡ Some reset → Carries p range reset.values

-- a range for the body of each of some blocks
pub record AreBodies (p : Program) (blocks : List Clocked) (ranges : List Range) : Type 0 where
  pub many : length ranges ≡ length blocks
  pub each : (i : ℕ) (block : Clocked) (range : Range) → slice_get blocks i ≡ Some block → slice_get ranges i ≡ Some range
      → Carries p range block.body

-- and for the reset of each
pub record AreResets (p : Program) (blocks : List Clocked) (ranges : List Range) : Type 0 where
  pub many : length ranges ≡ length blocks
  pub each : (i : ℕ) (block : Clocked) (range : Range) → slice_get blocks i ≡ Some block → slice_get ranges i ≡ Some range
      → CarriesReset p range block

-- a range carries out a statement that fits, and that assigns by `=` in the bits of some masks alone
pub record CarriesWithin (p : Program) (range : Range) (masks : List Mask) (statement : Stmt) : Type 0 where
  pub carries : Carries p range statement
  pub fits : IsTrue (statement_fits (signals_of p) p.design.places.items statement)
  pub all : (s b : ℕ) → covers masks s b ≡ false → assigns_now (signals_of p) s b statement ≡ false

-- what a statement of a clocked block leaves in the cells: in the words of states, the words that are read being as before
pub record LeftBy (p : Program) (choice : Choice) (masks : List Mask) (statement : Stmt) (V W : Valuation) : Type 0 where
  pub same : now_in p W ≡ now_in p V
  pub left : later_in p W ≡ left_in (signals_of p) choice masks statement (now_in p V) (later_in p V)

-- the code is that of a design whose drivers are carried out in an order
pub record IsCompiled (d : Design) (order : List ℕ) (compiled : Compiled) : Type 0 where
  pub design : compiled.code.design.now ≡ d
  pub sound : IsSound (program_of compiled.code)
  pub drivers : Drives (program_of compiled.code) compiled.drivers order
  pub bodies : AreBodies (program_of compiled.code) d.clocked.items compiled.bodies.items
  pub resets : AreResets (program_of compiled.code) d.clocked.items compiled.resets.items

-- ---- pieces of a driver
-- some words are left to be read; of later updates those bits alone may be changed that pass a test, and of the other cells below
-- a number none
pub record Turned (p : Program) (count : ℕ) (words : Valuation) (drives : ℕ → ℕ → Bool) (V W : Valuation) : Type 0 where
  pub now : now_in p W ≡ words
  pub later : (s b : ℕ) → drives s b ≡ false → later_in p W s b ≡ later_in p V s b
  pub keeps : Untouched (count_of p + count_of p) count V W

-- a run goes on at a lower number with cells that are so
pub record Left (p : Program) (choice : Choice) (at lower count : ℕ) (now : Valuation) (drives : ℕ → ℕ → Bool)
    (V : Valuation) : Type 0 where
  pub W : Valuation
  pub leads : Leads p choice at V lower W
  pub turned : Turned p count now drives V W

-- what was pushed leaves words that depend on the cells
pub record Pushes (old new : Program) (now : Program → Choice → Valuation → Valuation) (drives : ℕ → ℕ → Bool) : Type 0 where
  pub grown : Grown old new
  pub leaves : (p : Program) (choice : Choice) (V : Valuation) → Grown new p → HasConstants p V
      → Left p choice (length new.instructions) (length old.instructions) (length old.widths) (now p choice V) drives V

-- no bit
abbrev pub none : ℕ → ℕ → Bool
none s b = false

-- the words with the bits of a mask at 0
abbrev pub masked_now : Mask → Program → Choice → Valuation → Valuation
masked_now mask p choice V = blended (in_mask mask) zeros (now_in p V)

-- and with those of some masks
abbrev pub cleared_now : List Mask → Program → Choice → Valuation → Valuation
cleared_now masks p choice V = blended (covers masks) zeros (now_in p V)

-- those after a continuous assignment of the word of a cell to a left side, none of whose bits is put at 0 first
abbrev pub stored_now : List Part → Option ℕ → ℕ → Program → Choice → Valuation → Valuation
stored_now parts place cell p choice V =
    store (signals_of p) (now_in p V) (now_in p V) parts (bit (cont_assigned choice place (held_in p V cell)))

-- those after one of the word of a cell to a whole signal
abbrev pub put_now : ℕ → Option ℕ → ℕ → Program → Choice → Valuation → Valuation
put_now signal place cell p choice V =
    with_bits (now_in p V) signal 0 (width_at (signals_of p) signal) (bit (cont_assigned choice place (held_in p V cell)))

-- those after one of the value of an expression to a whole signal
abbrev pub whole_now : ℕ → Option ℕ → Typed → Program → Choice → Valuation → Valuation
whole_now signal place e p choice V =
    with_bits (now_in p V) signal 0 (width_at (signals_of p) signal) (bit (cont_assigned choice place (value_in p V e)))

-- and to a left side, the bits of some masks being put at 0 first
abbrev pub parts_now : List Mask → List Part → Option ℕ → Typed → Program → Choice → Valuation → Valuation
parts_now masks parts place e p choice V =
    let N = blended (covers masks) zeros (now_in p V) in
    store (signals_of p) N N parts (bit (cont_assigned choice place (value_in p V e)))

-- those after a driver, after that of a number, and after those of some numbers in order
abbrev pub driver_now : Driver → Program → Choice → Valuation → Valuation
driver_now driver p choice V = with_own (signals_of p) choice driver (now_in p V)

abbrev pub number_now : ℕ → Program → Choice → Valuation → Valuation
number_now i p choice V = with_driver p.design choice i (now_in p V)

abbrev pub numbers_now : List ℕ → Program → Choice → Valuation → Valuation
numbers_now order p choice V = with_drivers p.design choice order (now_in p V)

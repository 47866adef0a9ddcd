-- Which bits the right side of a place reads, and which places are bound to them: those whose right side reads no signal that
-- its own always block assigns by `=`, so that what it reads is what the cycle shows (IEEE 1364-2005, 9.2.1 and 9.2.2).
use Rattle.std.specs.Prelude.{ℕ, zero, suc, ◌+◌, ◌==◌, Bool, false, not, ◌&&◌, ◌||◌, if◌then◌else◌, List, [], ◌∷◌, ◌++◌}
use Rattle.std.specs.Option.{option_map_or}
use Rattle.std.specs.List.{list_any}
use Rattle.design_core.specs.declared.signal.Signal.{Signal}
use Rattle.design_core.specs.declared.expression.Typed.{Typed}
use Rattle.design_core.specs.declared.statement.CaseItem.{CaseItem}
use Rattle.design_core.specs.declared.statement.Stmt.{Stmt, Row_of-Stmt, end_of-Stmt, more_of-Stmt, Row_of-CaseItem, end_of-CaseItem, more_of-CaseItem}
use Rattle.design_core.specs.declared.statement.Stmt.TheVariants.{Nothing, Block', If', Case', Set}
use Rattle.design_core.specs.declared.driver.Driver.{Driver}
use Rattle.design_core.specs.declared.driver.Driver.TheVariants.{Cont, Comb}
use Rattle.design_core.specs.declared.driver.Clocked.{Clocked}
use Rattle.design_core.specs.declared.design.Design.{Design}
use Rattle.design_core.specs.Drives.{some_set, part_names}
use Rattle.design_core.specs.Reads.{reads}
use Rattle.place_functions.specs.declared.signal_bit.SignalBit.{SignalBit}

-- whether some assignment in a statement passes a test of its place and its right side
abbrev mutual
  pub some_value : (ℕ → Typed → Bool) → Stmt → Bool
  some_value test Nothing = false
  some_value test (Block' _ statements) = some_value_of test statements
  some_value test (If' _ _ (more_of-Stmt on_true end_of-Stmt) _ (more_of-Stmt on_false end_of-Stmt)) = some_value test on_true || some_value test on_false
  some_value test (Case' _ _ items _ (more_of-Stmt other end_of-Stmt) _) = some_value_in test items || some_value test other
  some_value test (Set place _ value _) = test place value

  pub some_value_of : {shape : _} → (ℕ → Typed → Bool) → Row_of-Stmt shape → Bool
  some_value_of test end_of-Stmt = false
  some_value_of test (more_of-Stmt statement rest) = some_value test statement || some_value_of test rest

  pub some_value_in : {shape : _} → (ℕ → Typed → Bool) → Row_of-CaseItem shape → Bool
  some_value_in test end_of-CaseItem = false
  some_value_in test (more_of-CaseItem _ body rest) = some_value test body || some_value_in test rest

-- whether an assignment is that of a place, and its right side reads a bit
abbrev pub assigns_from : List Signal → ℕ → ℕ → ℕ → ℕ → Typed → Bool
assigns_from signals p s b place value = (place == p) && reads signals s b value

-- whether the right side of a place reads a bit, in a statement
abbrev pub statement_uses : List Signal → ℕ → ℕ → ℕ → Stmt → Bool
statement_uses signals p s b statement = some_value (assigns_from signals p s b) statement

-- in an item of a case
abbrev pub item_uses : List Signal → ℕ → ℕ → ℕ → CaseItem → Bool
item_uses signals p s b item = statement_uses signals p s b item.body

-- in a driver
abbrev pub driver_uses : List Signal → ℕ → ℕ → ℕ → Driver → Bool
driver_uses signals p s b (Cont _ value place _) = option_map_or (λ q. assigns_from signals p s b q value) place false
driver_uses signals p s b (Comb body _) = statement_uses signals p s b body

-- in a clocked block: its body or its reset's values
abbrev pub block_uses : List Signal → ℕ → ℕ → ℕ → Clocked → Bool
block_uses signals p s b block =
    statement_uses signals p s b block.body || option_map_or (λ r. statement_uses signals p s b r.values) block.reset false

-- whether a bit is an operand of a place: the place's right side reads it
abbrev pub is_operand : Design → ℕ → ℕ → ℕ → Bool
is_operand d p s b =
    list_any (driver_uses d.signals.items p s b) d.drivers.items || list_any (block_uses d.signals.items p s b) d.clocked.items

-- of the bits of a signal from one on, so many, those that pass a test
abbrev pub bits_passing : (ℕ → Bool) → ℕ → ℕ → ℕ → List SignalBit
bits_passing test s b zero = []
bits_passing test s b (suc more) =
    if test b then record { signal = s; position = b } ∷ bits_passing test s (b + 1) more else bits_passing test s (b + 1) more

-- of the bits of signals, the first of which has a number, those that pass a test
abbrev pub all_passing : (ℕ → ℕ → Bool) → ℕ → List Signal → List SignalBit
all_passing test s [] = []
all_passing test s (signal ∷ signals) = bits_passing (test s) s 0 signal.width ++ all_passing test (s + 1) signals

-- the operands of a place, by their signals and then their positions
abbrev pub operands_of : Design → ℕ → List SignalBit
operands_of d p = all_passing (is_operand d p) 0 d.signals.items

-- whether a place stands in a statement
abbrev pub has_place : ℕ → Stmt → Bool
has_place p statement = some_value (λ place value. place == p) statement

-- whether a statement assigns a signal by `=`
abbrev pub assigns_now : ℕ → Stmt → Bool
assigns_now s statement = some_set (λ parts later. not later && list_any (part_names s) parts) statement

-- whether a driver is the always block of a place and assigns a signal by `=`; a continuous assignment is no block
abbrev pub driver_owns : ℕ → ℕ → Driver → Bool
driver_owns p s (Cont _ _ _ _) = false
driver_owns p s (Comb body _) = has_place p body && assigns_now s body

-- whether a clocked block does, its body and its reset's values together
abbrev pub block_owns : ℕ → ℕ → Clocked → Bool
block_owns p s block =
    (has_place p block.body || option_map_or (λ r. has_place p r.values) block.reset false)
    && (assigns_now s block.body || option_map_or (λ r. assigns_now s r.values) block.reset false)

-- whether the always block of a place assigns a signal by `=`
abbrev pub is_own : Design → ℕ → ℕ → Bool
is_own d p s = list_any (driver_owns p s) d.drivers.items || list_any (block_owns p s) d.clocked.items

-- whether a place is bound: its own block assigns none of its operands' signals by `=`
abbrev pub is_bound : Design → ℕ → Bool
is_bound d p = not (list_any (λ operand. is_own d p operand.signal) (operands_of d p))

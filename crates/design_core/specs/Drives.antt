-- Which bits a driver gives values to (IEEE 1364-2005, 6.1 and 9.9), which are registers, and which signals a
-- statement assigns by `<=`. A left side with a constant index drives the bits that have its indexes, one with a
-- variable index all bits of its signal or array.
use Rattle.std.specs.Prelude.{ℕ, ◌+◌, ◌==◌, Bool, true, false, not, ◌&&◌, ◌||◌, nat_le, nat_lt, List, slice_get}
use Rattle.std.specs.Option.{option_map_or}
use Rattle.std.specs.List.{list_any}
use Rattle.design_core.specs.declared.signal.Signal.{Signal}
use Rattle.design_core.specs.declared.signal.SignalKind.{SignalKind}
use Rattle.design_core.specs.declared.signal.SignalKind.TheVariants.{Input, Net, Reg}
use Rattle.design_core.specs.declared.statement.Part.{Part}
use Rattle.design_core.specs.declared.statement.Part.TheVariants.{Whole, Slice, Pick, Word}
use Rattle.design_core.specs.declared.statement.Stmt.{Stmt, Row_of-Stmt, end_of-Stmt, more_of-Stmt, Row_of-CaseItem, end_of-CaseItem, more_of-CaseItem}
use Rattle.design_core.specs.declared.statement.Stmt.TheVariants.{Nothing, Block', If', Case', Set}
use Rattle.design_core.specs.declared.driver.Driver.{Driver}
use Rattle.design_core.specs.declared.driver.Driver.TheVariants.{Cont, Comb}
use Rattle.design_core.specs.declared.driver.Clocked.{Clocked}
use Rattle.design_core.specs.declared.design.Design.{Design}
use Rattle.design_core.specs.Valuation.{width_at}
use Rattle.design_core.specs.Pick.{may_pick}

-- whether a number is one of `count` from `first` on
abbrev pub is_among : ℕ → ℕ → ℕ → Bool
is_among first count n = nat_le first n && nat_lt n (first + count)

-- whether a part of a left side drives a bit
abbrev pub part_drives : List Signal → ℕ → ℕ → Part → Bool
part_drives signals s b (Whole signal) = s == signal && nat_lt b (width_at signals signal)
part_drives signals s b (Slice signal from width) = s == signal && is_among from width b
part_drives signals s b (Pick signal index offsets) =
    s == signal && may_pick signals signal index.width index.signed index.node offsets b
part_drives signals s b (Word first count _ _ _ _) = is_among first count s && nat_lt b (width_at signals s)

-- whether a part of a left side names a signal
abbrev pub part_names : ℕ → Part → Bool
part_names s (Whole signal) = s == signal
part_names s (Slice signal _ _) = s == signal
part_names s (Pick signal _ _) = s == signal
part_names s (Word first count _ _ _ _) = is_among first count s

-- whether some assignment in a statement passes a test of its left side's parts and of its being nonblocking
abbrev mutual
  pub some_set : (List Part → Bool → Bool) → Stmt → Bool
  some_set test Nothing = false
  some_set test (Block' _ statements) = some_set_of test statements
  some_set test (If' _ _ (more_of-Stmt on_true end_of-Stmt) _ (more_of-Stmt on_false end_of-Stmt)) = some_set test on_true || some_set test on_false
  some_set test (Case' _ _ items _ (more_of-Stmt other end_of-Stmt) _) = some_set_in test items || some_set test other
  some_set test (Set _ target _ later) = test target.parts later

  pub some_set_of : {shape : _} → (List Part → Bool → Bool) → Row_of-Stmt shape → Bool
  some_set_of test end_of-Stmt = false
  some_set_of test (more_of-Stmt statement rest) = some_set test statement || some_set_of test rest

  pub some_set_in : {shape : _} → (List Part → Bool → Bool) → Row_of-CaseItem shape → Bool
  some_set_in test end_of-CaseItem = false
  some_set_in test (more_of-CaseItem _ body rest) = some_set test body || some_set_in test rest

-- whether a statement assigns a bit
abbrev pub statement_drives : List Signal → ℕ → ℕ → Stmt → Bool
statement_drives signals s b statement = some_set (λ parts later. list_any (part_drives signals s b) parts) statement

-- whether a statement assigns a signal by `<=`
abbrev pub assigns_later : ℕ → Stmt → Bool
assigns_later s statement = some_set (λ parts later. later && list_any (part_names s) parts) statement

-- whether a driver drives a bit
abbrev pub driver_drives : List Signal → ℕ → ℕ → Driver → Bool
driver_drives signals s b (Cont target _ _ _) = list_any (part_drives signals s b) target.parts
driver_drives signals s b (Comb body _) = statement_drives signals s b body

-- whether a driver of the list drives a bit
abbrev pub is_driven : Design → ℕ → ℕ → Bool
is_driven d s b = list_any (driver_drives d.signals.items s b) d.drivers.items

-- whether a clocked block drives a bit, by its body or by its reset's values
abbrev pub block_drives : List Signal → ℕ → ℕ → Clocked → Bool
block_drives signals s b block =
    statement_drives signals s b block.body || option_map_or (λ r. statement_drives signals s b r.values) block.reset false

-- whether a clocked block assigns a signal by `<=`
abbrev pub block_assigns_later : ℕ → Clocked → Bool
block_assigns_later s block = assigns_later s block.body || option_map_or (λ r. assigns_later s r.values) block.reset false

abbrev pub is_reg : SignalKind → Bool
is_reg Input = false
is_reg Net = false
is_reg Reg = true

-- a register bit: a bit of a variable that no driver of the list drives
abbrev pub is_register_bit : Design → ℕ → ℕ → Bool
is_register_bit d s b =
    option_map_or (λ signal. is_reg signal.kind) (slice_get d.signals.items s) false && not (is_driven d s b)

-- whether a signal is an input of the top that traces give
abbrev pub is_listed : Design → ℕ → Bool
is_listed d s = list_any (λ input. input == s) d.inputs.items

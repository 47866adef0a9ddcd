-- Which bits a driver or a clocked block reads anywhere: in a value, a condition, a label or an index (IEEE 1364-2005,
-- 9.7.5). What a block assigns itself before it reads it counts too, unlike for what a block waits for.
use Rattle.std.specs.Prelude.{ℕ, ◌==◌, Bool, false, ◌&&◌, ◌||◌, List}
use Rattle.std.specs.Option.{option_map_or}
use Rattle.std.specs.List.{list_any}
use Rattle.design_core.specs.declared.signal.Signal.{Signal}
use Rattle.design_core.specs.declared.statement.Stmt.{Stmt, Row_of-Stmt, end_of-Stmt, more_of-Stmt, Row_of-CaseItem, end_of-CaseItem, more_of-CaseItem}
use Rattle.design_core.specs.declared.statement.Stmt.TheVariants.{Nothing, Block', If', Case', Set}
use Rattle.design_core.specs.declared.driver.Driver.{Driver}
use Rattle.design_core.specs.declared.driver.Driver.TheVariants.{Cont, Comb}
use Rattle.design_core.specs.declared.driver.Reset.{Reset}
use Rattle.design_core.specs.declared.driver.Clocked.{Clocked}
use Rattle.design_core.specs.Reads.{reads, part_reads, driver_reads}

-- whether a statement reads a bit in some expression
abbrev mutual
  pub statement_mentions : List Signal → ℕ → ℕ → Stmt → Bool
  statement_mentions signals s b Nothing = false
  statement_mentions signals s b (Block' _ statements) = statements_mention signals s b statements
  statement_mentions signals s b (If' cond _ (more_of-Stmt on_true end_of-Stmt) _ (more_of-Stmt on_false end_of-Stmt)) =
      reads signals s b cond || (statement_mentions signals s b on_true || statement_mentions signals s b on_false)
  statement_mentions signals s b (Case' subject _ items _ (more_of-Stmt other end_of-Stmt) _) =
      reads signals s b subject || (items_mention signals s b items || statement_mentions signals s b other)
  statement_mentions signals s b (Set _ target value _) =
      reads signals s b value || list_any (part_reads signals s b) target.parts

  pub statements_mention : {shape : _} → List Signal → ℕ → ℕ → Row_of-Stmt shape → Bool
  statements_mention signals s b end_of-Stmt = false
  statements_mention signals s b (more_of-Stmt statement rest) = statement_mentions signals s b statement || statements_mention signals s b rest

  pub items_mention : {shape : _} → List Signal → ℕ → ℕ → Row_of-CaseItem shape → Bool
  items_mention signals s b end_of-CaseItem = false
  items_mention signals s b (more_of-CaseItem labels body rest) =
      list_any (λ label. reads signals s b label.value) labels
      || (statement_mentions signals s b body || items_mention signals s b rest)

-- whether a driver does
abbrev pub driver_mentions : List Signal → ℕ → ℕ → Driver → Bool
driver_mentions signals s b (Cont target value place span) = driver_reads signals s b (Cont target value place span)
driver_mentions signals s b (Comb body _) = statement_mentions signals s b body

-- whether a reset does: its condition reads the one bit of its signal
abbrev pub reset_mentions : List Signal → ℕ → ℕ → Reset → Bool
reset_mentions signals s b r = (s == r.signal && b == 0) || statement_mentions signals s b r.values

-- whether a clocked block does
abbrev pub block_mentions : List Signal → ℕ → ℕ → Clocked → Bool
block_mentions signals s b block =
    statement_mentions signals s b block.body || option_map_or (reset_mentions signals s b) block.reset false

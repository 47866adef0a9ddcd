-- How much some nodes weigh, by what they read and which place they assign: to count those that read sources, and those of a place.
use Rattle.std.specs.Prelude.{ℕ, ◌+◌, List, [], ◌∷◌, sum_by}
use Rattle.std.specs.Option.{option_map_or}
use Rattle.design_core.specs.declared.signal.Signal.{Signal}
use Rattle.design_core.specs.declared.statement.Stmt.{Stmt, Row_of-Stmt, end_of-Stmt, more_of-Stmt, Row_of-CaseItem, end_of-CaseItem, more_of-CaseItem}
use Rattle.design_core.specs.declared.statement.Stmt.TheVariants as stmt
use Rattle.design_core.specs.declared.driver.Driver.{Driver}
use Rattle.design_core.specs.declared.driver.Driver.TheVariants as driver
use Rattle.design_core.specs.declared.driver.Clocked.{Clocked}
use Rattle.design_core.specs.declared.design.Design.{Design}
use Rattle.design_core.specs.Store.{parts_width}
use Rattle.word_net.specs.declared.node.Operation.{Operation}
use Rattle.word_net.specs.declared.node.Operation.TheVariants.{Const, Input, State, Free, Unary, Binary, Choose, Join, Repeat, Resize, Slice, Pick, Is, Put, PutPick, Blend}
use Rattle.word_net.specs.declared.node.WordNode.{WordNode}

-- by width and number what an input, a state and an assignment of a place weigh
pub record Weights : Type 0 where
  pub input : ℕ → ℕ → ℕ
  pub state : ℕ → ℕ → ℕ
  pub place : ℕ → ℕ → ℕ

-- how much a node of a width weighs
abbrev pub weight : Weights → ℕ → Operation → ℕ
weight w width (Const word) = 0
weight w width (Input input) = w.input width input
weight w width (State state) = w.state width state
weight w width (Free place computed) = w.place width place
weight w width (Unary op arg) = 0
weight w width (Binary op left right) = 0
weight w width (Choose test one other) = 0
weight w width (Join high low) = 0
weight w width (Repeat times part) = 0
weight w width (Resize arg) = 0
weight w width (Slice word from) = 0
weight w width (Pick word select) = 0
weight w width (Is index value) = 0
weight w width (Put old from size word offset) = 0
weight w width (PutPick old select word offset) = 0
weight w width (Blend mask one other) = 0

-- how much some nodes weigh
unfoldable pub tally : Weights → List WordNode → ℕ
tally w [] = 0
tally w (node ∷ nodes) = weight w node.width node.operation + tally w nodes

-- how much the assignments of a statement weigh, by the widths of their left sides
abbrev mutual
  pub placed_in : Weights → List Signal → Stmt → ℕ
  placed_in w signals stmt.Nothing = 0
  placed_in w signals (stmt.Block' _ statements) = placed_in_all w signals statements
  placed_in w signals (stmt.If' _ _ (more_of-Stmt on_true end_of-Stmt) _ (more_of-Stmt on_false end_of-Stmt)) =
      placed_in w signals on_true + placed_in w signals on_false
  placed_in w signals (stmt.Case' _ _ items _ (more_of-Stmt other end_of-Stmt) _) = placed_in_items w signals items + placed_in w signals other
  placed_in w signals (stmt.Set place target _ _) = w.place (parts_width signals target.parts) place

  pub placed_in_all : {shape : _} → Weights → List Signal → Row_of-Stmt shape → ℕ
  placed_in_all w signals end_of-Stmt = 0
  placed_in_all w signals (more_of-Stmt statement rest) = placed_in w signals statement + placed_in_all w signals rest

  pub placed_in_items : {shape : _} → Weights → List Signal → Row_of-CaseItem shape → ℕ
  placed_in_items w signals end_of-CaseItem = 0
  placed_in_items w signals (more_of-CaseItem _ body rest) = placed_in w signals body + placed_in_items w signals rest

abbrev pub placed_in_driver : Weights → List Signal → Driver → ℕ
placed_in_driver w signals (driver.Cont target _ place _) = option_map_or (w.place (parts_width signals target.parts)) place 0
placed_in_driver w signals (driver.Comb body _) = placed_in w signals body

abbrev pub placed_in_clocked : Weights → List Signal → Clocked → ℕ
placed_in_clocked w signals block = placed_in w signals block.body + option_map_or (λ r. placed_in w signals r.values) block.reset 0

-- how much the assignments of a design weigh
abbrev pub placed_in_design : Weights → Design → ℕ
placed_in_design w d = sum_by (placed_in_driver w d.signals.items) d.drivers.items + sum_by (placed_in_clocked w d.signals.items) d.clocked.items

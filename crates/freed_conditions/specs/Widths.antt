-- The widths of the conditions of a statement (IEEE 1364-2005, 9.4 and 9.5) in the order of the text: one for each `if` and `case`
-- whose condition or subject is not a constant. They say how many there are, and how wide the net of each is.
use Rattle.std.specs.Prelude.{ℕ, if◌then◌else◌, List, [], ◌∷◌, ◌++◌, None, Some}
use Rattle.design_core.specs.declared.signal.Signal.{Signal}
use Rattle.design_core.specs.declared.expression.Typed.{Typed}
use Rattle.design_core.specs.declared.statement.Stmt.{Stmt, Row_of-Stmt, end_of-Stmt, more_of-Stmt, Row_of-CaseItem, end_of-CaseItem, more_of-CaseItem}
use Rattle.design_core.specs.declared.statement.Stmt.TheVariants.{Nothing, Block', If', Case', Set}
use Rattle.design_core.specs.declared.driver.Driver.{Driver}
use Rattle.design_core.specs.declared.driver.Driver.TheVariants.{Cont, Comb}
use Rattle.design_core.specs.declared.driver.Clocked.{Clocked}
use Rattle.design_core.specs.Constant.{is_constant}
use Rattle.design_core.specs.Store.{parts_width}
use Rattle.freed_conditions.specs.Kept.{kept_of}

-- one width, and none where the condition is a constant
abbrev pub own_width : Typed → ℕ → List ℕ
own_width e width = if is_constant e.node then [] else (width ∷ [])

abbrev mutual
  -- the conditions of a statement: its own first, then those of its arms from the left
  pub widths : Stmt → List ℕ
  widths Nothing = []
  widths (Block' _ statements) = widths_of statements
  widths (If' test _ (more_of-Stmt on_true end_of-Stmt) _ (more_of-Stmt on_false end_of-Stmt)) =
      own_width test 1 ++ (widths on_true ++ widths on_false)
  widths (Case' subject _ items _ (more_of-Stmt other end_of-Stmt) _) =
      own_width subject (kept_of subject).width ++ (widths_in items ++ widths other)
  widths (Set _ _ _ _) = []

  -- of statements in order
  pub widths_of : {shape : _} → Row_of-Stmt shape → List ℕ
  widths_of end_of-Stmt = []
  widths_of (more_of-Stmt statement rest) = widths statement ++ widths_of rest

  -- of the bodies of case items
  pub widths_in : {shape : _} → Row_of-CaseItem shape → List ℕ
  widths_in end_of-CaseItem = []
  widths_in (more_of-CaseItem _ body rest) = widths body ++ widths_in rest

-- of the combinational blocks among the drivers, in their order
abbrev pub widths_of_drivers : List Driver → List ℕ
widths_of_drivers [] = []
widths_of_drivers (Cont _ _ _ _ ∷ rest) = widths_of_drivers rest
widths_of_drivers (Comb body _ ∷ rest) = widths body ++ widths_of_drivers rest

-- of the bodies of the clocked blocks, whose resets keep their values
abbrev pub widths_of_clocked : List Clocked → List ℕ
widths_of_clocked [] = []
widths_of_clocked (block ∷ rest) = widths block.body ++ widths_of_clocked rest

-- the widths of the left sides of the drivers without a place: the connections of input ports (12.3.9)
abbrev pub widths_of_connections : List Signal → List Driver → List ℕ
widths_of_connections signals [] = []
widths_of_connections signals (Cont target _ None _ ∷ rest) = parts_width signals target.parts ∷ widths_of_connections signals rest
widths_of_connections signals (Cont _ _ (Some _) _ ∷ rest) = widths_of_connections signals rest
widths_of_connections signals (Comb _ _ ∷ rest) = widths_of_connections signals rest

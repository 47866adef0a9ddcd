-- The order of a design's drivers.
use Rattle.std.specs.Prelude.{ℕ, ◌≡◌, List}
use Rattle.design_core.specs.declared.design.Design.{Design}
use Rattle.design_core.specs.Reads.{IsOrder}
use Rattle.design_core.specs.Order.{IsLeastOrder, HasCircle}

-- the least order, which is the only one, in which no driver depends on itself or on a later one; no drivers depend on each other
-- in a circle
pub record IsTheOrder (d : Design) (order : List ℕ) : Type 0 where
  pub least : IsLeastOrder d order
  pub carried_out : IsOrder d order
  pub only : (other : List ℕ) → IsLeastOrder d other → other ≡ order
  pub no_circle : ¬ HasCircle d

-- What the laws speak of: nodes, and literals with the bits that they mean.
use Rattle.std.specs.Prelude.{ℕ, Bool, List}
use Rattle.gate_base.specs.declared.literal.Literal.{Literal}
use Rattle.gate_base.specs.declared.node.Node.{Node}
use Rattle.gate_base.specs.Meaning.{Source}

-- two operands and a condition, and the bits that they mean
pub record Operands : Type 0 where
  pub source : Source
  pub nodes : List Node
  pub condition : Literal
  pub left : Literal
  pub right : Literal
  pub c : Bool
  pub a : Bool
  pub b : Bool

-- the literals of a chain, and their bits
pub record Chain : Type 0 where
  pub source : Source
  pub nodes : List Node
  pub literals : List Literal
  pub bits : List Bool

-- a bit of a place, an input or a state
pub record Bit : Type 0 where
  pub source : Source
  pub nodes : List Node
  pub moment : ℕ
  pub number : ℕ
  pub bit : ℕ
  pub computed : Literal
  pub b : Bool

-- nodes before and after something was made
pub record Later : Type 0 where
  pub source : Source
  pub before : List Node
  pub after : List Node
  pub literal : Literal
  pub b : Bool
  pub literals : List Literal
  pub bits : List Bool

-- What the laws speak of: two words, a literal and a condition, and what they mean.
use Rattle.std.specs.Prelude.{ℕ, Bool, List, Option}
use Rattle.gate_base.specs.declared.literal.Literal.{Literal}
use Rattle.gate_base.specs.declared.node.Node.{Node}
use Rattle.gate_base.specs.Meaning.{Source}
use Rattle.bit_words.specs.declared.shift.Direction.{Direction}
use Rattle.bit_words.specs.declared.bitwise.Bitwise.{Bitwise}

pub record Operands : Type 0 where
  pub source : Source
  pub nodes : List Node
  pub left : List Literal
  pub right : List Literal
  pub a : ℕ
  pub b : ℕ
  -- a carry, a condition or a fill
  pub literal : Literal
  pub c : Bool
  pub operator : Bitwise
  pub signed : Bool
  pub direction : Direction

-- a read or a store by an index: the bits of the word, the numbers of the index that name them, and the bit that was
pub record Indexed : Type 0 where
  pub source : Source
  pub nodes : List Node
  pub index : List Literal
  pub v : ℕ
  pub literals : List Literal
  pub bits : List Bool
  pub names : List (Option ℕ)
  pub old : Literal
  pub a : Bool

-- What contracts see of an arena, and what a refusal means.
use Rattle.std.specs.Prelude.{ℕ, List}
use Rattle.gate_base.specs.declared.node.Node.{Node}
use Rattle.gate_base.specs.declared.error.MakeErr.{MakeErr}
use Rattle.gate_base.specs.declared.error.MakeErr.TheVariants.{Limit, NoMemory}

-- the nodes, and how many of them may be AND or free nodes
pub record Arena : Type 0 where
  pub nodes : List Node
  pub limit : ℕ

-- the cause of a refusal that isn't want of memory
abbrev pub UnlessNoMemory : MakeErr → Type 0 → Type 0
UnlessNoMemory Limit cause = cause
UnlessNoMemory NoMemory cause = Unit {0}

-- What no context sizes: its width and its sign by itself, and its node.
use Rattle.std.specs.Prelude.{ℕ, Bool, if◌then◌else◌, Option, is_some}
use Rattle.design_core.specs.declared.expression.Node.{Node}
use Rattle.design_core.specs.declared.expression.Node.TheVariants as node
use Rattle.v_sizes.specs.declared.error.WidthErr.{WidthErr}
use Rattle.v_sizes.specs.Word.{word}
use Rattle.v_selects.specs.declared.leaf.Leaf.{Leaf}

-- a constant's word; nothing is kept of a node that is refused
abbrev pub kept : Bool → Option WidthErr → ℕ → ℕ → Node → Node
kept constant fault width number n = if constant then node.Const (word width number) else if is_some fault then node.Whole 0 else n

abbrev pub leaf : ℕ → Bool → Bool → Option WidthErr → ℕ → Node → Leaf
leaf width signed constant fault number n =
    record { width = width; signed = signed; constant = constant; node = kept constant fault width number n; fault = fault }

-- The part that a node is, one operand in its place.
use Rattle.std.proofs.Common.{◌≡◌, ℕ, List, refl}
use Rattle.std.specs.Prelude.{ℤ}
use denote.Hole.Carrier.{hidden}
use Rattle.design_core.specs.declared.expression.Typed.{Typed}
use Rattle.design_core.specs.declared.expression.Node.TheVariants as node
use Rattle.design_core.specs.declared.expression.Node.TheBlock.{shape-the_row-Typed-0, hidden-the_row-Typed-0}
use Rattle.design_core.specs.declared.statement.Part.TheVariants as part
use Rattle.v_binding.specs.declared.left.Ranged.{Ranged}
use Rattle.v_binding.specs.Lefts.{part_of}

pub part-pick : (r : Ranged) (signal : ℕ) (index : Typed) (offsets : List ℤ) → part_of r (node.Pick signal index offsets) ≡ part.Pick signal index offsets
unfolding shape-the_row-Typed-0 hidden-the_row-Typed-0 hidden
part-pick r signal index offsets = refl

pub part-word : (r : Ranged) (first count : ℕ) (low : ℤ) (index : Typed) (from size : ℕ)
    → part_of r (node.Word first count low index from size) ≡ part.Word first count low index from size
unfolding shape-the_row-Typed-0 hidden-the_row-Typed-0 hidden
part-word r first count low index from size = refl

pub ruleset node_parts = (part-pick, part-word)

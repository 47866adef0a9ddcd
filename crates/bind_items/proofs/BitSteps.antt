-- Bit 0 of each node as code makes it.
use Rattle.std.proofs.Common.{◌≡◌, ℕ, List, [], ◌∷◌, ◌++◌, refl, ap, ◌∙◌}
use Rattle.std.specs.Prelude.{ℤ}
use denote.Hole.Carrier.{hidden}
use Rattle.design_core.specs.declared.expression.Typed.{Typed}
use Rattle.design_core.specs.declared.expression.Node.{Row_of-Typed, end_of-Typed, more_of-Typed, items-the_row-Typed, items_hidden-the_row-Typed-1}
use Rattle.design_core.specs.declared.expression.Node.TheVariants as node
use Rattle.design_core.specs.declared.expression.Node.TheBlock.{shape-the_row-Typed-0, hidden-the_row-Typed-0, hidden-the_row-Typed-1}
use Rattle.v_binding.specs.Gates.{low_node, low_last, first_offset}
use Rattle.bind_items.specs.Parts.{last_low}

pub low-pick : (signal : ℕ) (index : Typed) (offsets : List ℤ) → low_node (node.Pick signal index offsets) ≡ node.Pick signal index (first_offset offsets)
unfolding shape-the_row-Typed-0 hidden-the_row-Typed-0 hidden
low-pick signal index offsets = refl

pub low-word : (first count : ℕ) (low : ℤ) (index : Typed) (from size : ℕ)
    → low_node (node.Word first count low index from size) ≡ node.Word first count low index from 1
unfolding shape-the_row-Typed-0 hidden-the_row-Typed-0 hidden
low-word first count low index from size = refl

low-row : {shape : _} (row : Row_of-Typed shape) → low_last row ≡ last_low (items-the_row-Typed shape row)
low-row end_of-Typed = refl
low-row (more_of-Typed width signed one end_of-Typed) = refl
low-row (more_of-Typed _ _ _ (more_of-Typed width signed one rest)) = low-row (more_of-Typed width signed one rest)

pub low-join : (parts : List Typed) → low_node (node.Join parts) ≡ last_low parts
low-join parts = low-row (hidden-the_row-Typed-1 parts) ∙ ap last_low (items_hidden-the_row-Typed-1 parts)

pub last-pushed : (parts : List Typed) (one : Typed) → last_low (parts ++ one ∷ []) ≡ low_node one.node
last-pushed [] one = refl
last-pushed (x ∷ []) one = refl
last-pushed (x ∷ y ∷ rest) one = last-pushed (y ∷ rest) one

pub ruleset bit_steps = (low-pick, low-word, low-join)

pub ruleset last_steps = (last-pushed)

-- The parts of a node: those of a row, or one.
use Rattle.std.proofs.Common.{◌≡◌, List, ◌∷◌, map, refl, ap, ◌∙◌}
use Rattle.design_core.specs.declared.expression.Typed.{Typed}
use Rattle.design_core.specs.declared.expression.Node.{Row_of-Typed, end_of-Typed, more_of-Typed, items-the_row-Typed, items_hidden-the_row-Typed-1}
use Rattle.design_core.specs.declared.expression.Node.TheBlock.{hidden-the_row-Typed-1}
use Rattle.design_core.specs.declared.expression.Node.TheVariants as node
use Rattle.v_binding.specs.declared.left.Ranged.{Ranged}
use Rattle.v_binding.specs.Lefts.{part_of, row_parts, parts_of}

row-list : {shape : _} (r : Ranged) (row : Row_of-Typed shape) → row_parts r row ≡ map (λ (e : Typed). part_of r e.node) (items-the_row-Typed shape row)
row-list r end_of-Typed = refl
row-list r (more_of-Typed width signed n rest) = ap (λ parts. part_of r n ∷ parts) (row-list r rest)

pub parts-join : (r : Ranged) (es : List Typed) → parts_of r (node.Join es) ≡ map (λ (e : Typed). part_of r e.node) es
parts-join r es = row-list r (hidden-the_row-Typed-1 es) ∙ ap (map (λ (e : Typed). part_of r e.node)) (items_hidden-the_row-Typed-1 es)

pub ruleset row_laws = (parts-join)

-- The parts of a concatenation as a list, as code goes over them; only private contracts cite it.
use Rattle.std.specs.Prelude.{ℕ, ◌+◌, List, [], ◌∷◌}
use Rattle.design_core.specs.declared.signal.Signal.{Signal}
use Rattle.design_core.specs.declared.expression.Typed.{Typed}
use Rattle.word_net.specs.declared.node.Operand.{Operand}
use Rattle.word_net.specs.declared.node.Operation.TheVariants as operation
use Rattle.word_net.specs.declared.node.WordNode.{WordNode}
use Rattle.word_net.specs.Build.{Made, made, pushed}
use Rattle.synth_parts.specs.Expression.{Prepared, unsigned, typed_made}

abbrev pub prepared_in : List WordNode → Operand → Prepared
prepared_in nodes operand = record { nodes = nodes; operand = operand }

-- the number of bits of some expressions
abbrev pub parts_sum : List Typed → ℕ
parts_sum [] = 0
parts_sum (part ∷ parts) = part.width + parts_sum parts

-- a part below what stands to its left
unfoldable pub part_joined : List Signal → List ℕ → List WordNode → ℕ → ℕ → Typed → Made
part_joined signals nodes_of nodes left left_width part =
    let p = typed_made signals nodes_of nodes part in
    pushed p.nodes (left_width + part.width) (operation.Join (unsigned left left_width) (unsigned p.node part.width))

-- the further parts
unfoldable pub later_parts : List Signal → List ℕ → List WordNode → ℕ → ℕ → List Typed → Made
later_parts signals nodes_of nodes left left_width [] = made nodes left
later_parts signals nodes_of nodes left left_width (part ∷ parts) =
    let j = part_joined signals nodes_of nodes left left_width part in later_parts signals nodes_of j.nodes j.node (left_width + part.width) parts

-- all parts
unfoldable pub all_parts : List Signal → List ℕ → List WordNode → List Typed → Made
all_parts signals nodes_of nodes [] = made nodes 0
all_parts signals nodes_of nodes (part ∷ parts) =
    let p = typed_made signals nodes_of nodes part in later_parts signals nodes_of p.nodes p.node part.width parts

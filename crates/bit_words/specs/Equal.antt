-- Whether two words are equal (IEEE 1364-2005, 5.1.8): an AND chain of the XNORs of their bits.
use Rattle.std.specs.Prelude.{Bool, true, not, ◌&&◌, List, [], ◌∷◌}
use Rattle.gate_base.specs.declared.literal.Literal.{Literal}
use Rattle.gate_base.specs.declared.node.Node.{Node}
use Rattle.gate_base.specs.Literals.{opposite}
use Rattle.gate_base.specs.Nodes.{Made, made, and_made, xor_made}
use Rattle.gate_base.specs.Meaning.{differ}

-- the chain, from what was so far
unfoldable pub equal_made : List Node → Literal → List Literal → List Literal → Made
equal_made nodes so_far [] ys = made nodes so_far
equal_made nodes so_far (x ∷ xs) [] = made nodes so_far
equal_made nodes so_far (x ∷ xs) (y ∷ ys) =
    let d = xor_made nodes x y in
    let m = and_made d.nodes so_far (opposite d.bit) in
    equal_made m.nodes m.bit xs ys

-- whether the bits that both have are the same
abbrev pub same_bits : List Bool → List Bool → Bool
same_bits [] bs = true
same_bits (a ∷ ks) [] = true
same_bits (a ∷ ks) (b ∷ bs) = not (differ a b) && same_bits ks bs

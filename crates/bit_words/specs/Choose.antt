-- A choice of two words by a literal (IEEE 1364-2005, 5.1.13): a MUX for each bit.
use Rattle.std.specs.Prelude.{Bool, if◌then◌else◌, List, [], ◌∷◌, ◌++◌}
use Rattle.gate_base.specs.declared.literal.Literal.{Literal}
use Rattle.gate_base.specs.declared.node.Node.{Node}
use Rattle.gate_base.specs.Nodes.{Word, word, mux_made}

-- the bits, behind those that are there
unfoldable pub choice_made : List Node → List Literal → Literal → List Literal → List Literal → Word
choice_made nodes bits condition [] ys = word nodes bits
choice_made nodes bits condition (x ∷ xs) [] = word nodes bits
choice_made nodes bits condition (x ∷ xs) (y ∷ ys) =
    let m = mux_made nodes condition x y in choice_made m.nodes (bits ++ m.bit ∷ []) condition xs ys

-- the chosen bits, as many as both have
abbrev pub chosen_bits : Bool → List Bool → List Bool → List Bool
chosen_bits c [] bs = []
chosen_bits c (a ∷ ks) [] = []
chosen_bits c (a ∷ ks) (b ∷ bs) = (if c then a else b) ∷ chosen_bits c ks bs

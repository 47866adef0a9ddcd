-- The bits of inputs, of states and of places, from bit 0 up.
use Rattle.std.specs.Prelude.{ℕ, zero, suc, ◌+◌, List, [], ◌∷◌, ◌++◌}
use Rattle.gate_base.specs.declared.literal.Literal.{Literal}
use Rattle.gate_base.specs.declared.node.Node.{Node}
use Rattle.gate_base.specs.Nodes.{Word, word, input_made, state_made, free_made}

-- bits of an input from one on, behind the bits that are there
unfoldable pub inputs_made : List Node → List Literal → ℕ → ℕ → ℕ → Word
inputs_made nodes bits input bit zero = word nodes bits
inputs_made nodes bits input bit (suc count) =
    let m = input_made nodes input bit in inputs_made m.nodes (bits ++ m.bit ∷ []) input (bit + 1) count

-- bits of a state
unfoldable pub states_made : List Node → List Literal → ℕ → ℕ → ℕ → Word
states_made nodes bits state bit zero = word nodes bits
states_made nodes bits state bit (suc count) =
    let m = state_made nodes state bit in states_made m.nodes (bits ++ m.bit ∷ []) state (bit + 1) count

-- bits of a place, each over its computed literal; a circuit is of one moment, 0
unfoldable pub frees_made : List Node → List Literal → ℕ → ℕ → List Literal → Word
frees_made nodes bits place bit [] = word nodes bits
frees_made nodes bits place bit (x ∷ xs) =
    let m = free_made nodes 0 place bit x in frees_made m.nodes (bits ++ m.bit ∷ []) place (bit + 1) xs

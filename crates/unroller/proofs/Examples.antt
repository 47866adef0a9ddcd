-- Worked examples: cycles of small circuits, node for node.
use Rattle.std.proofs.Common.{◌≡◌, List, [], ◌∷◌, refl}
use Rattle.std.specs.Prelude.{true, false, ◌==◌}
use Rattle.gate_base.specs.declared.literal.Literal.TheVariants.{Known, Of}
use Rattle.gate_base.specs.declared.node.Node.{Node}
use Rattle.gate_base.specs.declared.node.Node.TheVariants.{Input, State, And, Free}
use Rattle.gate_base.specs.Literals.{opposite, folded}
use Rattle.gate_base.specs.Nodes.{word, pushed, made_unless, and_made, free_made}
use Rattle.unroller.specs.Cycles.{Frame, node_unrolled, nodes_unrolled, frees_at}

-- n = a | b and y = ~n, each with a free bit
abbrev or_not : List Node
or_not = Input 0 0 ∷ Input 1 0 ∷ And (Of 0 true) (Of 1 true) ∷ Free 0 0 0 (Of 2 true) ∷ Free 0 1 0 (Of 3 true) ∷ []

-- a cycle with inputs of 0, both places in groups, behind one definition
abbrev both : Frame
both = record { moment = 3; samples = []; states = []; grouped = λ place. true }

-- the AND of constants is a constant, so each free bit alone is new
two_definitions : nodes_unrolled both (And (Of 7 false) (Of 8 false) ∷ []) [] or_not
    ≡ word (And (Of 7 false) (Of 8 false) ∷ Free 3 0 0 (Known false) ∷ Free 3 1 0 (Of 1 true) ∷ [])
    (Known false ∷ Known false ∷ Known true ∷ Of 1 false ∷ Of 2 false ∷ [])
unfolding nodes_unrolled node_unrolled and_made made_unless folded opposite free_made pushed
two_definitions = refl

-- the second place alone is in a group: the first is what is computed
abbrev second : Frame
second = record { moment = 0; samples = []; states = []; grouped = λ place. place == 1 }

one_definition : nodes_unrolled second [] [] or_not
    ≡ word (Free 0 1 0 (Known true) ∷ []) (Known false ∷ Known false ∷ Known true ∷ Known false ∷ Of 0 false ∷ [])
unfolding nodes_unrolled node_unrolled and_made made_unless folded opposite free_made pushed
one_definition = refl

-- a register is its literal of the cycle before
abbrev later : Frame
later = record { moment = 1; samples = []; states = (Of 0 true ∷ []) ∷ []; grouped = λ place. false }

a_state_is_the_literal_before : nodes_unrolled later [] [] (State 0 0 ∷ And (Of 0 true) (Of 0 true) ∷ [])
    ≡ word [] (Of 0 true ∷ Of 0 false ∷ [])
unfolding nodes_unrolled node_unrolled and_made made_unless folded opposite
a_state_is_the_literal_before = refl

frees_in_order : frees_at or_not (Known false ∷ Known false ∷ Known true ∷ Of 1 false ∷ Of 2 false ∷ [])
    ≡ Of 1 false ∷ Of 2 false ∷ []
frees_in_order = refl

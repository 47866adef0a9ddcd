-- One cycle of a circuit in an unrolled form (bounded model checking: Biere, Cimatti, Clarke, Zhu 1999): which literal of the
-- form each node of the circuit is there, and which nodes are new.
use Rattle.std.specs.Prelude.{ℕ, Bool, false, if◌then◌else◌, List, [], ◌∷◌, ◌++◌, map, get_or, slice_get, Option, Some, None, is_some}
use Rattle.std.specs.Option.{option_map_or}
use Rattle.loc_base.specs.declared.bits.Bits.{Bits}
use Rattle.loc_base.specs.Bits.{bit_of}
use Rattle.gate_base.specs.declared.literal.Literal.{Literal}
use Rattle.gate_base.specs.declared.literal.Literal.TheVariants.{Known, Of}
use Rattle.gate_base.specs.declared.node.Node.{Node}
use Rattle.gate_base.specs.declared.node.Node.TheVariants.{Input, State, And, Free}
use Rattle.gate_base.specs.Literals.{opposite}
use Rattle.unroller.specs.declared.free_bit.FreeBit.{FreeBit}
use Rattle.gate_base.specs.Nodes.{Made, Word, made, word, and_made, free_made}

-- a literal of the circuit, where its nodes are these literals of the form
abbrev pub translated : List Literal → Literal → Literal
translated now (Known value) = Known value
translated now (Of node negated) = if negated then opposite (get_or now node (Known false)) else get_or now node (Known false)

-- words of them
abbrev pub words_translated : List Literal → List (List Literal) → List (List Literal)
words_translated now words = map (map (translated now)) words

-- what a cycle is given: its number among all cycles, the words of the inputs, the literals of the states, and which places
-- are in a group
pub record Frame : Type 0 where
  pub moment : ℕ
  pub samples : List Bits
  pub states : List (List Literal)
  pub grouped : ℕ → Bool

-- a bit of a list of words, false where there is none
abbrev pub sampled : List Bits → ℕ → ℕ → Bool
sampled words i b = option_map_or (λ w. bit_of w b) (slice_get words i) false

-- the literal of a bit of a state
abbrev pub held : List (List Literal) → ℕ → ℕ → Literal
held states s b = get_or (get_or states s []) b (Known false)

-- a node of the circuit in a cycle: a bit of an input is its constant, a bit of a state its literal, an AND the AND of its
-- operands there, and a bit of a place a new node where its place is in a group, else what is computed
unfoldable pub node_unrolled : Frame → List Node → List Literal → Node → Made
node_unrolled frame nodes now (Input input bit) = made nodes (Known (sampled frame.samples input bit))
node_unrolled frame nodes now (State state bit) = made nodes (held frame.states state bit)
node_unrolled frame nodes now (And left right) = and_made nodes (translated now left) (translated now right)
node_unrolled frame nodes now (Free moment place bit computed) =
    if frame.grouped place then free_made nodes frame.moment place bit (translated now computed) else made nodes (translated now computed)

-- the nodes of the circuit one after another, behind those whose literals are there
unfoldable pub nodes_unrolled : Frame → List Node → List Literal → List Node → Word
nodes_unrolled frame nodes now [] = word nodes now
nodes_unrolled frame nodes now (node ∷ rest) =
    let m = node_unrolled frame nodes now node in nodes_unrolled frame m.nodes (now ++ m.bit ∷ []) rest

-- the bit of a place that a node is
abbrev pub free_bit : Node → Option FreeBit
free_bit (Input input bit) = None
free_bit (State state bit) = None
free_bit (And left right) = None
free_bit (Free moment place bit computed) = Some (record { place = place; bit = bit })

-- one more, where there is one
abbrev pub and_then : Option FreeBit → List FreeBit → List FreeBit
and_then None bits = bits
and_then (Some bit) bits = bit ∷ bits

-- the bits of places among some nodes
abbrev pub free_bits : List Node → List FreeBit
free_bits [] = []
free_bits (node ∷ nodes) = and_then (free_bit node) (free_bits nodes)

-- a node is a bit of a place
abbrev pub is_free : Node → Bool
is_free node = is_some (free_bit node)

-- the literals of the bits of places, in the order of the circuit's nodes
abbrev pub frees_at : List Node → List Literal → List Literal
frees_at [] now = []
frees_at (node ∷ nodes) [] = []
frees_at (node ∷ nodes) (l ∷ now) = if is_free node then l ∷ frees_at nodes now else frees_at nodes now

-- How nodes are made: each definition gives the nodes that stand afterwards, and the literals that were made.
use Rattle.std.specs.Prelude.{◌≡◌, ℕ, suc, Bool, true, false, if◌then◌else◌, List, [], ◌∷◌, ◌++◌, length, Option, Some, None}
use Rattle.gate_base.specs.declared.literal.Literal.{Literal}
use Rattle.gate_base.specs.declared.literal.Literal.TheVariants.{Of}
use Rattle.gate_base.specs.declared.node.Node.{Node}
use Rattle.gate_base.specs.declared.node.Node.TheVariants.{Input, State, And, Free}
use Rattle.gate_base.specs.Literals.{opposite, is_same, folded, IsBelow, AreOfTwo}

-- the nodes, and a literal
pub record Made : Type 0 where
  pub nodes : List Node
  pub bit : Literal

abbrev pub made : List Node → Literal → Made
made nodes bit = record { nodes = nodes; bit = bit }

-- the nodes, and the literals of a word, from bit 0
pub record Word : Type 0 where
  pub nodes : List Node
  pub bits : List Literal

abbrev pub word : List Node → List Literal → Word
word nodes bits = record { nodes = nodes; bits = bits }

-- a new node
unfoldable pub pushed : List Node → Node → Made
pushed nodes node = made (nodes ++ node ∷ []) (Of (length nodes) false)

-- a literal that is there, else a new node
unfoldable pub made_unless : List Node → Node → Option Literal → Made
made_unless nodes node (Some literal) = made nodes literal
made_unless nodes node None = pushed nodes node

unfoldable pub and_made : List Node → Literal → Literal → Made
and_made nodes x y = made_unless nodes (And x y) (folded x y)

-- OR is not AND of the opposites
unfoldable pub or_made : List Node → Literal → Literal → Made
or_made nodes x y = let m = and_made nodes (opposite x) (opposite y) in made m.nodes (opposite m.bit)

-- a bit of an input, of a state, and of a place
unfoldable pub input_made : List Node → ℕ → ℕ → Made
input_made nodes input bit = pushed nodes (Input input bit)

unfoldable pub state_made : List Node → ℕ → ℕ → Made
state_made nodes state bit = pushed nodes (State state bit)

unfoldable pub free_made : List Node → ℕ → ℕ → ℕ → Literal → Made
free_made nodes moment place bit computed = pushed nodes (Free moment place bit computed)

-- one of the two and not the other
unfoldable pub xor_made : List Node → Literal → Literal → Made
xor_made nodes x y =
    let p = and_made nodes x (opposite y) in
    let q = and_made p.nodes (opposite x) y in
    or_made q.nodes p.bit q.bit

-- a where the condition holds, else b
unfoldable pub mux_made : List Node → Literal → Literal → Literal → Made
mux_made nodes condition a b =
    if is_same a b then made nodes a
    else
    (let p = and_made nodes condition a in
    let q = and_made p.nodes (opposite condition) b in
    or_made q.nodes p.bit q.bit)

-- chains, from the first literal on
unfoldable pub and_all_made : List Node → Literal → List Literal → Made
and_all_made nodes so_far [] = made nodes so_far
and_all_made nodes so_far (x ∷ xs) = let m = and_made nodes so_far x in and_all_made m.nodes m.bit xs

unfoldable pub or_all_made : List Node → Literal → List Literal → Made
or_all_made nodes so_far [] = made nodes so_far
or_all_made nodes so_far (x ∷ xs) = let m = or_made nodes so_far x in or_all_made m.nodes m.bit xs

unfoldable pub xor_all_made : List Node → Literal → List Literal → Made
xor_all_made nodes so_far [] = made nodes so_far
xor_all_made nodes so_far (x ∷ xs) = let m = xor_made nodes so_far x in xor_all_made m.nodes m.bit xs

-- the nodes that the limit counts
abbrev pub is_counted : Node → Bool
is_counted (Input input bit) = false
is_counted (State state bit) = false
is_counted (And left right) = true
is_counted (Free moment place bit computed) = true

-- how many of the nodes are AND or free nodes
unfoldable pub counted : List Node → ℕ
counted [] = 0
counted (node ∷ nodes) = if is_counted node then suc (counted nodes) else counted nodes

-- how many are bits of inputs or states
unfoldable pub sources_in : List Node → ℕ
sources_in [] = 0
sources_in (node ∷ nodes) = if is_counted node then sources_in nodes else suc (sources_in nodes)

-- how many are bits of places
unfoldable pub frees_in : List Node → ℕ
frees_in [] = 0
frees_in (Input input bit ∷ nodes) = frees_in nodes
frees_in (State state bit ∷ nodes) = frees_in nodes
frees_in (And left right ∷ nodes) = frees_in nodes
frees_in (Free moment place bit computed ∷ nodes) = suc (frees_in nodes)

-- the nodes grow by AND nodes alone
pub record AddsAnds (before after : List Node) : Type 0 where
  pub more : List Node
  pub is : after ≡ before ++ more
  pub no_sources : sources_in more ≡ 0
  pub no_frees : frees_in more ≡ 0

-- whether the operands of a node are of nodes with smaller numbers, and those of an AND of two different ones
abbrev pub NodeFits : ℕ → Node → Type 0
NodeFits i (Input input bit) = Unit {0}
NodeFits i (State state bit) = Unit {0}
NodeFits i (And left right) = IsBelow i left × IsBelow i right × AreOfTwo left right
NodeFits i (Free moment place bit computed) = IsBelow i computed

-- the nodes, of which the first has the number i, have their operands before them
abbrev pub AreOrderedFrom : ℕ → List Node → Type 0
AreOrderedFrom i [] = Unit {0}
AreOrderedFrom i (node ∷ nodes) = NodeFits i node × AreOrderedFrom (suc i) nodes

abbrev pub AreOrdered : List Node → Type 0
AreOrdered nodes = AreOrderedFrom 0 nodes

-- What nodes and literals mean: their truth values where inputs, states and free choices are given.
use Rattle.std.specs.Prelude.{◌≡◌, ℕ, Bool, true, false, not, cond, ◌&&◌, ◌||◌, if◌then◌else◌, List, [], ◌∷◌, ◌++◌, length, get_or}
use Rattle.gate_base.specs.declared.literal.Literal.{Literal}
use Rattle.gate_base.specs.declared.literal.Literal.TheVariants.{Known, Of}
use Rattle.gate_base.specs.declared.node.Node.{Node}
use Rattle.gate_base.specs.declared.node.Node.TheVariants.{Input, State, And, Free}
use Rattle.gate_base.specs.Literals.{IsBelow}
use Rattle.gate_base.specs.Nodes.{Made, Word, AreOrdered}

-- where values come from: the bits of inputs and of states, which places are free, and the bits that are chosen for them
-- in each moment
pub record Source : Type 0 where
  pub inputs : ℕ → ℕ → Bool
  pub states : ℕ → ℕ → Bool
  pub frees : ℕ → Bool
  pub chosen : ℕ → ℕ → ℕ → Bool

-- the value of a literal, where the nodes have these values
unfoldable pub literal_value : List Bool → Literal → Bool
literal_value known (Known value) = value
literal_value known (Of node negated) = cond negated (not (get_or known node false)) (get_or known node false)

-- the value of a node, where the nodes before it have these values
unfoldable pub node_value : Source → List Bool → Node → Bool
node_value e known (Input input bit) = e.inputs input bit
node_value e known (State state bit) = e.states state bit
node_value e known (And left right) = literal_value known left && literal_value known right
node_value e known (Free moment place bit computed) =
    if e.frees place then e.chosen moment place bit else literal_value known computed

-- the values of the nodes, behind those of the nodes before them
unfoldable pub values : Source → List Bool → List Node → List Bool
values e known [] = known
values e known (node ∷ nodes) = values e (known ++ node_value e known node ∷ []) nodes

-- the value of a literal of the circuit
unfoldable pub bit_value : Source → List Node → Literal → Bool
bit_value e nodes l = literal_value (values e [] nodes) l

-- the literal is of a node that is there, and has that value
pub record Means (e : Source) (nodes : List Node) (l : Literal) (b : Bool) : Type 0 where
  pub within : IsBelow (length nodes) l
  pub value : bit_value e nodes l ≡ b

-- the nodes stay, more follow, and operands are still before the nodes that use them
pub record Grown (before after : List Node) : Type 0 where
  pub more : List Node
  pub is : after ≡ before ++ more
  pub ordered : AreOrdered before → AreOrdered after

-- the nodes grow, and the new literal means the value
pub record Gives (e : Source) (nodes : List Node) (m : Made) (b : Bool) : Type 0 where
  pub grown : Grown nodes m.nodes
  pub means : Means e m.nodes m.bit b

-- each literal of a word means its bit
pub data MeansAll (e : Source) (nodes : List Node) : List Literal → List Bool → Type 0 where
  none : MeansAll e nodes [] []
  more : {x : Literal} {b : Bool} {xs : List Literal} {bs : List Bool}
      → Means e nodes x b → MeansAll e nodes xs bs → MeansAll e nodes (x ∷ xs) (b ∷ bs)

-- the nodes grow, and the literals of the new word mean these bits
pub record GivesAll (e : Source) (nodes : List Node) (w : Word) (bs : List Bool) : Type 0 where
  pub grown : Grown nodes w.nodes
  pub means : MeansAll e w.nodes w.bits bs

-- whether all, some, an odd number of the bits are true
abbrev pub all_of : List Bool → Bool
all_of [] = true
all_of (b ∷ bs) = b && all_of bs

abbrev pub some_of : List Bool → Bool
some_of [] = false
some_of (b ∷ bs) = b || some_of bs

-- one of the two and not the other
abbrev pub differ : Bool → Bool → Bool
differ a b = cond a (not b) b

abbrev pub odd_of : List Bool → Bool
odd_of [] = false
odd_of (b ∷ bs) = differ b (odd_of bs)

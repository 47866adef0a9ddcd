-- Words as lists of bits from bit 0 up, and the whole numbers that they mean.
use Rattle.std.specs.Prelude.{◌≡◌, ℕ, ◌+◌, ◌*◌, Bool, true, false, if◌then◌else◌, ℤ, pos, List, [], ◌∷◌}
use Rattle.loc_base.specs.Word.{signed_value}
use Rattle.gate_base.specs.declared.literal.Literal.{Literal}
use Rattle.gate_base.specs.declared.node.Node.{Node}
use Rattle.gate_base.specs.Literals.{opposite}
use Rattle.gate_base.specs.Nodes.{Word}
use Rattle.gate_base.specs.Meaning.{Source, MeansAll, Grown}

abbrev pub one_if : Bool → ℕ
one_if holds = if holds then 1 else 0

-- the whole number that bits mean
abbrev pub number_of : List Bool → ℕ
number_of [] = 0
number_of (b ∷ bs) = one_if b + 2 * number_of bs

-- the whole number that a word means, by its sign (IEEE 1364-2005, 5.1.3)
abbrev pub integer_of : Bool → ℕ → ℕ → ℤ
integer_of signed width value = if signed then signed_value width value else pos value

-- a literal as it stands, or its opposite
abbrev pub turned : Bool → Literal → Literal
turned true l = opposite l
turned false l = l

-- both lists have one element at least
abbrev pub have_more : List Literal → List Literal → Bool
have_more [] ys = false
have_more (x ∷ xs) [] = false
have_more (x ∷ xs) (y ∷ ys) = true

-- the literals mean the bits of a number
pub record IsWord (e : Source) (nodes : List Node) (literals : List Literal) (value : ℕ) : Type 0 where
  pub bits : List Bool
  pub means : MeansAll e nodes literals bits
  pub number : number_of bits ≡ value

-- the nodes grow, and the literals of the new word mean the bits of a number
pub record GivesWord (e : Source) (nodes : List Node) (w : Word) (value : ℕ) : Type 0 where
  pub grown : Grown nodes w.nodes
  pub is : IsWord e w.nodes w.bits value

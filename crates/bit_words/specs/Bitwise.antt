-- The operators that go bit by bit (IEEE 1364-2005, 5.1.10).
use Rattle.std.specs.Prelude.{ℕ, ◌-◌, ◌^◌, bit_and, bit_or, bit_xor, Bool, not, ◌&&◌, ◌||◌, List, [], ◌∷◌, ◌++◌}
use Rattle.gate_base.specs.declared.literal.Literal.{Literal}
use Rattle.gate_base.specs.declared.node.Node.{Node}
use Rattle.gate_base.specs.Literals.{opposite}
use Rattle.gate_base.specs.Nodes.{Made, Word, made, word, and_made, or_made, xor_made}
use Rattle.gate_base.specs.Meaning.{differ}
use Rattle.bit_words.specs.declared.bitwise.Bitwise.{Bitwise}
use Rattle.bit_words.specs.declared.bitwise.Bitwise.TheVariants as bitwise

-- one bit; an XNOR is the opposite of the XOR
unfoldable pub bit_made : Bitwise → List Node → Literal → Literal → Made
bit_made bitwise.And nodes a b = and_made nodes a b
bit_made bitwise.Or nodes a b = or_made nodes a b
bit_made bitwise.Xor nodes a b = xor_made nodes a b
bit_made bitwise.Xnor nodes a b = let m = xor_made nodes a b in made m.nodes (opposite m.bit)

-- the bits, behind those that are there
unfoldable pub bitwise_made : Bitwise → List Node → List Literal → List Literal → List Literal → Word
bitwise_made operator nodes bits [] ys = word nodes bits
bitwise_made operator nodes bits (x ∷ xs) [] = word nodes bits
bitwise_made operator nodes bits (x ∷ xs) (y ∷ ys) =
    let m = bit_made operator nodes x y in bitwise_made operator m.nodes (bits ++ m.bit ∷ []) xs ys

-- what an operator does to two bits
abbrev pub bit_of : Bitwise → Bool → Bool → Bool
bit_of bitwise.And a b = a && b
bit_of bitwise.Or a b = a || b
bit_of bitwise.Xor a b = differ a b
bit_of bitwise.Xnor a b = not (differ a b)

abbrev pub bits_of : Bitwise → List Bool → List Bool → List Bool
bits_of operator [] bs = []
bits_of operator (a ∷ rest) [] = []
bits_of operator (a ∷ rest) (b ∷ bs) = bit_of operator a b ∷ bits_of operator rest bs

-- what it does to whole numbers of a width
abbrev pub bitwise_number : Bitwise → ℕ → ℕ → ℕ → ℕ
bitwise_number bitwise.And width a b = bit_and a b
bitwise_number bitwise.Or width a b = bit_or a b
bitwise_number bitwise.Xor width a b = bit_xor a b
bitwise_number bitwise.Xnor width a b = (2 ^ width - 1) - bit_xor a b

-- Sums and differences (IEEE 1364-2005, 5.1.5), by columns from bit 0 up.
use Rattle.std.specs.Prelude.{ℕ, Bool, true, false, ◌&&◌, ◌||◌, List, [], ◌∷◌, ◌++◌, map, length, replicate}
use Rattle.gate_base.specs.declared.literal.Literal.{Literal}
use Rattle.gate_base.specs.declared.literal.Literal.TheVariants.{Known}
use Rattle.gate_base.specs.declared.node.Node.{Node}
use Rattle.gate_base.specs.Literals.{opposite}
use Rattle.gate_base.specs.Nodes.{Made, Word, made, word, and_made, or_made, xor_made}
use Rattle.gate_base.specs.Meaning.{differ}
use Rattle.bit_words.specs.Bits.{have_more}

-- the carry of a column: both bits, or the carry so far and one of them
unfoldable pub carry_made : List Node → Literal → Literal → Literal → Literal → Made
carry_made nodes a b carry one =
    let p = and_made nodes a b in
    let q = and_made p.nodes carry one in
    or_made q.nodes p.bit q.bit

-- the carry is made where another column follows
unfoldable pub carry_if : Bool → List Node → Literal → Literal → Literal → Literal → Made
carry_if true nodes a b carry one = carry_made nodes a b carry one
carry_if false nodes a b carry one = made nodes carry

-- the nodes, the bits of the sum so far, and the carry
pub record Column : Type 0 where
  pub nodes : List Node
  pub bits : List Literal
  pub carry : Literal

abbrev pub column : List Node → List Literal → Literal → Column
column nodes bits carry = record { nodes = nodes; bits = bits; carry = carry }

-- a column: whether one of the two bits is true, that with the carry, then the next carry
unfoldable pub column_made : List Node → List Literal → Bool → Literal → Literal → Literal → Column
column_made nodes bits follows a b carry =
    let one = xor_made nodes a b in
    let sum = xor_made one.nodes one.bit carry in
    let next = carry_if follows sum.nodes a b carry one.bit in
    column next.nodes (bits ++ sum.bit ∷ []) next.bit

-- the sum of two words and a carry, behind the bits that are there
unfoldable pub sum_made : List Node → List Literal → List Literal → List Literal → Literal → Word
sum_made nodes bits [] ys carry = word nodes bits
sum_made nodes bits (x ∷ xs) [] carry = word nodes bits
sum_made nodes bits (x ∷ xs) (y ∷ ys) carry =
    let m = column_made nodes bits (have_more xs ys) x y carry in sum_made m.nodes m.bits xs ys m.carry

-- a difference is the sum with the opposites and 1
abbrev pub difference_made : List Node → List Literal → List Literal → List Literal → Word
difference_made nodes bits xs ys = sum_made nodes bits xs (map opposite ys) (Known true)

-- false bits
abbrev pub zeros : ℕ → List Literal
zeros width = replicate width (Known false)

-- minus a word is the difference from 0
abbrev pub minus_made : List Node → List Literal → List Literal → Word
minus_made nodes bits xs = difference_made nodes bits (zeros (length xs)) xs

-- the carry of two bits and a carry
abbrev pub carry_of : Bool → Bool → Bool → Bool
carry_of a b carry = (a && b) || (carry && differ a b)

-- the bits of a sum, as many as both words have
abbrev pub sum_bits : List Bool → List Bool → Bool → List Bool
sum_bits [] bs carry = []
sum_bits (a ∷ ks) [] carry = []
sum_bits (a ∷ ks) (b ∷ bs) carry = differ (differ a b) carry ∷ sum_bits ks bs (carry_of a b carry)

-- the last carry
abbrev pub last_carry : List Bool → List Bool → Bool → Bool
last_carry [] bs carry = carry
last_carry (a ∷ ks) [] carry = carry
last_carry (a ∷ ks) (b ∷ bs) carry = last_carry ks bs (carry_of a b carry)

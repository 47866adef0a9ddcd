-- Whether a word is less than another (IEEE 1364-2005, 5.1.7): the carries alone of the difference.
use Rattle.std.specs.Prelude.{Bool, true, List, [], ◌∷◌, map}
use Rattle.gate_base.specs.declared.literal.Literal.{Literal}
use Rattle.gate_base.specs.declared.literal.Literal.TheVariants.{Known}
use Rattle.gate_base.specs.declared.node.Node.{Node}
use Rattle.gate_base.specs.Literals.{opposite}
use Rattle.gate_base.specs.Nodes.{Made, made, xor_made}
use Rattle.gate_base.specs.Meaning.{differ}
use Rattle.bit_words.specs.Bits.{turned}
use Rattle.bit_words.specs.Add.{carry_made}

-- all carries of a sum
unfoldable pub carries_made : List Node → Literal → List Literal → List Literal → Made
carries_made nodes carry [] ys = made nodes carry
carries_made nodes carry (x ∷ xs) [] = made nodes carry
carries_made nodes carry (x ∷ xs) (y ∷ ys) =
    let one = xor_made nodes x y in
    let next = carry_made one.nodes x y carry one.bit in
    carries_made next.nodes next.bit xs ys

-- the word with its top bit turned where it is signed
abbrev pub with_top : Bool → List Literal → List Literal
with_top signed [] = []
with_top signed (x ∷ []) = turned signed x ∷ []
with_top signed (x ∷ y ∷ ys) = x ∷ with_top signed (y ∷ ys)

-- less is no last carry; both top bits are turned first where the words are signed
unfoldable pub less_made : Bool → List Node → List Literal → List Literal → Made
less_made signed nodes xs ys =
    let m = carries_made nodes (Known true) (with_top signed xs) (map opposite (with_top signed ys)) in
    made m.nodes (opposite m.bit)

-- the bits with the top one turned where the word is signed
abbrev pub topped : Bool → List Bool → List Bool
topped signed [] = []
topped signed (b ∷ []) = differ signed b ∷ []
topped signed (b ∷ c ∷ cs) = b ∷ topped signed (c ∷ cs)

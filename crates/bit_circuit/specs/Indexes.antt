-- Bits by a variable index (IEEE 1364-2005, 5.2.1): which number of the index names a bit, and the reads and stores of
-- words bit by bit.
use Rattle.std.specs.Prelude.{ℕ, zero, suc, ◌+◌, ◌-◌, ◌^◌, Bool, true, false, if◌then◌else◌, nat_lt, int_lt, ℤ, pos, negsuc, ◌+ℤ◌, ◌-ℤ◌, List, [], ◌∷◌, ◌++◌, map, length, Option, Some, None}
use Rattle.gate_base.specs.declared.literal.Literal.{Literal}
use Rattle.gate_base.specs.declared.literal.Literal.TheVariants.{Known}
use Rattle.gate_base.specs.declared.node.Node.{Node}
use Rattle.gate_base.specs.Nodes.{Word, word}
use Rattle.bit_words.specs.Index.{pick_made, put_made}
use Rattle.word_net.specs.declared.node.Select.{Select}

-- the number that a word of a width has where it means a whole number by its sign, if it can mean that
abbrev pub name_of : Bool → ℕ → ℤ → Option ℕ
name_of false width (pos m) = if nat_lt m (2 ^ width) then Some m else None
name_of false width (negsuc m) = None
name_of true width (pos m) = if nat_lt m (2 ^ (width - 1)) then Some m else None
name_of true width (negsuc m) = if nat_lt m (2 ^ (width - 1)) then Some (2 ^ width - (m + 1)) else None

-- the declared index of a position
abbrev pub index_at : ℤ → ℤ → ℕ → ℤ
index_at left right p = if int_lt left right then right -ℤ pos p else right +ℤ pos p

-- the number of the index by which the bit with an offset lies at a position
abbrev pub name_at : Select → ℕ → ℤ → Option ℕ
name_at select p offset = name_of select.index.signed select.index.width (index_at select.left select.right p -ℤ offset)

-- those of a number of positions, from one on
unfoldable pub names_from : Select → ℤ → ℕ → ℕ → List (Option ℕ)
names_from select offset p zero = []
names_from select offset p (suc count) = name_at select p offset ∷ names_from select offset (p + 1) count

-- a bit of a word for each offset, behind the bits that are there
unfoldable pub picks_made : List Node → List Literal → List Literal → List Literal → Select → List ℤ → Word
picks_made nodes bits index xs select [] = word nodes bits
picks_made nodes bits index xs select (offset ∷ offsets) =
    let m = pick_made nodes (Known false) index xs (names_from select offset 0 (length xs)) in
    picks_made m.nodes (bits ++ m.bit ∷ []) index xs select offsets

-- a word into whose bits, from a position on, the bits of a value are stored, one for each offset, behind the bits that
-- are there
unfoldable pub puts_made : List Node → List Literal → List Literal → List Literal → Select → ℕ → List Literal → Word
puts_made nodes bits index value select p [] = word nodes bits
puts_made nodes bits index value select p (x ∷ xs) =
    let m = put_made nodes x index value (map (name_at select p) select.offsets) in
    puts_made m.nodes (bits ++ m.bit ∷ []) index value select (p + 1) xs

-- Products (IEEE 1364-2005, 5.1.5): a row for each bit of the right word, added to what was so far.
use Rattle.std.specs.Prelude.{ℕ, ◌+◌, ◌-◌, false, List, [], ◌∷◌, ◌++◌, length, take}
use Rattle.gate_base.specs.declared.literal.Literal.{Literal}
use Rattle.gate_base.specs.declared.literal.Literal.TheVariants.{Known}
use Rattle.gate_base.specs.declared.node.Node.{Node}
use Rattle.gate_base.specs.Nodes.{Word, word, and_made}
use Rattle.bit_words.specs.Add.{sum_made, zeros}

-- the AND of each bit with one literal, behind the bits that are there
unfoldable pub row_made : List Node → List Literal → List Literal → Literal → Word
row_made nodes bits [] b = word nodes bits
row_made nodes bits (x ∷ xs) b = let m = and_made nodes x b in row_made m.nodes (bits ++ m.bit ∷ []) xs b

-- the row of the bit at a place: the word moved to that place, false below it; then its sum with what was so far
unfoldable pub row_added : List Node → List Literal → List Literal → ℕ → Literal → Word
row_added nodes so_far xs place b =
    let row = row_made nodes (zeros place) (take (length xs - place) xs) b in
    sum_made row.nodes [] so_far row.bits (Known false)

-- the rows of the bits from a place on
unfoldable pub rows_added : List Node → List Literal → List Literal → ℕ → List Literal → Word
rows_added nodes so_far xs place [] = word nodes so_far
rows_added nodes so_far xs place (y ∷ ys) =
    let m = row_added nodes so_far xs place y in rows_added m.nodes m.bits xs (place + 1) ys

-- a product, from 0: the sum of 0 and the first row makes nothing, so that the first row is what there is first
abbrev pub product_made : List Node → List Literal → List Literal → Word
product_made nodes xs ys = rows_added nodes (zeros (length xs)) xs 0 ys

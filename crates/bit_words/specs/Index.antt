-- Bits by a variable index (IEEE 1364-2005, 5.2.1): the index is held against each number that names a bit.
use Rattle.std.specs.Prelude.{ℕ, ◌^◌, ◌<◌, ◌/◌, ◌%◌, ◌==◌, Bool, true, false, ◌&&◌, ◌||◌, if◌then◌else◌, List, [], ◌∷◌, Option, Some, None}
use Rattle.gate_base.specs.declared.literal.Literal.{Literal}
use Rattle.gate_base.specs.declared.literal.Literal.TheVariants.{Known}
use Rattle.gate_base.specs.declared.node.Node.{Node}
use Rattle.gate_base.specs.Nodes.{Made, made, and_made, or_made, mux_made}
use Rattle.bit_words.specs.Bits.{turned}

-- whether a word is a number: an AND chain of its bits, each negated where the number has 0
unfoldable pub number_made : List Node → Literal → List Literal → ℕ → Made
number_made nodes so_far [] number = made nodes so_far
number_made nodes so_far (x ∷ xs) number =
    let m = and_made nodes so_far (turned (number % 2 == 0) x) in number_made m.nodes m.bit xs (number / 2)

-- whether the index has that number; false where no value of the index's type names the bit
unfoldable pub match_made : List Node → List Literal → Option ℕ → Made
match_made nodes index None = made nodes (Known false)
match_made nodes index (Some number) = number_made nodes (Known true) index number

-- the bit of a word that the index names: an OR chain over its bits, each with the number of the index that names it
unfoldable pub pick_made : List Node → Literal → List Literal → List Literal → List (Option ℕ) → Made
pick_made nodes so_far index [] names = made nodes so_far
pick_made nodes so_far index (x ∷ xs) [] = made nodes so_far
pick_made nodes so_far index (x ∷ xs) (name ∷ names) =
    let q = match_made nodes index name in
    let p = and_made q.nodes x q.bit in
    let m = or_made p.nodes so_far p.bit in
    pick_made m.nodes m.bit index xs names

-- a bit into which bits of a value are stored, each where the index has the number that puts it there
unfoldable pub put_made : List Node → Literal → List Literal → List Literal → List (Option ℕ) → Made
put_made nodes so_far index [] names = made nodes so_far
put_made nodes so_far index (x ∷ xs) [] = made nodes so_far
put_made nodes so_far index (x ∷ xs) (name ∷ names) =
    let q = match_made nodes index name in
    let m = mux_made q.nodes q.bit x so_far in
    put_made m.nodes m.bit index xs names

-- whether a number is the one that names a bit
abbrev pub is_named : ℕ → Option ℕ → Bool
is_named index None = false
is_named index (Some number) = index == number

-- the bit that is named, where there is one
abbrev pub picked : ℕ → Bool → List Bool → List (Option ℕ) → Bool
picked index so_far [] names = so_far
picked index so_far (b ∷ bs) [] = so_far
picked index so_far (b ∷ bs) (name ∷ names) = picked index (so_far || (b && is_named index name)) bs names

-- the last bit that is put there, else the one that was
abbrev pub put : ℕ → Bool → List Bool → List (Option ℕ) → Bool
put index so_far [] names = so_far
put index so_far (b ∷ bs) [] = so_far
put index so_far (b ∷ bs) (name ∷ names) = put index (if is_named index name then b else so_far) bs names

-- the names are numbers of the index's width
abbrev pub NameFits : ℕ → Option ℕ → Type 0
NameFits width None = Unit {0}
NameFits width (Some number) = number < 2 ^ width

abbrev pub NamesFit : ℕ → List (Option ℕ) → Type 0
NamesFit width [] = Unit {0}
NamesFit width (name ∷ names) = NameFits width name × NamesFit width names

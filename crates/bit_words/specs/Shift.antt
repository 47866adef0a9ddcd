-- Shifts by a word (IEEE 1364-2005, 5.1.12): for each bit of it, in turn, a choice of the word moved by its power of two.
use Rattle.std.specs.Prelude.{ℕ, ◌≡◌, ◌+◌, ◌-◌, ◌*◌, ◌/◌, ◌%◌, ◌^◌, Bool, false, if◌then◌else◌, nat_lt, List, [], ◌∷◌, ◌++◌, length, take, drop, replicate}
use Rattle.gate_base.specs.declared.literal.Literal.{Literal}
use Rattle.gate_base.specs.declared.literal.Literal.TheVariants.{Known}
use Rattle.gate_base.specs.declared.node.Node.{Node}
use Rattle.gate_base.specs.Nodes.{Word, or_all_made}
use Rattle.bit_words.specs.declared.shift.Direction.{Direction}
use Rattle.bit_words.specs.declared.shift.Direction.TheVariants.{Left, Right}
use Rattle.bit_words.specs.Choose.{choice_made}

-- a word moved by a number of places, what comes in being the fill
abbrev pub moved : {A : Type 0} → Direction → A → ℕ → List A → List A
moved Left fill places xs = replicate places fill ++ take (length xs - places) xs
moved Right fill places xs = drop places xs ++ replicate places fill

-- a choice of the word moved, where a bit is true
unfoldable pub stage_made : List Node → Direction → Literal → ℕ → Literal → List Literal → Word
stage_made nodes direction fill places b xs = choice_made nodes [] b (moved direction fill places xs) xs

-- all bits are the fill where one of the other bits is true
unfoldable pub past_made : List Node → Literal → List Literal → List Literal → Word
past_made nodes fill ys xs =
    let past = or_all_made nodes (Known false) ys in choice_made past.nodes [] past.bit (replicate (length xs) fill) xs

-- the stages from a number of places on, as far as they are fewer than the width, and then the other bits
unfoldable pub stages_made : List Node → Direction → Literal → ℕ → List Literal → List Literal → Word
stages_made nodes direction fill places [] xs = past_made nodes fill [] xs
stages_made nodes direction fill places (y ∷ ys) xs =
    if nat_lt places (length xs)
    then (let m = stage_made nodes direction fill places y xs in stages_made m.nodes direction fill (places + places) ys m.bits)
    else past_made nodes fill (y ∷ ys) xs

-- a word shifted by another
abbrev pub shift_made : List Node → Direction → Literal → List Literal → List Literal → Word
shift_made nodes direction fill xs ys = stages_made nodes direction fill 1 ys xs

-- zeros come in at the right
abbrev pub MayFill : Direction → Bool → Type 0
MayFill Left fill = fill ≡ false
MayFill Right fill = Unit {0}

-- the number of a word of a width shifted by a number of places, ones coming in at the left where the fill is true
abbrev pub shifted_number : Direction → Bool → ℕ → ℕ → ℕ → ℕ
shifted_number Left fill width a places = a * 2 ^ places % 2 ^ width
shifted_number Right fill width a places = if fill then (2 ^ width - 1) - ((2 ^ width - 1) - a) / 2 ^ places else a / 2 ^ places

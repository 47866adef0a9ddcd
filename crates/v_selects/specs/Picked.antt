-- The selects of a name, their operands finished: bits as parts of one bit.
use Rattle.std.specs.Prelude.{ℕ, ◌≡◌, ◌≤◌, ⊤, false, ℤ, ◌+ℤ◌, Bool, true, if◌then◌else◌, List, [], ◌∷◌, Option, Some, None}
use Rattle.std.specs.Option.{option_or}
use Rattle.loc_base.specs.declared.span.Span.{Span}
use Rattle.v_syntax.specs.declared.expression.PartKind.{PartKind}
use Rattle.v_syntax.specs.declared.expression.PartKind.TheVariants as kind
use Rattle.design_core.specs.declared.expression.Node.{Node}
use Rattle.design_core.specs.declared.expression.Typed.{Typed}
use Rattle.design_core.specs.Valuation.{distance_of, word_at}
use Rattle.v_sizes.specs.declared.error.WidthErr.{WidthErr}
use Rattle.v_sizes.specs.declared.meaning.Meaning.{Meaning}
use Rattle.v_sizes.specs.declared.meaning.Meaning.TheVariants as meaning
use Rattle.v_sizes.specs.Selected.{base_index, part_offset, descends, bits_within}
use Rattle.v_sizes.specs.declared.error.WidthErr.TheVariants as fault
use Rattle.v_sizes.specs.Refusals.{first_of, word_fault}
use Rattle.v_sizes.specs.Sizing.{Chosen, one_bit, some_bits, chosen_width, known, is_none}
use Rattle.v_sizes.specs.Sized.{Select, bit_select, part_select, base_of, start_of, signal_part, word_part}
use Rattle.v_selects.specs.declared.closed.Picked.{Picked}
use Rattle.v_selects.specs.declared.closed.Picked.TheVariants as picked
use Rattle.v_selects.specs.Named.{chosen_in}
use Rattle.v_selects.specs.Taken.{taken}

-- a select as a part: a bit is a part of one bit
abbrev pub kind_of : Chosen → PartKind
kind_of (one_bit _) = kind.Up
kind_of (some_bits k _ _) = k

abbrev pub known_base : Chosen → ℤ
known_base (one_bit index) = known index
known_base (some_bits k one other) = base_index k (known one) (known other)

-- how far its first bit lies from the rightmost one
abbrev pub first_distance : ℤ → ℤ → Chosen → ℤ
first_distance left right chosen =
    distance_of left right (known_base chosen +ℤ part_offset (kind_of chosen) (descends left right) (chosen_width chosen) 0)

-- what is wrong with a word of an array
abbrev pub array_fault : Span → Bool → Bool → List Chosen → Option WidthErr
array_fault span only down [] = Some (fault.UnknownName span)
array_fault span only down (some_bits _ _ _ ∷ _) = Some (fault.UnknownName span)
array_fault span only down (one_bit _ ∷ rest) = word_fault span only true down rest

-- whether the index from which the bits are counted is a constant, and its sized expression
abbrev pub has_known_base : Picked → Bool
has_known_base (picked.Bit index) = index.constant
has_known_base (picked.Part kind one other) = (base_of kind (taken one) (taken other)).constant

abbrev pub base_in : Picked → Typed
base_in (picked.Bit index) = index.typed
base_in (picked.Part kind one other) = base_of kind one.typed other.typed

-- a signal of a width and a range with its select
abbrev pub picked_node : ℕ → ℕ → ℤ → ℤ → Picked → Node
picked_node signal width left right one =
    let count = chosen_width (chosen_in one) in
    signal_part signal (if has_known_base one then start_of width count (first_distance left right (chosen_in one)) else None)
    count (base_in one) (part_offset (kind_of (chosen_in one)) (descends left right) count)

-- the word of an array at a variable address with its select
abbrev pub picked_word : ℕ → ℕ → ℤ → ℕ → ℤ → ℤ → Typed → Picked → Node
picked_word first count low width left right index one =
    word_part first count low index width (chosen_width (chosen_in one)) (first_distance left right (chosen_in one))

-- whether the first select, if there is one, has bits within a word
abbrev pub HasSome : ℕ → ℤ → ℤ → List Picked → Type 0
HasSome width left right [] = ⊤
HasSome width left right (one ∷ rest) = 1 ≤ bits_within width (chosen_width (chosen_in one)) (first_distance left right (chosen_in one))

-- a name with its selects that has a node: where it is a word of an array, its address is one of the array's or a variable, and some
-- of the bits are there
abbrev pub IsReadable : Meaning → List Picked → Type 0
IsReadable (meaning.Constant _ _ _) selects = ⊤
IsReadable (meaning.Signal _ _ _ _ _) selects = ⊤
IsReadable (meaning.Array _ _ _ _ _ _ _) [] = ⊤
IsReadable (meaning.Array _ _ _ _ _ _ _) (picked.Part _ _ _ ∷ _) = ⊤
IsReadable (meaning.Array first count low width _ left right) (picked.Bit index ∷ rest) =
    (index.constant ≡ false → HasSome width left right rest) × (index.constant ≡ true → is_none (word_at first count low (known (taken index))) ≡ false)

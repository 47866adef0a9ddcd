-- Selects as parts.
use Rattle.std.proofs.Common.{◌≡◌, ℕ, ◌+◌, ◌-◌, ◌<◌, ◌≤◌, ap, arith, ◌∙◌, sym, refl}
use Rattle.std.specs.Prelude.{Bool, true, false, ◌==◌, if◌then◌else◌, List, [], ◌∷◌, ◌++◌, Option, Some, None, ℤ, pos, ◌+ℤ◌}
use Rattle.loc_base.specs.declared.span.Span.{Span}
use Rattle.v_sizes.specs.declared.meaning.Meaning.TheVariants as meaning
use Rattle.v_sizes.specs.Refusals.{name_fault}
use Rattle.std.proofs.lemmas.Int.{ints, to_z-of_z}
use Rattle.design_core.specs.Valuation.{distance_of}
use Rattle.v_syntax.specs.declared.expression.PartKind.TheVariants as kind
use Rattle.v_sizes.specs.Selected.{part_offset, descends, bits_within}
use Rattle.v_sizes.specs.Sizing.{Sizing, known, Chosen, one_bit, some_bits, chosen_width, has_no_bit}
use Rattle.design_core.specs.declared.expression.Typed.{Typed}
use Rattle.v_sizes.specs.Sized.{constant, zeros_before, offsets_to, start_of, signal_part, Select, signal_node, word_part, word_node}
use Rattle.v_selects.specs.Capped.{capped}
use Rattle.v_selects.specs.Picked.{kind_of, known_base, first_distance, array_fault, picked_node, picked_word}
use Rattle.design_core.specs.declared.expression.Node.{Node}
use Rattle.design_core.specs.declared.expression.Node.TheVariants as node
use Rattle.v_selects.specs.declared.closed.Picked.{Picked}
use Rattle.v_selects.specs.declared.closed.Picked.TheVariants as picked
use Rattle.v_selects.specs.Named.{select_in}
use Rattle.v_selects.specs.Taken.{taken}
use Rattle.v_selects.proofs.Parted.{within-capped, start-capped}

-- the first bit of a part of one bit
pub one-offset : (down : Bool) (index : ℤ) → index +ℤ part_offset kind.Up down 1 0 ≡ index
one-offset true index = omega (arith, ints)
one-offset false index = omega (arith, ints)

pub one-distance : (left right : ℤ) (x : Sizing) → first_distance left right (one_bit x) ≡ distance_of left right (known x)
one-distance left right x = ap (distance_of left right) (one-offset (descends left right) (known x))

pub none-within : (width : ℕ) (left right : ℤ) (chosen : Chosen) → width ≤ 255 → chosen_width chosen ≤ 255
    → (bits_within width (chosen_width chosen) (capped (first_distance left right chosen)) == 0) ≡ has_no_bit width left right chosen
none-within width left right (one_bit x) small few =
    ap (λ n. n == 0) (within-capped width 1 (first_distance left right (one_bit x)) small few ∙ ap (bits_within width 1) (one-distance left right x))
none-within width left right (some_bits k one other) small few =
    ap (λ n. n == 0) (within-capped width (chosen_width (some_bits k one other)) (first_distance left right (some_bits k one other)) small few)

pub ruleset none_within = (none-within, to_z-of_z)

-- the fault of an array's word is that of its name
pub array-fault : (span : Span) (only : Bool) (first count : ℕ) (low : ℤ) (width : ℕ) (signed : Bool) (left right : ℤ) (chosen : List Chosen)
    → name_fault span only (Some (meaning.Array first count low width signed left right)) chosen ≡ array_fault span only (descends left right) chosen
array-fault span only first count low width signed left right [] = refl
array-fault span only first count low width signed left right (some_bits _ _ _ ∷ _) = refl
array-fault span only first count low width signed left right (one_bit _ ∷ _) = refl

pub ruleset array_faults = (array-fault)

pub ruleset starts = (start-capped, to_z-of_z)

-- zeros on both sides
pub zeros-around : (a b : ℕ) (part : Typed) → (zeros_before a [] ++ part ∷ []) ++ zeros_before b [] ≡ zeros_before a (part ∷ zeros_before b [])
zeros-around a b part = by (a == 0)
  where
    by : (none : Bool) → ((if none then [] else constant a false 0 ∷ []) ++ part ∷ []) ++ zeros_before b [] ≡ (if none then part ∷ zeros_before b [] else constant a false 0 ∷ part ∷ zeros_before b [])
    by true = refl
    by false = refl

pub ruleset zeros_around = (zeros-around)

-- ---- nodes of names
one-offsets : (down : Bool) → offsets_to (part_offset kind.Up down 1) 1 ≡ offsets_to (λ b. pos 0) 1
unfolding offsets_to
one-offsets true = refl
one-offsets false = refl

one-part : (signal : ℕ) (start start' : Option ℕ) (index : Typed) (down : Bool) → start ≡ start'
    → signal_part signal start 1 index (part_offset kind.Up down 1) ≡ signal_part signal start' 1 index (λ b. pos 0)
one-part signal start None index down same = ap (λ s. signal_part signal s 1 index (part_offset kind.Up down 1)) same ∙ ap (node.Pick signal index) (one-offsets down)
one-part signal start (Some from) index down same = ap (λ s. signal_part signal s 1 index (part_offset kind.Up down 1)) same

pub signal-picked : (signal width : ℕ) (left right : ℤ) (all : Node) (one : Picked) (rest : List Select)
    → picked_node signal width left right one ≡ signal_node signal width left right all (select_in one ∷ rest)
signal-picked signal width left right all (picked.Bit index) rest =
    one-part signal (if index.constant then start_of width 1 (first_distance left right (one_bit (taken index))) else None)
    (if index.constant then start_of width 1 (distance_of left right (known (taken index))) else None) index.typed (descends left right)
    (ap (λ d. if index.constant then start_of width 1 d else None) (one-distance left right (taken index)))
signal-picked signal width left right all (picked.Part kind.Range one other) rest = refl
signal-picked signal width left right all (picked.Part kind.Up one other) rest = refl
signal-picked signal width left right all (picked.Part kind.Down one other) rest = refl

pub ruleset signal_nodes = (signal-picked)

pub word-picked : (first count : ℕ) (low : ℤ) (width : ℕ) (left right : ℤ) (index : Typed) (one : Picked) (rest : List Select)
    → picked_word first count low width left right index one ≡ word_node first count low width left right index (select_in one ∷ rest)
word-picked first count low width left right index (picked.Bit place) rest =
    ap (word_part first count low index width 1) (one-distance left right (taken place))
word-picked first count low width left right index (picked.Part k one other) rest = refl

pub ruleset word_nodes = (word-picked)

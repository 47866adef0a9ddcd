-- What a name with its selects is, from its finished indexes: the definitions of its sizes, said of those.
use Rattle.std.specs.Prelude.{Bool, List, [], ◌∷◌, map, Option, None}
use Rattle.std.specs.Option.{option_or}
use Rattle.loc_base.specs.declared.span.Span.{Span}
use Rattle.design_core.specs.Constant.{zeros}
use Rattle.v_sizes.specs.declared.error.WidthErr.{WidthErr}
use Rattle.v_sizes.specs.declared.meaning.Meaning.{Meaning}
use Rattle.v_sizes.specs.Refusals.{name_fault}
use Rattle.v_sizes.specs.Sized.{Select, bit_select, part_select, name_node}
use Rattle.v_sizes.specs.Sizing.{own, Chosen, one_bit, some_bits, name_sizing}
use Rattle.v_selects.specs.declared.closed.Picked.{Picked}
use Rattle.v_selects.specs.declared.closed.Picked.TheVariants as picked
use Rattle.v_selects.specs.declared.leaf.Leaf.{Leaf}
use Rattle.v_selects.specs.Leaves.{leaf}
use Rattle.v_selects.specs.Taken.{taken}

-- a select, as its sizes are and as it is sized
abbrev pub chosen_in : Picked → Chosen
chosen_in (picked.Bit index) = one_bit (taken index)
chosen_in (picked.Part kind one other) = some_bits kind (taken one) (taken other)

abbrev pub select_in : Picked → Select
select_in (picked.Bit index) = bit_select (taken index) index.typed
select_in (picked.Part kind one other) = part_select kind (taken one) one.typed (taken other) other.typed

-- the leftmost fault of its indexes, and of those of several selects
abbrev pub picked_fault : Picked → Option WidthErr
picked_fault (picked.Bit index) = index.fault
picked_fault (picked.Part _ one other) = option_or one.fault other.fault

abbrev pub picked_faults : List Picked → Option WidthErr
picked_faults [] = None
picked_faults (one ∷ rest) = option_or (picked_fault one) (picked_faults rest)

-- a name with its selects; `only` where constants alone are wanted
abbrev pub named_leaf : Span → Bool → Option Meaning → List Picked → Leaf
named_leaf span only meaning selects =
    let chosen = map chosen_in selects in
    let e = name_sizing meaning chosen in
    leaf e.width e.signed e.constant (option_or (picked_faults selects) (name_fault span only meaning chosen)) (own e zeros)
    (name_node meaning (map select_in selects))

-- Private, for the functions inside this crate and those of `design_fits`: what each of them computes of a value or a statement.
use Rattle.std.specs.Prelude.{ℕ, ◌+◌, ◌*◌, ◌^◌, Bool, true, false, ◌||◌, ◌&&◌, if◌then◌else◌, nat_lt, ℤ, pos, negsuc, List, [], ◌∷◌, Option, Some, None}
use Rattle.std.specs.List.{list_any, list_all}
use Rattle.loc_base.specs.declared.bits.Bits.{Bits}
use Rattle.loc_base.specs.Bits.{width_of, value_of}
use Rattle.design_core.specs.declared.signal.Signal.{Signal}
use Rattle.design_core.specs.declared.expression.BinaryOp.{BinaryOp}
use Rattle.design_core.specs.declared.expression.Typed.{Typed}
use Rattle.design_core.specs.declared.expression.Node.{Node}
use Rattle.design_core.specs.declared.expression.Node.TheVariants as node
use Rattle.design_core.specs.declared.statement.Part.{Part}
use Rattle.design_core.specs.declared.statement.Part.TheVariants.{Whole, Slice, Pick, Word}
use Rattle.design_core.specs.declared.statement.Stmt.{Stmt}
use Rattle.design_core.specs.declared.statement.CaseItem.{CaseItem}
use Rattle.design_core.specs.declared.place.Place.{Place}
use Rattle.design_core.specs.Valuation.{Valuation}
use Rattle.design_core.specs.Operator.{integer_of}
use Rattle.design_core.specs.Value.{value, index_value}
use Rattle.design_core.specs.After.{Choice, Updates, after, matches}
use Rattle.design_core.specs.WellFormed.{binary_fits, label_fits, statement_fits}

-- whether an operator takes operands of these widths: its result has the width of the left one, or 1 bit
abbrev pub takes : BinaryOp → ℕ → ℕ → Bool
takes op left right = binary_fits op left left right || binary_fits op 1 left right

-- a number that lies within 2 ^ 40 of 0, where it does: no other names a bit or a word
abbrev pub near_of : ℤ → Option ℤ
near_of (pos n) = if nat_lt n (2 ^ 40) then Some (pos n) else None
near_of (negsuc n) = if nat_lt n (2 ^ 40) then Some (negsuc n) else None

-- the number of bits of some expressions
abbrev pub parts_sum : List Typed → ℕ
parts_sum [] = 0
parts_sum (part ∷ parts) = part.width + parts_sum parts

-- the parts of a concatenation, behind what stands to their left
abbrev pub join_parts : List Signal → Valuation → ℕ → List Typed → ℕ
join_parts signals V left [] = left
join_parts signals V left (part ∷ parts) = join_parts signals V (left * 2 ^ part.width + value signals V part) parts

-- the variable index of a part of a left side, 0 where it has none
abbrev pub part_index : List Signal → Valuation → Part → ℤ
part_index signals E (Whole _) = pos 0
part_index signals E (Slice _ _ _) = pos 0
part_index signals E (Pick _ index _) = index_value signals E index
part_index signals E (Word _ _ _ index _ _) = index_value signals E index

-- what a word means as that index
abbrev pub as_index : Part → Bits → ℤ
as_index (Whole _) word = pos 0
as_index (Slice _ _ _) word = pos 0
as_index (Pick _ index _) word = integer_of index.signed (width_of word) (value_of word)
as_index (Word _ _ _ index _ _) word = integer_of index.signed (width_of word) (value_of word)

-- the updates after statements in order
abbrev pub after_list : List Signal → Choice → List Stmt → Updates → Updates
after_list signals choice [] m = m
after_list signals choice (statement ∷ rest) m = after_list signals choice rest (after signals choice statement m)

-- whether a case item has a label equal to the subject
abbrev pub item_matches : List Signal → Valuation → ℕ → CaseItem → Bool
item_matches signals V subject item = list_any (matches signals V subject) item.labels

-- whether a case item's labels have the subject's width and its statement fits
abbrev pub item_fits : List Signal → List Place → ℕ → CaseItem → Bool
item_fits signals places width item = list_all (label_fits signals width) item.labels && statement_fits signals places item.body

-- whether a node selects by a variable index
abbrev pub is_select : Node → Bool
is_select (node.Pick' _ _ _ _) = true
is_select (node.Word' _ _ _ _ _ _ _) = true
is_select _ = false

-- Left sides (IEEE 1364-2005, 6.1, 9.2.1 and 9.2.2): the parts of signals that they name, from the left. A name with its selects
-- is assigned the bits that it has as an expression; a bit that none of its signals has is stored nowhere (5.2.1).
use Rattle.std.specs.Prelude.{⊤, ℕ, ◌+◌, Bool, true, false, ◌||◌, if◌then◌else◌, min, ℤ, pos, ◌-ℤ◌, List, [], ◌∷◌, ◌++◌, Option, Some, None, Result, Ok, Err}
use Rattle.std.specs.Option.{option_map_or}
use Rattle.loc_base.specs.Bits.{width_of}
use Rattle.loc_base.specs.declared.span.Span.{Span}
use Rattle.v_syntax.specs.declared.site.Site.{Site}
use Rattle.v_syntax.specs.Tree.{Tree, Selection, Selections, no_select, select, no_tree, tree, Trees}
use Rattle.v_syntax.specs.Tree as written
use Rattle.v_syntax.specs.PartTree.{PlainLeft, name_left, concat_left, Lefts, no_left, left}
use Rattle.design_core.specs.declared.expression.Typed.{Typed}
use Rattle.design_core.specs.declared.expression.Node.{Node, Row_of-Typed, end_of-Typed, more_of-Typed}
use Rattle.design_core.specs.declared.expression.Node.TheVariants as node
use Rattle.design_core.specs.declared.statement.Part.{Part}
use Rattle.design_core.specs.declared.statement.Part.TheVariants as part
use Rattle.v_sizes.specs.declared.meaning.Meaning.{Meaning}
use Rattle.v_sizes.specs.declared.meaning.Meaning.TheVariants as meaning
use Rattle.v_sizes.specs.Operations.{word_of, is_below_0, magnitude}
use Rattle.v_sizes.specs.Selected.{descends}
use Rattle.v_sizes.specs.Sized.{constant, offsets_to}
use Rattle.v_sizes.specs.Refusals.{is_bad_width, is_bound}
use Rattle.v_binding.specs.declared.error.BindErr.{BindErr}
use Rattle.v_binding.specs.declared.error.BindErr.TheVariants as fault
use Rattle.v_binding.specs.declared.left.Left.{Left}
use Rattle.v_binding.specs.declared.left.Ranged.{Ranged}
use Rattle.v_binding.specs.Steps.{◌>>=◌}
use Rattle.v_binding.specs.declared.known.Use.{Use}
use Rattle.v_binding.specs.declared.known.Use.TheVariants.{Stands as stands, AtTurn as at_turn, Outside as outside}
use Rattle.v_binding.specs.Names.{Names, find, look_in}
use Rattle.v_binding.specs.Unknown.{has_two}
use Rattle.v_binding.specs.Expressions.{by_itself, constant_at}

-- ---- what can't be a left side: the indexes are refused first, from the left, then the name. They are what they are in an
-- expression: a bound or a count is a constant, and so is each number in a select of what stands for a constant
abbrev pub is_constant : Option Meaning → Bool
is_constant (Some (meaning.Constant _ _ _)) = true
is_constant _ = false

abbrev pub number_at : Names → Bool → Tree → Result ⊤ BindErr
number_at names true e = constant_at names e 0 >>= λ _. Ok tt
number_at names false e = by_itself names e >>= λ _. Ok tt

abbrev pub index_of : Names → Bool → Selection → Result ⊤ BindErr
index_of names only (written.bit _ index) = number_at names only index
index_of names only (written.part _ kind one other) = number_at names (only || is_bound kind) one >>= λ _. number_at names true other

abbrev pub indexes_at : Names → Bool → Selections → Result ⊤ BindErr
indexes_at names only no_select = Ok tt
indexes_at names only (select s rest) = index_of names only s >>= λ _. indexes_at names only rest

-- a name that stands for nothing, a parameter, or the variable of a loop
abbrev pub no_left_side : Span → Option Use → Selections → BindErr
no_left_side span (Some (at_turn _)) selects = if has_two selects then fault.UnknownName span else fault.NotConstant span
no_left_side span (Some outside) selects = if has_two selects then fault.UnknownName span else fault.NotConstant span
no_left_side span _ selects = fault.UnknownName span

-- ---- what a name with its selects is assigned by
-- a signal with its range; of an array the word of the least address
abbrev pub ranged_of : Option Use → Option Ranged
ranged_of (Some (stands (meaning.Signal signal _ _ high low))) = Some (record { signal = signal; left = high; right = low })
ranged_of (Some (stands (meaning.Array first _ _ _ _ high low))) = Some (record { signal = first; left = high; right = low })
ranged_of _ = None

-- bits that a signal doesn't have: those beyond its leftmost one
abbrev pub beyond_offset : Bool → ℕ → ℤ
beyond_offset true b = pos (b + 1)
beyond_offset false b = pos 0 -ℤ pos (b + 1)

abbrev pub beyond : Ranged → ℕ → Part
beyond r count =
    part.Pick r.signal (constant 32 true (word_of 32 (is_below_0 r.left) (magnitude r.left))) (offsets_to (beyond_offset (descends r.left r.right)) count)

-- a part of what the name is as an expression: a constant is of bits that no signal has
abbrev pub part_of : Ranged → Node → Part
part_of r (node.Const word) = beyond r (width_of word)
part_of r (node.Whole signal) = part.Whole signal
part_of r (node.Slice signal from width) = part.Slice signal from width
part_of r (node.Pick' signal _ (more_of-Typed width signed index end_of-Typed) offsets) =
    part.Pick signal (record { width = width; signed = signed; node = index }) offsets
part_of r (node.Word' first count low _ (more_of-Typed width signed index end_of-Typed) from size) =
    part.Word first count low (record { width = width; signed = signed; node = index }) from size
part_of r _ = beyond r 1

-- a word with bits beside it that it doesn't have is a concatenation
abbrev pub row_parts : {shape : _} → Ranged → Row_of-Typed shape → List Part
row_parts r end_of-Typed = []
row_parts r (more_of-Typed _ _ one rest) = part_of r one ∷ row_parts r rest

abbrev pub parts_of : Ranged → Node → List Part
parts_of r (node.Join' _ parts) = row_parts r parts
parts_of r one = part_of r one ∷ []

abbrev pub name_parts : Ranged → Typed → Left
name_parts r e = record { parts = parts_of r e.node; width = e.width; named = r.signal }

abbrev pub name_target : Names → Site → List ℕ → Selections → Result Left BindErr
name_target names site text selects = elim (ranged_of (find names text)) [
  | Some r ↦ by_itself names (written.name site text selects) >>= λ e. Ok (name_parts r e)
  | None ↦ indexes_at names (is_constant (look_in names text)) selects >>= λ _. Err (no_left_side site.span (find names text) selects)
]

-- ---- concatenations: a width above 128 counts as 129
abbrev pub nothing_named : Left
nothing_named = record { parts = []; width = 0; named = 0 }

abbrev pub beside : Left → Left → Left
beside one other =
    record { parts = one.parts ++ other.parts; width = min 129 (one.width + other.width); named = elim one.parts [ [] ↦ other.named | _ ∷ _ ↦ one.named ] }

abbrev pub of_width : Span → Left → Result Left BindErr
of_width span l = if is_bad_width l.width then Err (fault.Range span) else Ok l

abbrev mutual
  pub target : Names → PlainLeft → Result Left BindErr
  target names (name_left site text selects) = name_target names site text selects
  target names (concat_left site parts) = targets names parts nothing_named >>= λ l. of_width site.span l

  pub targets : Names → Lefts → Left → Result Left BindErr
  targets names no_left done = Ok done
  targets names (left x xs) done = target names x >>= λ one. targets names xs (beside done one)

-- ---- expressions that can be left sides: a terminal of a gate, or what an output is connected to (7.2, 12.3.9.2)
abbrev mutual
  pub as_left : Tree → Option PlainLeft
  as_left (written.name site text selects) = Some (name_left site text selects)
  as_left (written.concat site parts) = option_map_or (λ list. Some (concat_left site list)) (as_lefts parts) None
  as_left _ = None

  pub as_lefts : Trees → Option Lefts
  as_lefts no_tree = Some no_left
  as_lefts (tree one rest) = option_map_or (λ x. option_map_or (λ xs. Some (left x xs)) (as_lefts rest) None) (as_left one) None

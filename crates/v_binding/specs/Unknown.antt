-- Which name of an expression is refused as unknown: from the left the first that stands for nothing, or has selects that it can't
-- have. The names in a name's selects come before it. The variable of a loop stands for nothing outside its turns, where it is no
-- constant; with two selects it is as unknown as any other name.
use Rattle.std.specs.Prelude.{ℕ, Bool, true, false, not, ◌&&◌, if◌then◌else◌, List, Option, Some, None}
use Rattle.std.specs.Option.{option_or}
use Rattle.loc_base.specs.declared.span.Span.{Span}
use Rattle.v_syntax.specs.Tree.{Tree, Trees, no_tree, tree, Selections, no_select, select}
use Rattle.v_syntax.specs.Tree as written
use Rattle.v_sizes.specs.declared.error.WidthErr.{WidthErr}
use Rattle.v_sizes.specs.declared.error.WidthErr.TheVariants as width_fault
use Rattle.v_sizes.specs.declared.meaning.Meaning.{Meaning}
use Rattle.v_sizes.specs.declared.meaning.Meaning.TheVariants as meaning
use Rattle.v_binding.specs.declared.error.BindErr.{BindErr}
use Rattle.v_binding.specs.declared.error.BindErr.TheVariants as fault
use Rattle.v_binding.specs.declared.known.Use.{Use}
use Rattle.v_binding.specs.declared.known.Use.TheVariants.{Outside as outside}
use Rattle.v_binding.specs.Faults.{fault_of}
use Rattle.v_binding.specs.Names.{Names, find, look_in}

-- ---- selects
abbrev pub has_two : Selections → Bool
has_two (select _ (select _ _)) = true
has_two _ = false

-- more selects than one behind a word, or none or a part-select behind an array
abbrev pub is_misused : Meaning → Selections → Bool
is_misused (meaning.Array _ _ _ _ _ _ _) no_select = true
is_misused (meaning.Array _ _ _ _ _ _ _) (select (written.part _ _ _ _) _) = true
is_misused (meaning.Array _ _ _ _ _ _ _) (select (written.bit _ _) rest) = has_two rest
is_misused (meaning.Constant _ _ _) selects = has_two selects
is_misused (meaning.Signal _ _ _ _ _) selects = has_two selects

-- ---- names
abbrev pub is_outside : Option Use → Bool
is_outside (Some outside) = true
is_outside _ = false

-- whether a name that is refused as unknown is the variable of a loop; nothing where it isn't refused so
abbrev pub unknown_name : Names → List ℕ → Selections → Option Bool
unknown_name names text selects = elim (look_in names text) [
  | None ↦ Some (is_outside (find names text) && not (has_two selects))
  | Some m ↦ if is_misused m selects then Some false else None
]

-- the same of the first such name of an expression, behind those before it
abbrev mutual
  pub unknown_in : Names → Tree → Option Bool → Option Bool
  unknown_in names (written.number _ _) before = before
  unknown_in names (written.wild _ _) before = before
  unknown_in names (written.name _ text selects) before = option_or (unknown_selects names selects before) (unknown_name names text selects)
  unknown_in names (written.parens _ inner) before = unknown_in names inner before
  unknown_in names (written.concat _ parts) before = unknown_parts names parts before
  unknown_in names (written.repeat _ count parts) before = unknown_parts names parts (unknown_in names count before)
  unknown_in names (written.system _ _ argument) before = unknown_in names argument before
  unknown_in names (written.unary _ _ operand) before = unknown_in names operand before
  unknown_in names (written.binary _ _ left right) before = unknown_in names right (unknown_in names left before)
  unknown_in names (written.conditional _ condition on_true on_false) before =
      unknown_in names on_false (unknown_in names on_true (unknown_in names condition before))

  pub unknown_parts : Names → Trees → Option Bool → Option Bool
  unknown_parts names no_tree before = before
  unknown_parts names (tree one rest) before = unknown_parts names rest (unknown_in names one before)

  pub unknown_selects : Names → Selections → Option Bool → Option Bool
  unknown_selects names no_select before = before
  unknown_selects names (select (written.bit _ index) rest) before = unknown_selects names rest (unknown_in names index before)
  unknown_selects names (select (written.part _ _ one other) rest) before =
      unknown_selects names rest (unknown_in names other (unknown_in names one before))

-- ---- why an expression is refused, as binding says it
abbrev pub name_fault : Span → Option Bool → BindErr
name_fault span (Some true) = fault.NotConstant span
name_fault span _ = fault.UnknownName span

abbrev pub fault_in : Names → Tree → WidthErr → BindErr
fault_in names e (width_fault.UnknownName span) = name_fault span (unknown_in names e None)
fault_in names e wrong = fault_of wrong

-- The plain data of each variant of a left side.
use Rattle.std.proofs.Common.{◌≡◌, ℕ, List, map, sym, ap, ◌∙◌}
use Rattle.std.specs.declared.vec.Vec.{Vec}
use Rattle.std.specs.declared.alloc.Global.{Global}
use Rattle.v_syntax.specs.declared.site.Site.{Site}
use Rattle.v_syntax.specs.declared.expression.Select.{Select}
use Rattle.v_syntax.specs.declared.declaration.Left.{Left}
use Rattle.v_syntax.specs.declared.declaration.Left.TheVariants as variant
use Rattle.v_syntax.specs.declared.declaration.Left.TheFolds.{fold-roll-Left}
use Rattle.v_syntax.specs.declared.declaration.Left.TheOpen.{Left-F}
use Rattle.v_syntax.specs.Tree.{selection_of, selections_of}
use Rattle.v_syntax.specs.PartTree.{PlainLeft, name_left, concat_left, lefts_of, left_of, left_step}

pub left_of_name : (s : Site) (text : List ℕ) (selects : Vec Select Global)
    → left_of (variant.Name s text selects) ≡ name_left s text (selections_of (map selection_of selects.items))
left_of_name s text selects = ap left_of (sym (variant.rolls-Name s text selects)) ∙ fold-roll-Left PlainLeft left_step (Left-F.Name s text selects)

pub left_of_concat : (s : Site) (parts : Vec Left Global) → left_of (variant.Concat s parts) ≡ concat_left s (lefts_of (map left_of parts.items))
left_of_concat s parts = ap left_of (sym (variant.rolls-Concat s parts)) ∙ fold-roll-Left PlainLeft left_step (Left-F.Concat s parts)

pub ruleset left_steps = (left_of_name, left_of_concat)

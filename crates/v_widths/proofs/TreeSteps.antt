-- The tree of each variant of an expression.
use Rattle.std.proofs.Common.{◌≡◌, ℕ, List, map, sym, ap, ◌∙◌}
use Rattle.std.specs.declared.boxed.Box.{Box}
use Rattle.std.specs.declared.vec.Vec.{Vec}
use Rattle.std.specs.declared.alloc.Global.{Global}
use Rattle.v_syntax.specs.declared.site.Site.{Site}
use Rattle.v_syntax.specs.declared.operator.Unary.{Unary}
use Rattle.v_syntax.specs.declared.operator.Binary.{Binary}
use Rattle.v_syntax.specs.declared.operator.SystemFunction.{SystemFunction}
use Rattle.v_syntax.specs.declared.expression.PartKind.{PartKind}
use Rattle.v_syntax.specs.declared.expression.Expr.{Expr}
use Rattle.v_syntax.specs.declared.expression.Expr.TheVariants as variant
use Rattle.v_syntax.specs.declared.expression.Select.{Select}
use Rattle.v_syntax.specs.declared.expression.Select.TheVariants as select_variant
use Rattle.v_syntax.specs.declared.expression.Expr.TheFolds.{fold-roll-Expr, fold-roll-Select}
use Rattle.v_syntax.specs.declared.expression.Expr.TheOpen.{Expr-F, Select-F}
use Rattle.v_syntax.specs.Tree.{Tree, Selection, trees_of, expr_step, select_step, tree_of, selection_of, selections_of}
use Rattle.v_syntax.specs.Tree as written

pub tree_of_number : (s : Site) (text : List ℕ) → tree_of (variant.Number s text) ≡ written.number s text
tree_of_number s text = ap tree_of (sym (variant.rolls-Number s text)) ∙ fold-roll-Expr Tree Selection expr_step select_step (Expr-F.Number s text)

pub tree_of_wild : (s : Site) (text : List ℕ) → tree_of (variant.Wild s text) ≡ written.wild s text
tree_of_wild s text = ap tree_of (sym (variant.rolls-Wild s text)) ∙ fold-roll-Expr Tree Selection expr_step select_step (Expr-F.Wild s text)

pub tree_of_name : (s : Site) (text : List ℕ) (selects : Vec Select Global) → tree_of (variant.Name s text selects) ≡ written.name s text (selections_of (map selection_of selects.items))
tree_of_name s text selects = ap tree_of (sym (variant.rolls-Name s text selects)) ∙ fold-roll-Expr Tree Selection expr_step select_step (Expr-F.Name s text selects)

pub tree_of_parens : (s : Site) (inner : Box Expr Global) → tree_of (variant.Parens s inner) ≡ written.parens s (tree_of inner.value)
tree_of_parens s inner = ap tree_of (sym (variant.rolls-Parens s inner)) ∙ fold-roll-Expr Tree Selection expr_step select_step (Expr-F.Parens s inner)

pub tree_of_concat : (s : Site) (parts : Vec Expr Global) → tree_of (variant.Concat s parts) ≡ written.concat s (trees_of (map tree_of parts.items))
tree_of_concat s parts = ap tree_of (sym (variant.rolls-Concat s parts)) ∙ fold-roll-Expr Tree Selection expr_step select_step (Expr-F.Concat s parts)

pub tree_of_repeat : (s : Site) (count : Box Expr Global) (parts : Vec Expr Global)
    → tree_of (variant.Repeat s count parts) ≡ written.repeat s (tree_of count.value) (trees_of (map tree_of parts.items))
tree_of_repeat s count parts = ap tree_of (sym (variant.rolls-Repeat s count parts)) ∙ fold-roll-Expr Tree Selection expr_step select_step (Expr-F.Repeat s count parts)

pub tree_of_system : (s : Site) (name : SystemFunction) (argument : Box Expr Global) → tree_of (variant.System s name argument) ≡ written.system s name (tree_of argument.value)
tree_of_system s name argument = ap tree_of (sym (variant.rolls-System s name argument)) ∙ fold-roll-Expr Tree Selection expr_step select_step (Expr-F.System s name argument)

pub tree_of_unary : (s : Site) (op : Unary) (operand : Box Expr Global) → tree_of (variant.Unary s op operand) ≡ written.unary s op (tree_of operand.value)
tree_of_unary s op operand = ap tree_of (sym (variant.rolls-Unary s op operand)) ∙ fold-roll-Expr Tree Selection expr_step select_step (Expr-F.Unary s op operand)

pub tree_of_binary : (s : Site) (op : Binary) (left right : Box Expr Global)
    → tree_of (variant.Binary s op left right) ≡ written.binary s op (tree_of left.value) (tree_of right.value)
tree_of_binary s op left right = ap tree_of (sym (variant.rolls-Binary s op left right)) ∙ fold-roll-Expr Tree Selection expr_step select_step (Expr-F.Binary s op left right)

pub tree_of_conditional : (s : Site) (test one other : Box Expr Global)
    → tree_of (variant.Conditional s test one other) ≡ written.conditional s (tree_of test.value) (tree_of one.value) (tree_of other.value)
tree_of_conditional s test one other = ap tree_of (sym (variant.rolls-Conditional s test one other)) ∙ fold-roll-Expr Tree Selection expr_step select_step (Expr-F.Conditional s test one other)

pub selection_of_bit : (s : Site) (index : Expr) → selection_of (select_variant.Bit s index) ≡ written.bit s (tree_of index)
selection_of_bit s index = ap selection_of (sym (select_variant.rolls-Bit s index)) ∙ fold-roll-Select Tree Selection expr_step select_step (Select-F.Bit s index)

pub selection_of_part : (s : Site) (kind : PartKind) (one other : Expr) → selection_of (select_variant.Part s kind one other) ≡ written.part s kind (tree_of one) (tree_of other)
selection_of_part s kind one other = ap selection_of (sym (select_variant.rolls-Part s kind one other)) ∙ fold-roll-Select Tree Selection expr_step select_step (Select-F.Part s kind one other)

pub ruleset tree_steps = (tree_of_number, tree_of_wild, tree_of_name, tree_of_parens, tree_of_concat, tree_of_repeat, tree_of_system, tree_of_unary, tree_of_binary, tree_of_conditional)

pub ruleset select_steps = (selection_of_bit, selection_of_part)

-- The plain data of each variant of a statement, and of each form of unrolled steps.
use Rattle.std.proofs.Common.{◌≡◌, List, map, Option, Some, None, sym, ap, ◌∙◌}
use Rattle.std.specs.Prelude.{option_map}
use Rattle.std.specs.Borrow.{Bor}
use Rattle.std.specs.declared.boxed.Box.{Box}
use Rattle.std.specs.declared.vec.Vec.{Vec}
use Rattle.std.specs.declared.alloc.Global.{Global}
use Rattle.v_syntax.specs.declared.site.Site.{Site}
use Rattle.v_syntax.specs.declared.declaration.Delay.{Delay}
use Rattle.v_syntax.specs.declared.declaration.Identifier.{Identifier}
use Rattle.v_syntax.specs.declared.declaration.Left.{Left}
use Rattle.v_syntax.specs.declared.declaration.LoopHead.{LoopHead}
use Rattle.v_syntax.specs.declared.expression.Expr.{Expr}
use Rattle.v_syntax.specs.declared.statement.AssignKind.{AssignKind}
use Rattle.v_syntax.specs.declared.statement.CaseKind.{CaseKind}
use Rattle.v_syntax.specs.declared.statement.CaseItem.{CaseItem}
use Rattle.v_syntax.specs.declared.statement.CaseItem.TheFolds.{fold-roll-Statement, fold-roll-CaseItem}
use Rattle.v_syntax.specs.declared.statement.CaseItem.TheOpen.{Statement-F, CaseItem-F}
use Rattle.v_syntax.specs.declared.statement.CaseItem.TheVariants as item_case
use Rattle.v_syntax.specs.declared.statement.Statement.{Statement}
use Rattle.v_syntax.specs.declared.statement.Statement.TheVariants as written
use Rattle.v_syntax.specs.Tree.{tree_of}
use Rattle.v_syntax.specs.PartTree.{delay_of, left_of}
use Rattle.v_syntax.specs.StatementTree.{PlainStatement, PlainCaseItem, empty, block, delayed, if_then, if_else, choice, loop, assignment, labelled, otherwise, head_of, statements_of, case_items_of, statement_of, case_item_of, statement_step, case_step}
use Rattle.v_sizes.specs.declared.meaning.Const.{Const}
use Rattle.v_hierarchy.specs.declared.steps.Arm.{Arm}
use Rattle.v_hierarchy.specs.declared.steps.Arm.TheFolds.{fold-roll-Arm, fold-roll-Steps, fold_out-Turn}
use Rattle.v_hierarchy.specs.declared.steps.Arm.TheOpen.{Arm-F, Steps-F}
use Rattle.v_hierarchy.specs.declared.steps.Arm.TheVariants as arm_case
use Rattle.v_hierarchy.specs.declared.steps.Steps.{Steps}
use Rattle.v_hierarchy.specs.declared.steps.Steps.TheVariants as steps_case
use Rattle.v_hierarchy.specs.declared.steps.Turn.{Turn}
use Rattle.v_hierarchy.specs.declared.left.Left.{Left as Counts}
use Rattle.v_hierarchy.specs.Names.{Entry}
use Rattle.v_hierarchy.specs.Unrolled as unrolled
use Rattle.v_hierarchy.specs.Views.{PlainArm, PlainTurn, step_list_of, arms_of, turns_of, steps_of, arm_of, turn_of, arm_step, steps_step, turn_step}
use Rattle.v_hierarchy.specs.Views as view
use Rattle.v_loops.specs.Loops.{loop_unrolled}

-- ---- statements as they are written
pub statement_of_empty : (s : Site) → statement_of (written.Empty s) ≡ empty s
statement_of_empty s = ap statement_of (sym (written.rolls-Empty s)) ∙ fold-roll-Statement PlainCaseItem PlainStatement case_step statement_step (Statement-F.Empty s)

pub statement_of_block : (s : Site) (label : Option Identifier) (body : Vec Statement Global) → statement_of (written.Block s label body) ≡ block s label (statements_of (map statement_of body.items))
statement_of_block s label body =
    ap statement_of (sym (written.rolls-Block s label body)) ∙ fold-roll-Statement PlainCaseItem PlainStatement case_step statement_step (Statement-F.Block s label body)

pub statement_of_delayed : (s : Site) (delay : Delay) (body : Box Statement Global) → statement_of (written.Delayed s delay body) ≡ delayed s (delay_of delay) (statement_of body.value)
statement_of_delayed s delay body =
    ap statement_of (sym (written.rolls-Delayed s delay body)) ∙ fold-roll-Statement PlainCaseItem PlainStatement case_step statement_step (Statement-F.Delayed s delay body)

pub statement_of_if : (s : Site) (condition : Expr) (on_true : Box Statement Global) → statement_of (written.If s condition on_true None) ≡ if_then s (tree_of condition) (statement_of on_true.value)
statement_of_if s condition on_true =
    ap statement_of (sym (written.rolls-If s condition on_true None)) ∙ fold-roll-Statement PlainCaseItem PlainStatement case_step statement_step (Statement-F.If s condition on_true None)

pub statement_of_if_else : (s : Site) (condition : Expr) (on_true other : Box Statement Global)
    → statement_of (written.If s condition on_true (Some other)) ≡ if_else s (tree_of condition) (statement_of on_true.value) (statement_of other.value)
statement_of_if_else s condition on_true other =
    ap statement_of (sym (written.rolls-If s condition on_true (Some other)))
    ∙ fold-roll-Statement PlainCaseItem PlainStatement case_step statement_step (Statement-F.If s condition on_true (Some other))

pub statement_of_case : (s : Site) (kind : CaseKind) (subject : Expr) (items : Vec CaseItem Global)
    → statement_of (written.Case s kind subject items) ≡ choice s kind (tree_of subject) (case_items_of (map case_item_of items.items))
statement_of_case s kind subject items =
    ap statement_of (sym (written.rolls-Case s kind subject items)) ∙ fold-roll-Statement PlainCaseItem PlainStatement case_step statement_step (Statement-F.Case s kind subject items)

pub statement_of_for : (s : Site) (head : LoopHead) (body : Box Statement Global) → statement_of (written.For s head body) ≡ loop s (head_of head) (statement_of body.value)
statement_of_for s head body =
    ap statement_of (sym (written.rolls-For s head body)) ∙ fold-roll-Statement PlainCaseItem PlainStatement case_step statement_step (Statement-F.For s head body)

pub statement_of_assign : (s : Site) (target : Left) (kind : AssignKind) (delay : Option Delay) (value : Expr)
    → statement_of (written.Assign s target kind delay value) ≡ assignment s (left_of target) kind (option_map delay_of delay) (tree_of value)
statement_of_assign s target kind delay value =
    ap statement_of (sym (written.rolls-Assign s target kind delay value))
    ∙ fold-roll-Statement PlainCaseItem PlainStatement case_step statement_step (Statement-F.Assign s target kind delay value)

pub case_item_of_labels : (s : Site) (labels : Vec Expr Global) (body : Statement) → case_item_of (item_case.Labels s labels body) ≡ labelled s (map tree_of labels.items) (statement_of body)
case_item_of_labels s labels body =
    ap case_item_of (sym (item_case.rolls-Labels s labels body)) ∙ fold-roll-CaseItem PlainCaseItem PlainStatement case_step statement_step (CaseItem-F.Labels s labels body)

pub case_item_of_default : (s : Site) (body : Statement) → case_item_of (item_case.Default s body) ≡ otherwise s (statement_of body)
case_item_of_default s body =
    ap case_item_of (sym (item_case.rolls-Default s body)) ∙ fold-roll-CaseItem PlainCaseItem PlainStatement case_step statement_step (CaseItem-F.Default s body)

-- ---- what is unrolled
pub steps_of_nothing : steps_of steps_case.Nothing ≡ unrolled.nothing
steps_of_nothing = ap steps_of (sym steps_case.rolls-Nothing) ∙ fold-roll-Steps PlainArm unrolled.Steps PlainTurn arm_step steps_step turn_step Steps-F.Nothing

pub steps_of_still : (s : Bor Statement) → steps_of (steps_case.Still s) ≡ unrolled.still (statement_of s.now)
steps_of_still s = ap steps_of (sym (steps_case.rolls-Still s)) ∙ fold-roll-Steps PlainArm unrolled.Steps PlainTurn arm_step steps_step turn_step (Steps-F.Still s)

pub steps_of_run : (xs : List Steps) → steps_of (steps_case.Run xs) ≡ unrolled.run (step_list_of (map steps_of xs))
steps_of_run xs = ap steps_of (sym (steps_case.rolls-Run xs)) ∙ fold-roll-Steps PlainArm unrolled.Steps PlainTurn arm_step steps_step turn_step (Steps-F.Run xs)

pub steps_of_branch : (condition : Bor Expr) (on_true other : Steps) → steps_of (steps_case.Branch condition on_true other) ≡ unrolled.branch (tree_of condition.now) (steps_of on_true) (steps_of other)
steps_of_branch condition on_true other =
    ap steps_of (sym (steps_case.rolls-Branch condition on_true other)) ∙ fold-roll-Steps PlainArm unrolled.Steps PlainTurn arm_step steps_step turn_step (Steps-F.Branch condition on_true other)

pub steps_of_choose : (kind : CaseKind) (subject : Bor Expr) (arms : List Arm) → steps_of (steps_case.Choose kind subject arms) ≡ unrolled.choose kind (tree_of subject.now) (arms_of (map arm_of arms))
steps_of_choose kind subject arms =
    ap steps_of (sym (steps_case.rolls-Choose kind subject arms)) ∙ fold-roll-Steps PlainArm unrolled.Steps PlainTurn arm_step steps_step turn_step (Steps-F.Choose kind subject arms)

pub steps_of_repeated : (variable : Bor Identifier) (turns : List Turn) → steps_of (steps_case.Repeated variable turns) ≡ unrolled.repeated variable.now (turns_of (map turn_of turns))
steps_of_repeated variable turns =
    ap steps_of (sym (steps_case.rolls-Repeated variable turns)) ∙ fold-roll-Steps PlainArm unrolled.Steps PlainTurn arm_step steps_step turn_step (Steps-F.Repeated variable turns)

pub arm_of_labels : (labels : Bor (Vec Expr Global)) (body : Steps) → arm_of (arm_case.Labels labels body) ≡ view.labelled (map tree_of labels.now.items) (steps_of body)
arm_of_labels labels body =
    ap arm_of (sym (arm_case.rolls-Labels labels body)) ∙ fold-roll-Arm PlainArm unrolled.Steps PlainTurn arm_step steps_step turn_step (Arm-F.Labels labels body)

pub arm_of_default : (body : Steps) → arm_of (arm_case.Default body) ≡ view.otherwise (steps_of body)
arm_of_default body = ap arm_of (sym (arm_case.rolls-Default body)) ∙ fold-roll-Arm PlainArm unrolled.Steps PlainTurn arm_step steps_step turn_step (Arm-F.Default body)

pub turn_of_turn : (value : Const) (body : Steps) → turn_of (record { value = value; body = body }) ≡ record { value = value; body = steps_of body }
turn_of_turn value body = fold_out-Turn PlainArm unrolled.Steps PlainTurn arm_step steps_step turn_step (record { value = value; body = body })

pub unrolled-for : (frames : List (List Entry)) (s : Site) (head : LoopHead) (body : Box Statement Global) (left : Counts)
    → unrolled.unrolled frames (statement_of (written.For s head body)) left ≡ loop_unrolled frames s.span (head_of head) (statement_of body.value) left
unrolled-for frames s head body left = ap (λ x. unrolled.unrolled frames x left) (statement_of_for s head body)

pub ruleset statement_steps = (
  statement_of_empty,
  statement_of_block,
  statement_of_delayed,
  statement_of_if,
  statement_of_if_else,
  statement_of_case,
  unrolled-for,
  statement_of_assign,
  steps_of_nothing,
  steps_of_still,
  steps_of_run,
  steps_of_choose,
)

pub ruleset arm_steps = (case_item_of_labels, case_item_of_default, arm_of_labels, arm_of_default)

pub ruleset made_steps = (steps_of_nothing, steps_of_branch, steps_of_repeated, turn_of_turn)

-- The plain data of each form of unrolled statements.
use Rattle.std.proofs.Common.{◌≡◌, List, map, sym, ap, ◌∙◌}
use Rattle.std.specs.Borrow.{Bor}
use Rattle.std.specs.declared.vec.Vec.{Vec}
use Rattle.std.specs.declared.alloc.Global.{Global}
use Rattle.v_syntax.specs.declared.declaration.Identifier.{Identifier}
use Rattle.v_syntax.specs.declared.expression.Expr.{Expr}
use Rattle.v_syntax.specs.declared.statement.CaseKind.{CaseKind}
use Rattle.v_syntax.specs.declared.statement.Statement.{Statement}
use Rattle.v_syntax.specs.Tree.{tree_of}
use Rattle.v_syntax.specs.StatementTree.{statement_of}
use Rattle.v_hierarchy.specs.declared.steps.Arm.{Arm}
use Rattle.v_hierarchy.specs.declared.steps.Arm.TheFolds.{fold-roll-Arm, fold-roll-Steps, fold_out-Turn}
use Rattle.v_hierarchy.specs.declared.steps.Arm.TheOpen.{Arm-F, Steps-F}
use Rattle.v_hierarchy.specs.declared.steps.Arm.TheVariants as arm_case
use Rattle.v_hierarchy.specs.declared.steps.Steps.{Steps}
use Rattle.v_hierarchy.specs.declared.steps.Steps.TheVariants as steps_case
use Rattle.v_hierarchy.specs.declared.steps.Turn.{Turn}
use Rattle.v_hierarchy.specs.Unrolled as unrolled
use Rattle.v_hierarchy.specs.Views.{PlainArm, PlainTurn, step_list_of, arms_of, turns_of, steps_of, arm_of, turn_of, arm_step, steps_step, turn_step}
use Rattle.v_hierarchy.specs.Views as view

pub steps_of_nothing : steps_of steps_case.Nothing ≡ unrolled.nothing
steps_of_nothing = ap steps_of (sym steps_case.rolls-Nothing) ∙ fold-roll-Steps PlainArm unrolled.Steps PlainTurn arm_step steps_step turn_step Steps-F.Nothing

pub steps_of_still : (s : Bor Statement) → steps_of (steps_case.Still s) ≡ unrolled.still (statement_of s.now)
steps_of_still s = ap steps_of (sym (steps_case.rolls-Still s)) ∙ fold-roll-Steps PlainArm unrolled.Steps PlainTurn arm_step steps_step turn_step (Steps-F.Still s)

pub steps_of_run : (xs : List Steps) → steps_of (steps_case.Run xs) ≡ unrolled.run (step_list_of (map steps_of xs))
steps_of_run xs = ap steps_of (sym (steps_case.rolls-Run xs)) ∙ fold-roll-Steps PlainArm unrolled.Steps PlainTurn arm_step steps_step turn_step (Steps-F.Run xs)

pub steps_of_branch : (condition : Bor Expr) (on_true other : Steps) → steps_of (steps_case.Branch condition on_true other) ≡ unrolled.branch (tree_of condition.now) (steps_of on_true) (steps_of other)
steps_of_branch condition on_true other =
    ap steps_of (sym (steps_case.rolls-Branch condition on_true other)) ∙ fold-roll-Steps PlainArm unrolled.Steps PlainTurn arm_step steps_step turn_step (Steps-F.Branch condition on_true other)

pub steps_of_choose : (kind : CaseKind) (subject : Bor Expr) (arms : List Arm) → steps_of (steps_case.Choose kind subject arms) ≡ unrolled.choose kind (tree_of subject.now) (arms_of (map arm_of arms))
steps_of_choose kind subject arms =
    ap steps_of (sym (steps_case.rolls-Choose kind subject arms)) ∙ fold-roll-Steps PlainArm unrolled.Steps PlainTurn arm_step steps_step turn_step (Steps-F.Choose kind subject arms)

pub steps_of_repeated : (variable : Bor Identifier) (turns : List Turn) → steps_of (steps_case.Repeated variable turns) ≡ unrolled.repeated variable.now (turns_of (map turn_of turns))
steps_of_repeated variable turns =
    ap steps_of (sym (steps_case.rolls-Repeated variable turns)) ∙ fold-roll-Steps PlainArm unrolled.Steps PlainTurn arm_step steps_step turn_step (Steps-F.Repeated variable turns)

pub arm_of_labels : (labels : Bor (Vec Expr Global)) (body : Steps) → arm_of (arm_case.Labels labels body) ≡ view.labelled (map tree_of labels.now.items) (steps_of body)
arm_of_labels labels body =
    ap arm_of (sym (arm_case.rolls-Labels labels body)) ∙ fold-roll-Arm PlainArm unrolled.Steps PlainTurn arm_step steps_step turn_step (Arm-F.Labels labels body)

pub arm_of_default : (body : Steps) → arm_of (arm_case.Default body) ≡ view.otherwise (steps_of body)
arm_of_default body = ap arm_of (sym (arm_case.rolls-Default body)) ∙ fold-roll-Arm PlainArm unrolled.Steps PlainTurn arm_step steps_step turn_step (Arm-F.Default body)

pub turn_of_turn : (t : Turn) → turn_of t ≡ record { value = t.value; body = steps_of t.body }
turn_of_turn t = fold_out-Turn PlainArm unrolled.Steps PlainTurn arm_step steps_step turn_step t

pub ruleset step_views = (
  steps_of_nothing,
  steps_of_still,
  steps_of_run,
  steps_of_branch,
  steps_of_choose,
  steps_of_repeated,
  arm_of_labels,
  arm_of_default,
  turn_of_turn,
)

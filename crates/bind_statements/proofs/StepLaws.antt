-- The condition of a block with two arms, by the forms of unrolled statements.
use Rattle.std.proofs.Common.{◌≡◌, ◌≢◌, ℕ, List, [], ◌∷◌, length, get_or, map, Some, None, refl, sym, ap, ◌∙◌, arith}
use Rattle.std.specs.Borrow.{Bor}
use Rattle.v_syntax.specs.declared.declaration.Identifier.{Identifier}
use Rattle.v_syntax.specs.declared.expression.Expr.{Expr}
use Rattle.v_syntax.specs.declared.statement.CaseKind.{CaseKind}
use Rattle.v_syntax.specs.declared.statement.Statement.{Statement}
use Rattle.v_syntax.specs.Tree.{tree_of}
use Rattle.v_syntax.specs.StatementTree.{statement_of}
use Rattle.v_hierarchy.specs.declared.steps.Arm.{Arm}
use Rattle.v_hierarchy.specs.declared.steps.Arm.TheFolds.{fold-roll-Steps}
use Rattle.v_hierarchy.specs.declared.steps.Arm.TheOpen.{Steps-F}
use Rattle.v_hierarchy.specs.declared.steps.Steps.{Steps}
use Rattle.v_hierarchy.specs.declared.steps.Steps.TheVariants as steps_case
use Rattle.v_hierarchy.specs.declared.steps.Turn.{Turn}
use Rattle.v_hierarchy.specs.Unrolled as unrolled
use Rattle.v_hierarchy.specs.Unrolled.{StepList}
use Rattle.v_hierarchy.specs.Views.{PlainArm, PlainTurn, step_list_of, arms_of, turns_of, steps_of, arm_of, turn_of, arm_step, steps_step, turn_step}
use Rattle.v_binding.specs.Clocks.{condition_of}
use Rattle.bind_statements.specs.Conditions.{condition_here, condition_listed}

-- ---- the forms of statements
steps_of_nothing : steps_of steps_case.Nothing ≡ unrolled.nothing
steps_of_nothing = ap steps_of (sym steps_case.rolls-Nothing) ∙ fold-roll-Steps PlainArm unrolled.Steps PlainTurn arm_step steps_step turn_step Steps-F.Nothing

steps_of_still : (s : Bor Statement) → steps_of (steps_case.Still s) ≡ unrolled.still (statement_of s.now)
steps_of_still s = ap steps_of (sym (steps_case.rolls-Still s)) ∙ fold-roll-Steps PlainArm unrolled.Steps PlainTurn arm_step steps_step turn_step (Steps-F.Still s)

steps_of_run : (xs : List Steps) → steps_of (steps_case.Run xs) ≡ unrolled.run (step_list_of (map steps_of xs))
steps_of_run xs = ap steps_of (sym (steps_case.rolls-Run xs)) ∙ fold-roll-Steps PlainArm unrolled.Steps PlainTurn arm_step steps_step turn_step (Steps-F.Run xs)

steps_of_branch : (condition : Bor Expr) (on_true other : Steps) → steps_of (steps_case.Branch condition on_true other) ≡ unrolled.branch (tree_of condition.now) (steps_of on_true) (steps_of other)
steps_of_branch condition on_true other =
    ap steps_of (sym (steps_case.rolls-Branch condition on_true other)) ∙ fold-roll-Steps PlainArm unrolled.Steps PlainTurn arm_step steps_step turn_step (Steps-F.Branch condition on_true other)

steps_of_choose : (kind : CaseKind) (subject : Bor Expr) (arms : List Arm) → steps_of (steps_case.Choose kind subject arms) ≡ unrolled.choose kind (tree_of subject.now) (arms_of (map arm_of arms))
steps_of_choose kind subject arms =
    ap steps_of (sym (steps_case.rolls-Choose kind subject arms)) ∙ fold-roll-Steps PlainArm unrolled.Steps PlainTurn arm_step steps_step turn_step (Steps-F.Choose kind subject arms)

steps_of_repeated : (variable : Bor Identifier) (turns : List Turn) → steps_of (steps_case.Repeated variable turns) ≡ unrolled.repeated variable.now (turns_of (map turn_of turns))
steps_of_repeated variable turns =
    ap steps_of (sym (steps_case.rolls-Repeated variable turns)) ∙ fold-roll-Steps PlainArm unrolled.Steps PlainTurn arm_step steps_step turn_step (Steps-F.Repeated variable turns)

-- ---- a statement by itself
pub here-nothing : condition_here (steps_of steps_case.Nothing) ≡ None
here-nothing = ap condition_here steps_of_nothing

pub here-still : (s : Bor Statement) → condition_here (steps_of (steps_case.Still s)) ≡ None
here-still s = ap condition_here (steps_of_still s)

pub here-run : (xs : List Steps) → condition_here (steps_of (steps_case.Run xs)) ≡ None
here-run xs = ap condition_here (steps_of_run xs)

pub here-branch : (condition : Bor Expr) (on_true other : Steps) → condition_here (steps_of (steps_case.Branch condition on_true other)) ≡ Some (tree_of condition.now)
here-branch condition on_true other = ap condition_here (steps_of_branch condition on_true other)

pub here-choose : (kind : CaseKind) (subject : Bor Expr) (arms : List Arm) → condition_here (steps_of (steps_case.Choose kind subject arms)) ≡ None
here-choose kind subject arms = ap condition_here (steps_of_choose kind subject arms)

pub here-repeated : (variable : Bor Identifier) (turns : List Turn) → condition_here (steps_of (steps_case.Repeated variable turns)) ≡ None
here-repeated variable turns = ap condition_here (steps_of_repeated variable turns)

pub ruleset here_views = (here-nothing, here-still, here-run, here-branch, here-choose, here-repeated)

-- ---- the one statement of a block
pub listed-alone : (xs : List Steps) (x : Steps) → length xs ≡ 1 → x ≡ get_or xs 0 x → condition_listed (map steps_of xs) ≡ condition_here (steps_of x)
listed-alone [] x one is = absurd (omega (arith, one))
listed-alone (y ∷ []) x one is = ap (λ s. condition_here (steps_of s)) (sym is)
listed-alone (y ∷ z ∷ xs) x one is = absurd (omega (arith, one))

pub listed-others : (xs : List Steps) → length xs ≢ 1 → condition_listed (map steps_of xs) ≡ None
listed-others [] other = refl
listed-others (y ∷ []) other = absurd (other refl)
listed-others (y ∷ z ∷ xs) other = refl

pub ruleset listed = (listed-alone, listed-others)

one-alone : (s : unrolled.Steps) → condition_of (unrolled.run (unrolled.step s unrolled.no_step)) ≡ condition_here s
one-alone unrolled.nothing = refl
one-alone (unrolled.still _) = refl
one-alone (unrolled.run _) = refl
one-alone (unrolled.branch _ _ _) = refl
one-alone (unrolled.choose _ _ _) = refl
one-alone (unrolled.repeated _ _) = refl

one-more : (s t : unrolled.Steps) (rest : StepList) → condition_of (unrolled.run (unrolled.step s (unrolled.step t rest))) ≡ None
one-more unrolled.nothing t rest = refl
one-more (unrolled.still _) t rest = refl
one-more (unrolled.run _) t rest = refl
one-more (unrolled.branch _ _ _) t rest = refl
one-more (unrolled.choose _ _ _) t rest = refl
one-more (unrolled.repeated _ _) t rest = refl

all-listed : (xs : List unrolled.Steps) → condition_of (unrolled.run (step_list_of xs)) ≡ condition_listed xs
all-listed [] = refl
all-listed (s ∷ []) = one-alone s
all-listed (s ∷ t ∷ rest) = one-more s t (step_list_of rest)

-- ---- a block
pub of-run : (xs : List Steps) → condition_of (steps_of (steps_case.Run xs)) ≡ condition_listed (map steps_of xs)
of-run xs = ap condition_of (steps_of_run xs) ∙ all-listed (map steps_of xs)

pub of-nothing : condition_of (steps_of steps_case.Nothing) ≡ condition_here (steps_of steps_case.Nothing)
of-nothing = ap condition_of steps_of_nothing ∙ sym here-nothing

pub of-still : (s : Bor Statement) → condition_of (steps_of (steps_case.Still s)) ≡ condition_here (steps_of (steps_case.Still s))
of-still s = ap condition_of (steps_of_still s) ∙ sym (here-still s)

pub of-branch : (condition : Bor Expr) (on_true other : Steps)
    → condition_of (steps_of (steps_case.Branch condition on_true other)) ≡ condition_here (steps_of (steps_case.Branch condition on_true other))
of-branch condition on_true other = ap condition_of (steps_of_branch condition on_true other) ∙ sym (here-branch condition on_true other)

pub of-choose : (kind : CaseKind) (subject : Bor Expr) (arms : List Arm)
    → condition_of (steps_of (steps_case.Choose kind subject arms)) ≡ condition_here (steps_of (steps_case.Choose kind subject arms))
of-choose kind subject arms = ap condition_of (steps_of_choose kind subject arms) ∙ sym (here-choose kind subject arms)

pub of-repeated : (variable : Bor Identifier) (turns : List Turn)
    → condition_of (steps_of (steps_case.Repeated variable turns)) ≡ condition_here (steps_of (steps_case.Repeated variable turns))
of-repeated variable turns = ap condition_of (steps_of_repeated variable turns) ∙ sym (here-repeated variable turns)

pub ruleset condition_views = (of-run, of-nothing, of-still, of-branch, of-choose, of-repeated)

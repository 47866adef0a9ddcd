-- Loops: their variable has 32 bits at each turn.
use Rattle.std.proofs.Common.{◌≡◌, Bool, true, List}
use Rattle.std.specs.Prelude.{Result, Ok}
use Rattle.loc_base.specs.declared.span.Span.{Span}
use Rattle.loc_base.specs.Bits.{width_of}
use Rattle.v_syntax.specs.declared.declaration.Identifier.{Identifier}
use Rattle.v_syntax.specs.Tree.{Tree}
use Rattle.v_syntax.specs.StatementTree.{PlainHead, PlainStatement, empty, block, delayed, if_then, if_else, choice, loop, assignment, Statements, no_statement, statement, labelled, otherwise, CaseItems, no_item, item}
use Rattle.v_sizes.specs.declared.meaning.Const.{Const}
use Rattle.v_hierarchy.specs.declared.error.ElabErr.{ElabErr}
use Rattle.v_hierarchy.specs.declared.left.Left.{Left}
use Rattle.v_hierarchy.specs.Steps.{◌>>=◌, turned}
use Rattle.v_hierarchy.specs.Constants.{constant_at}
use Rattle.v_hierarchy.specs.Names.{Entry, look_in}
use Rattle.v_hierarchy.specs.Unrolled.{Steps, nothing, still, run, branch, choose, repeated, StepList, no_step, step, Arms, no_arm, arm, default_arm, Turns, no_turn, turn, Looped, and_turn, at_turn, counted, counted_at, holds_at, steps_itself, loop_turned, loop_turn, loop_variable, begun, stepped, turns, most_turns, unrolled, unrolled_all, unrolled_arms}
use Rattle.v_hierarchy.proofs.AssignedLaws.{counted_width}
use Rattle.v_binding.specs.Turns.{FitTurns, AllFit, ArmsFit, TurnsFit}
use Rattle.bind_laws.proofs.Steps.{between, ended, turns-keep}

abbrev pub Has32 : Const → Type 0
Has32 value = width_of value.bits ≡ 32

-- ---- the values of a loop's variable
counted_at-has : (frames : List (List Entry)) (e : Tree) (c : Const) → counted_at frames e ≡ Ok c → Has32 c
counted_at-has frames e c is =
    between (constant_at (look_in frames) 32 e) (λ c. Ok (counted c)) c (Has32 c) is λ own _ is. ended Has32 (counted own) c is (counted_width true own)

pub begun-has : (frames : List (List Entry)) (head : PlainHead) (first : Const × Bool) → begun frames head ≡ Ok first → Has32 first.0
begun-has frames head first is =
    between (counted_at frames head.start) _ first (Has32 first.0) is λ value one is.
    between (holds_at (at_turn head.variable value frames) head.condition) _ first (Has32 first.0) is λ runs _ is.
    between (steps_itself head) (λ _. Ok (value, runs)) first (Has32 first.0) is λ _ _ is.
    ended (λ (x : Const × Bool). Has32 x.0) (value, runs) first is (counted_at-has frames head.start value one)

pub stepped-has : (frames : List (List Entry)) (head : PlainHead) (value : Const) (following : Const × Bool) → stepped frames head value ≡ Ok following → Has32 following.0
stepped-has frames head value following is =
    between (counted_at (at_turn head.variable value frames) head.step) _ following (Has32 following.0) is λ next one is.
    between (holds_at (at_turn head.variable next frames) head.condition) (λ runs. Ok (next, runs)) following (Has32 following.0) is λ runs _ is.
    ended (λ (x : Const × Bool). Has32 x.0) (next, runs) following is (counted_at-has (at_turn head.variable value frames) head.step next one)

-- ---- statements
and_turn-fits : (ts : Turns) (value : Const) (body : Steps) → TurnsFit ts → Has32 value → FitTurns body → TurnsFit (and_turn ts value body)
and_turn-fits no_turn value body all one fits = (one, fits, tt)
and_turn-fits (turn v b rest) value body all one fits = (all.0, all.1, and_turn-fits rest value body all.2 one fits)

abbrev LoopFits : Looped → Type 0
LoopFits x = TurnsFit x.met

loop_turned-fits : (span : Span) (m n : Looped) → LoopFits m → loop_turned span m ≡ Ok n → LoopFits n
loop_turned-fits span m n fits is =
    between (turned span m.left) _ n (LoopFits n) is λ left _ is. ended LoopFits (record { met = m.met; left = left }) n is fits

loop_turn-fits : (body : List (List Entry) → Left → Result (Steps × Left) ElabErr)
    → ((scopes : List (List Entry)) (l : Left) (x : Steps × Left) → body scopes l ≡ Ok x → FitTurns x.0)
    → (frames : List (List Entry)) (variable : Identifier) (value : Const) (m n : Looped) → Has32 value → LoopFits m
    → loop_turn body frames variable value m ≡ Ok n → LoopFits n
loop_turn-fits body fits frames variable value m n one all is =
    between (body (at_turn variable value frames) m.left) _ n (LoopFits n) is λ x first is.
    ended LoopFits (record { met = and_turn m.met value x.0; left = x.1 }) n is
    (and_turn-fits m.met value x.0 all one (fits (at_turn variable value frames) m.left x first))

-- a loop from its first value on
abbrev pub loop_end : Span → PlainHead → (List (List Entry) → Left → Result (Steps × Left) ElabErr) → List (List Entry) → Left → Const × Bool → Result (Steps × Left) ElabErr
loop_end span head body frames left first =
    turns most_turns span (loop_turned span) (loop_turn body frames head.variable) (stepped frames head) first (record { met = no_turn; left = left }) >>= λ x.
    Ok (repeated head.variable x.met, x.left)

loop-fits : (span : Span) (head : PlainHead) (body : List (List Entry) → Left → Result (Steps × Left) ElabErr) (frames : List (List Entry))
    → ((scopes : List (List Entry)) (l : Left) (x : Steps × Left) → body scopes l ≡ Ok x → FitTurns x.0)
    → (left : Left) (first : Const × Bool) (x : Steps × Left) → Has32 first.0 → loop_end span head body frames left first ≡ Ok x → FitTurns x.0
loop-fits span head body frames fits left first x one is =
    between (turns most_turns span (loop_turned span) (loop_turn body frames head.variable) (stepped frames head) first (record { met = no_turn; left = left }))
    (λ y. Ok (repeated head.variable y.met, y.left)) x (FitTurns x.0) is λ y met is.
    ended (λ (z : Steps × Left). FitTurns z.0) (repeated head.variable y.met, y.left) x is
    (turns-keep LoopFits Has32 span (loop_turned span) (loop_turn body frames head.variable) (stepped frames head) (loop_turned-fits span)
    (λ value m n one all is. loop_turn-fits body fits frames head.variable value m n one all is)
    (λ value following _ is. stepped-has frames head value following is)
    most_turns first.0 first.1 (record { met = no_turn; left = left }) y one tt met)

mutual
  pub unrolled-fits : (frames : List (List Entry)) (s : PlainStatement) (left : Left) (x : Steps × Left) → unrolled frames s left ≡ Ok x → FitTurns x.0
  unrolled-fits frames (empty _) left x is = ended (λ (z : Steps × Left). FitTurns z.0) (nothing, left) x is tt
  unrolled-fits frames (block _ _ body) left x is =
      between (unrolled_all frames body left) _ x (FitTurns x.0) is λ y first is.
      ended (λ (z : Steps × Left). FitTurns z.0) (run y.0, y.1) x is (all-fit frames body left y first)
  unrolled-fits frames (delayed _ _ body) left x is = unrolled-fits frames body left x is
  unrolled-fits frames (if_then _ condition on_true) left x is =
      between (unrolled frames on_true left) _ x (FitTurns x.0) is λ y first is.
      ended (λ (z : Steps × Left). FitTurns z.0) (branch condition y.0 nothing, y.1) x is (unrolled-fits frames on_true left y first, tt)
  unrolled-fits frames (if_else _ condition on_true other) left x is =
      between (unrolled frames on_true left) _ x (FitTurns x.0) is λ y first is.
      between (unrolled frames other y.1) _ x (FitTurns x.0) is λ z second is.
      ended (λ (z : Steps × Left). FitTurns z.0) (branch condition y.0 z.0, z.1) x is (unrolled-fits frames on_true left y first, unrolled-fits frames other y.1 z second)
  unrolled-fits frames (choice _ kind subject items) left x is =
      between (unrolled_arms frames items left) _ x (FitTurns x.0) is λ y first is.
      ended (λ (z : Steps × Left). FitTurns z.0) (choose kind subject y.0, y.1) x is (arms-fit frames items left y first)
  unrolled-fits frames (loop s head body) left x is =
      between (loop_variable frames head.variable) _ x (FitTurns x.0) is λ _ _ is.
      between (begun frames head) (loop_end s.span head (λ scopes. unrolled scopes body) frames left) x (FitTurns x.0) is λ first one is.
      loop-fits s.span head (λ scopes. unrolled scopes body) frames (λ scopes l y e. unrolled-fits scopes body l y e) left first x (begun-has frames head first one) is
  unrolled-fits frames (assignment s target kind delay value) left x is =
      ended (λ (z : Steps × Left). FitTurns z.0) (still (assignment s target kind delay value), left) x is tt

  pub all-fit : (frames : List (List Entry)) (ss : Statements) (left : Left) (x : StepList × Left) → unrolled_all frames ss left ≡ Ok x → AllFit x.0
  all-fit frames no_statement left x is = ended (λ (z : StepList × Left). AllFit z.0) (no_step, left) x is tt
  all-fit frames (statement s ss) left x is =
      between (unrolled frames s left) _ x (AllFit x.0) is λ y first is.
      between (unrolled_all frames ss y.1) _ x (AllFit x.0) is λ ys second is.
      ended (λ (z : StepList × Left). AllFit z.0) (step y.0 ys.0, ys.1) x is (unrolled-fits frames s left y first, all-fit frames ss y.1 ys second)

  pub arms-fit : (frames : List (List Entry)) (items : CaseItems) (left : Left) (x : Arms × Left) → unrolled_arms frames items left ≡ Ok x → ArmsFit x.0
  arms-fit frames no_item left x is = ended (λ (z : Arms × Left). ArmsFit z.0) (no_arm, left) x is tt
  arms-fit frames (item (labelled _ labels body) rest) left x is =
      between (unrolled frames body left) _ x (ArmsFit x.0) is λ y first is.
      between (unrolled_arms frames rest y.1) _ x (ArmsFit x.0) is λ ys second is.
      ended (λ (z : Arms × Left). ArmsFit z.0) (arm labels y.0 ys.0, ys.1) x is (unrolled-fits frames body left y first, arms-fit frames rest y.1 ys second)
  arms-fit frames (item (otherwise _ body) rest) left x is =
      between (unrolled frames body left) _ x (ArmsFit x.0) is λ y first is.
      between (unrolled_arms frames rest y.1) _ x (ArmsFit x.0) is λ ys second is.
      ended (λ (z : Arms × Left). ArmsFit z.0) (default_arm y.0 ys.0, ys.1) x is (unrolled-fits frames body left y first, arms-fit frames rest y.1 ys second)

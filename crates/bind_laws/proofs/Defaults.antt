-- A case has one default at most, unrolled as written.
use Rattle.std.proofs.Common.{◌≡◌, Bool, true, false, List}
use Rattle.std.specs.Prelude.{⊤, Result, Ok}
use Rattle.loc_base.specs.declared.span.Span.{Span}
use Rattle.v_syntax.specs.declared.declaration.Identifier.{Identifier}
use Rattle.v_syntax.specs.StatementTree.{PlainHead, PlainStatement, empty, block, delayed, if_then, if_else, choice, loop, assignment, Statements, no_statement, statement, labelled, otherwise, CaseItems, no_item, item}
use Rattle.v_sizes.specs.declared.meaning.Const.{Const}
use Rattle.v_hierarchy.specs.declared.error.ElabErr.{ElabErr}
use Rattle.v_hierarchy.specs.declared.left.Left.{Left}
use Rattle.v_hierarchy.specs.Steps.{turned}
use Rattle.v_hierarchy.specs.Names.{Entry}
use Rattle.v_hierarchy.specs.Unrolled.{Steps, nothing, still, run, branch, choose, repeated, StepList, no_step, step, Arms, no_arm, arm, default_arm, Turns, no_turn, turn, Looped, and_turn, at_turn, loop_turned, loop_turn, loop_variable, begun, stepped, turns, most_turns, unrolled, unrolled_all, unrolled_arms}
use Rattle.bind_laws.specs.OfText.{OneDefault, AllOneDefault, ArmsOneDefault, TurnsOneDefault}
use Rattle.bind_laws.specs.Written.{WrittenStatement, WrittenStatements, WrittenArms}
use Rattle.bind_laws.proofs.Steps.{between, ended, turns-keep}
use Rattle.bind_laws.proofs.Loops.{loop_end}

and_turn-one : (ts : Turns) (value : Const) (body : Steps) → TurnsOneDefault ts → OneDefault body → TurnsOneDefault (and_turn ts value body)
and_turn-one no_turn value body all one = (one, tt)
and_turn-one (turn v b rest) value body all one = (all.0, and_turn-one rest value body all.1 one)

abbrev LoopOne : Looped → Type 0
LoopOne x = TurnsOneDefault x.met

loop_turned-one : (span : Span) (m n : Looped) → LoopOne m → loop_turned span m ≡ Ok n → LoopOne n
loop_turned-one span m n one is =
    between (turned span m.left) _ n (LoopOne n) is λ left _ is. ended LoopOne (record { met = m.met; left = left }) n is one

-- what a body becomes in any scopes
abbrev pub IsOne : (List (List Entry) → Left → Result (Steps × Left) ElabErr) → Type 0
IsOne body = (scopes : List (List Entry)) (l : Left) (x : Steps × Left) → body scopes l ≡ Ok x → OneDefault x.0

loop_turn-one : (body : List (List Entry) → Left → Result (Steps × Left) ElabErr) → IsOne body → (frames : List (List Entry)) (variable : Identifier) (value : Const)
    (m n : Looped) → LoopOne m → loop_turn body frames variable value m ≡ Ok n → LoopOne n
loop_turn-one body one frames variable value m n all is =
    between (body (at_turn variable value frames) m.left) _ n (LoopOne n) is λ x first is.
    ended LoopOne (record { met = and_turn m.met value x.0; left = x.1 }) n is
    (and_turn-one m.met value x.0 all (one (at_turn variable value frames) m.left x first))

loop-one : (span : Span) (head : PlainHead) (body : List (List Entry) → Left → Result (Steps × Left) ElabErr) (frames : List (List Entry)) → IsOne body
    → (left : Left) (first : Const × Bool) (x : Steps × Left) → loop_end span head body frames left first ≡ Ok x → OneDefault x.0
loop-one span head body frames one left first x is =
    between (turns most_turns span (loop_turned span) (loop_turn body frames head.variable) (stepped frames head) first (record { met = no_turn; left = left }))
    (λ y. Ok (repeated head.variable y.met, y.left)) x (OneDefault x.0) is λ y met is.
    ended (λ (z : Steps × Left). OneDefault z.0) (repeated head.variable y.met, y.left) x is
    (turns-keep LoopOne (λ _. ⊤) span (loop_turned span) (loop_turn body frames head.variable) (stepped frames head) (loop_turned-one span)
    (λ value m n _ all is. loop_turn-one body one frames head.variable value m n all is)
    (λ value following _ is. tt)
    most_turns first.0 first.1 (record { met = no_turn; left = left }) y tt tt met)

mutual
  pub unrolled-one : (frames : List (List Entry)) (s : PlainStatement) (left : Left) (x : Steps × Left) → WrittenStatement s → unrolled frames s left ≡ Ok x → OneDefault x.0
  unrolled-one frames (empty _) left x as_written is = ended (λ (z : Steps × Left). OneDefault z.0) (nothing, left) x is tt
  unrolled-one frames (block _ _ body) left x as_written is =
      between (unrolled_all frames body left) _ x (OneDefault x.0) is λ y first is.
      ended (λ (z : Steps × Left). OneDefault z.0) (run y.0, y.1) x is (all-one frames body left y as_written first)
  unrolled-one frames (delayed _ _ body) left x as_written is = unrolled-one frames body left x as_written is
  unrolled-one frames (if_then _ condition on_true) left x as_written is =
      between (unrolled frames on_true left) _ x (OneDefault x.0) is λ y first is.
      ended (λ (z : Steps × Left). OneDefault z.0) (branch condition y.0 nothing, y.1) x is (unrolled-one frames on_true left y as_written first, tt)
  unrolled-one frames (if_else _ condition on_true other) left x as_written is =
      between (unrolled frames on_true left) _ x (OneDefault x.0) is λ y first is.
      between (unrolled frames other y.1) _ x (OneDefault x.0) is λ z second is.
      ended (λ (z : Steps × Left). OneDefault z.0) (branch condition y.0 z.0, z.1) x is
      (unrolled-one frames on_true left y as_written.0 first, unrolled-one frames other y.1 z as_written.1 second)
  unrolled-one frames (choice _ kind subject items) left x as_written is =
      between (unrolled_arms frames items left) _ x (OneDefault x.0) is λ y first is.
      ended (λ (z : Steps × Left). OneDefault z.0) (choose kind subject y.0, y.1) x is (arms-one false frames items left y as_written first)
  unrolled-one frames (loop s head body) left x as_written is =
      between (loop_variable frames head.variable) _ x (OneDefault x.0) is λ _ _ is.
      between (begun frames head) (loop_end s.span head (λ scopes. unrolled scopes body) frames left) x (OneDefault x.0) is λ first _ is.
      loop-one s.span head (λ scopes. unrolled scopes body) frames (λ scopes l y e. unrolled-one scopes body l y as_written e) left first x is
  unrolled-one frames (assignment s target kind delay value) left x as_written is =
      ended (λ (z : Steps × Left). OneDefault z.0) (still (assignment s target kind delay value), left) x is tt

  pub all-one : (frames : List (List Entry)) (ss : Statements) (left : Left) (x : StepList × Left) → WrittenStatements ss → unrolled_all frames ss left ≡ Ok x → AllOneDefault x.0
  all-one frames no_statement left x as_written is = ended (λ (z : StepList × Left). AllOneDefault z.0) (no_step, left) x is tt
  all-one frames (statement s ss) left x as_written is =
      between (unrolled frames s left) _ x (AllOneDefault x.0) is λ y first is.
      between (unrolled_all frames ss y.1) _ x (AllOneDefault x.0) is λ ys second is.
      ended (λ (z : StepList × Left). AllOneDefault z.0) (step y.0 ys.0, ys.1) x is
      (unrolled-one frames s left y as_written.0 first, all-one frames ss y.1 ys as_written.1 second)

  pub arms-one : (had : Bool) (frames : List (List Entry)) (items : CaseItems) (left : Left) (x : Arms × Left) → WrittenArms had items → unrolled_arms frames items left ≡ Ok x
      → ArmsOneDefault had x.0
  arms-one had frames no_item left x as_written is = ended (λ (z : Arms × Left). ArmsOneDefault had z.0) (no_arm, left) x is tt
  arms-one had frames (item (labelled _ labels body) rest) left x as_written is =
      between (unrolled frames body left) _ x (ArmsOneDefault had x.0) is λ y first is.
      between (unrolled_arms frames rest y.1) _ x (ArmsOneDefault had x.0) is λ ys second is.
      ended (λ (z : Arms × Left). ArmsOneDefault had z.0) (arm labels y.0 ys.0, ys.1) x is
      (unrolled-one frames body left y as_written.0 first, arms-one had frames rest y.1 ys as_written.1 second)
  arms-one had frames (item (otherwise _ body) rest) left x as_written is =
      between (unrolled frames body left) _ x (ArmsOneDefault had x.0) is λ y first is.
      between (unrolled_arms frames rest y.1) _ x (ArmsOneDefault had x.0) is λ ys second is.
      ended (λ (z : Arms × Left). ArmsOneDefault had z.0) (default_arm y.0 ys.0, ys.1) x is
      (as_written.0, unrolled-one frames body left y as_written.1 first, arms-one true frames rest y.1 ys as_written.2 second)

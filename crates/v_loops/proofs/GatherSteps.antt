-- Steps of the loops over statements, arms and turns: what is gathered so far stands before what the rest gives.
use Rattle.std.proofs.Common.{◌≡◌, ℕ, zero, suc, ◌+◌, ◌-◌, ◌<◌, ◌≤◌, Bool, true, false, List, [], ◌∷◌, ◌++◌, length, map, drop, refl, sym, ap, ◌∙◌, arith, subst}
use Rattle.std.specs.Prelude.{Result, Ok, Err}
use Rattle.loc_base.specs.declared.span.Span.{Span}
use Rattle.v_syntax.specs.Tree.{Tree}
use Rattle.v_syntax.specs.StatementTree.{PlainHead, PlainStatement, PlainCaseItem, labelled, otherwise, Statements, no_statement, statement, CaseItems, no_item, item}
use Rattle.v_sizes.specs.declared.meaning.Const.{Const}
use Rattle.v_hierarchy.specs.declared.error.ElabErr.{ElabErr}
use Rattle.v_hierarchy.specs.declared.error.ElabErr.TheVariants as fault
use Rattle.v_hierarchy.specs.declared.left.Left.{Left}
use Rattle.v_hierarchy.specs.Steps.{◌>>=◌, turned}
use Rattle.v_hierarchy.specs.Names.{Entry}
use Rattle.v_hierarchy.specs.Unrolled.{Steps, StepList, no_step, step, Arms, no_arm, arm, default_arm, Turns, no_turn, turn, and_turn, Looped, at_turn, loop_turned, loop_turn, stepped, turns, most_turns, unrolled, unrolled_all, unrolled_arms}
use Rattle.v_hierarchy.specs.Views.{PlainArm, PlainTurn, step_list_of, arms_of, turns_of}
use Rattle.v_hierarchy.specs.Views as view
use Rattle.v_loops.specs.Loops.{loop_arm, one_turn, loop_turns}

-- ---- statements
abbrev pub steps_before : List Steps → StepList → StepList
steps_before [] ys = ys
steps_before (x ∷ xs) ys = step x (steps_before xs ys)

abbrev pub steps_so_far : List Steps → Result (StepList × Left) ElabErr → Result (StepList × Left) ElabErr
steps_so_far done r = r >>= λ y. Ok (steps_before done y.0, y.1)

pub steps-none : (r : Result (StepList × Left) ElabErr) → steps_so_far [] r ≡ r
steps-none (Ok y) = refl
steps-none (Err e) = refl

steps_before-push : (done : List Steps) (s : Steps) (ys : StepList) → steps_before done (step s ys) ≡ steps_before (done ++ s ∷ []) ys
steps_before-push [] s ys = refl
steps_before-push (x ∷ xs) s ys = ap (step x) (steps_before-push xs s ys)

steps_before-end : (done : List Steps) → steps_before done no_step ≡ step_list_of done
steps_before-end [] = refl
steps_before-end (x ∷ xs) = ap (step x) (steps_before-end xs)

pub steps-end : (done : List Steps) (left : Left) → steps_so_far done (Ok (no_step, left)) ≡ Ok (step_list_of done, left)
steps-end done left = ap (λ ys. Ok (ys, left)) (steps_before-end done)

pub steps-next : (frames : List (List Entry)) (x : PlainStatement) (xs : Statements) (done : List Steps) (s : Steps) (left after : Left)
    → unrolled frames x left ≡ Ok (s, after)
    → steps_so_far done (unrolled_all frames (statement x xs) left) ≡ steps_so_far (done ++ s ∷ []) (unrolled_all frames xs after)
steps-next frames x xs done s left after is =
    ap (λ (r : Result (Steps × Left) ElabErr). steps_so_far done (r >>= λ y. unrolled_all frames xs y.1 >>= λ ys. Ok (step y.0 ys.0, ys.1))) is
    ∙ go (unrolled_all frames xs after)
  where
    go : (r : Result (StepList × Left) ElabErr) → steps_so_far done (r >>= λ ys. Ok (step s ys.0, ys.1)) ≡ steps_so_far (done ++ s ∷ []) r
    go (Ok ys) = ap (λ y. Ok (y, ys.1)) (steps_before-push done s ys.0)
    go (Err e) = refl

pub steps-refused : (frames : List (List Entry)) (x : PlainStatement) (xs : Statements) (done : List Steps) (left : Left) (e : ElabErr)
    → unrolled frames x left ≡ Err e → steps_so_far done (unrolled_all frames (statement x xs) left) ≡ Err e
steps-refused frames x xs done left e is =
    ap (λ (r : Result (Steps × Left) ElabErr). steps_so_far done (r >>= λ y. unrolled_all frames xs y.1 >>= λ ys. Ok (step y.0 ys.0, ys.1))) is

-- ---- arms of a case
abbrev pub and_arm : PlainArm → Arms → Arms
and_arm (view.labelled labels body) ys = arm labels body ys
and_arm (view.otherwise body) ys = default_arm body ys

abbrev pub arms_before : List PlainArm → Arms → Arms
arms_before [] ys = ys
arms_before (x ∷ xs) ys = and_arm x (arms_before xs ys)

abbrev pub arms_so_far : List PlainArm → Result (Arms × Left) ElabErr → Result (Arms × Left) ElabErr
arms_so_far done r = r >>= λ y. Ok (arms_before done y.0, y.1)

pub arms-none : (r : Result (Arms × Left) ElabErr) → arms_so_far [] r ≡ r
arms-none (Ok y) = refl
arms-none (Err e) = refl

arms_before-push : (done : List PlainArm) (a : PlainArm) (ys : Arms) → arms_before done (and_arm a ys) ≡ arms_before (done ++ a ∷ []) ys
arms_before-push [] a ys = refl
arms_before-push (x ∷ xs) a ys = ap (and_arm x) (arms_before-push xs a ys)

arms_before-end : (done : List PlainArm) → arms_before done no_arm ≡ arms_of done
arms_before-end [] = refl
arms_before-end (view.labelled labels body ∷ xs) = ap (arm labels body) (arms_before-end xs)
arms_before-end (view.otherwise body ∷ xs) = ap (default_arm body) (arms_before-end xs)

pub arms-end : (done : List PlainArm) (left : Left) → arms_so_far done (Ok (no_arm, left)) ≡ Ok (arms_of done, left)
arms-end done left = ap (λ ys. Ok (ys, left)) (arms_before-end done)

abbrev labelled_from : List Tree → Result (Steps × Left) ElabErr → Result (PlainArm × Left) ElabErr
labelled_from labels r = r >>= λ x. Ok (view.labelled labels x.0, x.1)

abbrev otherwise_from : Result (Steps × Left) ElabErr → Result (PlainArm × Left) ElabErr
otherwise_from r = r >>= λ x. Ok (view.otherwise x.0, x.1)

-- an item and the rest
arms_from : List (List Entry) → CaseItems → List PlainArm → Result (PlainArm × Left) ElabErr → Result (Arms × Left) ElabErr
arms_from frames xs done r = arms_so_far done (r >>= λ y. unrolled_arms frames xs y.1 >>= λ ys. Ok (and_arm y.0 ys.0, ys.1))

arms-from : (frames : List (List Entry)) (x : PlainCaseItem) (xs : CaseItems) (done : List PlainArm) (left : Left)
    → arms_so_far done (unrolled_arms frames (item x xs) left) ≡ arms_from frames xs done (loop_arm frames x left)
unfolding arms_from
arms-from frames (labelled s labels body) xs done left = go (unrolled frames body left)
  where
    go : (r : Result (Steps × Left) ElabErr) → arms_so_far done (r >>= λ x. unrolled_arms frames xs x.1 >>= λ ys. Ok (arm labels x.0 ys.0, ys.1))
        ≡ arms_from frames xs done (labelled_from labels r)
    go (Ok x) = refl
    go (Err e) = refl
arms-from frames (otherwise s body) xs done left = go (unrolled frames body left)
  where
    go : (r : Result (Steps × Left) ElabErr) → arms_so_far done (r >>= λ x. unrolled_arms frames xs x.1 >>= λ ys. Ok (default_arm x.0 ys.0, ys.1))
        ≡ arms_from frames xs done (otherwise_from r)
    go (Ok x) = refl
    go (Err e) = refl

pub arms-next : (frames : List (List Entry)) (x : PlainCaseItem) (xs : CaseItems) (done : List PlainArm) (a : PlainArm) (left after : Left)
    → loop_arm frames x left ≡ Ok (a, after)
    → arms_so_far done (unrolled_arms frames (item x xs) left) ≡ arms_so_far (done ++ a ∷ []) (unrolled_arms frames xs after)
unfolding arms_from
arms-next frames x xs done a left after is = arms-from frames x xs done left ∙ ap (arms_from frames xs done) is ∙ go (unrolled_arms frames xs after)
  where
    go : (r : Result (Arms × Left) ElabErr) → arms_so_far done (r >>= λ ys. Ok (and_arm a ys.0, ys.1)) ≡ arms_so_far (done ++ a ∷ []) r
    go (Ok ys) = ap (λ y. Ok (y, ys.1)) (arms_before-push done a ys.0)
    go (Err e) = refl

pub arms-refused : (frames : List (List Entry)) (x : PlainCaseItem) (xs : CaseItems) (done : List PlainArm) (left : Left) (e : ElabErr)
    → loop_arm frames x left ≡ Err e → arms_so_far done (unrolled_arms frames (item x xs) left) ≡ Err e
unfolding arms_from
arms-refused frames x xs done left e is = arms-from frames x xs done left ∙ ap (arms_from frames xs done) is

-- ---- turns
pub turns_of-push : (ts : List PlainTurn) (t : PlainTurn) → turns_of (ts ++ t ∷ []) ≡ and_turn (turns_of ts) t.value t.body
turns_of-push [] t = refl
turns_of-push (x ∷ xs) t = ap (turn x.value x.body) (turns_of-push xs t)

-- the turns from one on, where so many may still come
abbrev pub turns_from : List (List Entry) → Span → PlainHead → PlainStatement → ℕ → Const → Bool → List PlainTurn → Left → Result Looped ElabErr
turns_from frames span head body most value runs done left =
    turns most span (loop_turned span) (loop_turn (λ scopes. unrolled scopes body) frames head.variable) (stepped frames head) (value, runs) (record { met = turns_of done; left = left })

-- a turn, then what comes of the next
turns_then : List (List Entry) → Span → PlainHead → PlainStatement → ℕ → Const → List PlainTurn → Result (PlainTurn × Left) ElabErr → Result Looped ElabErr
turns_then frames span head body most value done r =
    r >>= λ y. stepped frames head value >>= λ next.
    turns most span (loop_turned span) (loop_turn (λ scopes. unrolled scopes body) frames head.variable) (stepped frames head) next (record { met = and_turn (turns_of done) y.0.value y.0.body; left = y.1 })

turns-then : (frames : List (List Entry)) (span : Span) (head : PlainHead) (body : PlainStatement) (most : ℕ) (value : Const) (done : List PlainTurn) (left : Left)
    → turns_from frames span head body (suc most) value true done left ≡ turns_then frames span head body most value done (one_turn frames span head body value left)
unfolding turns_then
turns-then frames span head body most value done left = go (turned span left)
  where
    rest : Looped → Result Looped ElabErr
    rest more = stepped frames head value >>= λ next. turns most span (loop_turned span) (loop_turn (λ scopes. unrolled scopes body) frames head.variable) (stepped frames head) next more

    met_from : Result (Steps × Left) ElabErr → Result Looped ElabErr
    met_from r = r >>= λ y. Ok (record { met = and_turn (turns_of done) value y.0; left = y.1 })

    turn_from : Result (Steps × Left) ElabErr → Result (PlainTurn × Left) ElabErr
    turn_from r = r >>= λ x. Ok (record { value = value; body = x.0 }, x.1)

    counted_from : Result Left ElabErr → Result Looped ElabErr
    counted_from r = r >>= λ l. Ok (record { met = turns_of done; left = l })

    body-go : (r : Result (Steps × Left) ElabErr)
        → met_from r >>= rest ≡ turn_from r >>= λ (y : PlainTurn × Left). rest (record { met = and_turn (turns_of done) y.0.value y.0.body; left = y.1 })
    body-go (Ok x) = refl
    body-go (Err e) = refl

    go : (r : Result Left ElabErr)
        → counted_from r >>= (λ counted. loop_turn (λ scopes. unrolled scopes body) frames head.variable value counted >>= rest)
        ≡ (r >>= λ counted. turn_from (unrolled (at_turn head.variable value frames) body counted)) >>= λ (y : PlainTurn × Left). rest (record { met = and_turn (turns_of done) y.0.value y.0.body; left = y.1 })
    go (Ok l) = body-go (unrolled (at_turn head.variable value frames) body l)
    go (Err e) = refl

pub turns-next : (frames : List (List Entry)) (span : Span) (head : PlainHead) (body : PlainStatement) (most rest : ℕ) (value : Const) (runs : Bool) (done : List PlainTurn) (left after : Left)
    (t : PlainTurn) (next : Const) (more : Bool) → runs ≡ true → most ≡ suc rest
    → one_turn frames span head body value left ≡ Ok (t, after) → stepped frames head value ≡ Ok (next, more)
    → turns_from frames span head body most value runs done left ≡ turns_from frames span head body rest next more (done ++ t ∷ []) after
unfolding turns_then
turns-next frames span head body most rest value runs done left after t next more goes is made steps =
    ap (λ b. turns_from frames span head body most value b done left) goes
    ∙ ap (λ n. turns_from frames span head body n value true done left) is
    ∙ turns-then frames span head body rest value done left
    ∙ ap (turns_then frames span head body rest value done) made
    ∙ ap (λ (r : Result (Const × Bool) ElabErr). r >>= λ next. turns rest span (loop_turned span) (loop_turn (λ scopes. unrolled scopes body) frames head.variable) (stepped frames head) next (record { met = and_turn (turns_of done) t.value t.body; left = after })) steps
    ∙ ap (λ ts. turns rest span (loop_turned span) (loop_turn (λ scopes. unrolled scopes body) frames head.variable) (stepped frames head) (next, more) (record { met = ts; left = after })) (sym (turns_of-push done t))

pub turns-refused : (frames : List (List Entry)) (span : Span) (head : PlainHead) (body : PlainStatement) (most rest : ℕ) (value : Const) (runs : Bool) (done : List PlainTurn) (left : Left) (e : ElabErr)
    → runs ≡ true → most ≡ suc rest → one_turn frames span head body value left ≡ Err e → turns_from frames span head body most value runs done left ≡ Err e
unfolding turns_then
turns-refused frames span head body most rest value runs done left e goes is made =
    ap (λ b. turns_from frames span head body most value b done left) goes
    ∙ ap (λ n. turns_from frames span head body n value true done left) is
    ∙ turns-then frames span head body rest value done left
    ∙ ap (turns_then frames span head body rest value done) made

pub turns-step_refused : (frames : List (List Entry)) (span : Span) (head : PlainHead) (body : PlainStatement) (most rest : ℕ) (value : Const) (runs : Bool) (done : List PlainTurn) (left after : Left)
    (t : PlainTurn) (e : ElabErr) → runs ≡ true → most ≡ suc rest
    → one_turn frames span head body value left ≡ Ok (t, after) → stepped frames head value ≡ Err e
    → turns_from frames span head body most value runs done left ≡ Err e
unfolding turns_then
turns-step_refused frames span head body most rest value runs done left after t e goes is made steps =
    ap (λ b. turns_from frames span head body most value b done left) goes
    ∙ ap (λ n. turns_from frames span head body n value true done left) is
    ∙ turns-then frames span head body rest value done left
    ∙ ap (turns_then frames span head body rest value done) made
    ∙ ap (λ (r : Result (Const × Bool) ElabErr). r >>= λ next. turns rest span (loop_turned span) (loop_turn (λ scopes. unrolled scopes body) frames head.variable) (stepped frames head) next (record { met = and_turn (turns_of done) t.value t.body; left = after })) steps

pub turns-end : (frames : List (List Entry)) (span : Span) (head : PlainHead) (body : PlainStatement) (most : ℕ) (value : Const) (runs : Bool) (done : List PlainTurn) (left : Left)
    → runs ≡ false → turns_from frames span head body most value runs done left ≡ Ok (record { met = turns_of done; left = left })
turns-end frames span head body most value runs done left ends = ap (λ b. turns_from frames span head body most value b done left) ends

pub turns-too_many : (frames : List (List Entry)) (span : Span) (head : PlainHead) (body : PlainStatement) (most : ℕ) (value : Const) (runs : Bool) (done : List PlainTurn) (left : Left)
    → runs ≡ true → most ≡ 0 → turns_from frames span head body most value runs done left ≡ Err (fault.Turns span)
turns-too_many frames span head body most value runs done left goes is =
    ap (λ b. turns_from frames span head body most value b done left) goes ∙ ap (λ n. turns_from frames span head body n value true done left) is

pub ruleset statement_list_steps = (steps-none, steps-end, steps-next, steps-refused)

pub ruleset arm_list_steps = (arms-none, arms-end, arms-next, arms-refused)

pub ruleset turn_steps = (turns_of-push, turns-next, turns-refused, turns-step_refused, turns-end, turns-too_many)

use Rattle.std.proofs.Common.{◌≡◌, ◌<◌, ◌∙◌, List, Bool, true, false, map, refl, sym, ap, arith, inr}
use Rattle.std.specs.Prelude.{Ok}
use Rattle.std.proofs.lemmas.Grind.{common_steps}
use Rattle.v_syntax.specs.StatementTree.{statement_of, case_item_of, head_of}
use Rattle.v_scopes.specs.Around.{frames_of}
use Rattle.v_scopes.proofs.GivenLaws.{passed_on}
use Rattle.v_hierarchy.specs.declared.steps.Steps.{Steps}
use Rattle.v_hierarchy.specs.declared.steps.Turn.{Turn}
use Rattle.v_hierarchy.specs.Frames.{Refuses}
use Rattle.v_hierarchy.specs.Views.{steps_of, turn_of, turns_of}
use Rattle.v_hierarchy.specs.Unrolled.{unrolled}
use Rattle.v_loops.specs.Loops.{loop_arm, loop_turns, loop_unrolled}
use Rattle.v_loops.proofs.StatementViews.{unrolled-for, steps_of_repeated}
use Rattle.v_loops.proofs.GatherSteps.{turns_from}
use Rattle.v_loops.proofs.LoopSteps.{through, statement-next, statements-ended, arm-next, arms-ended, loop-ok, loop-refuses, turn-next, turn-refuses, step-refuses, turns-ended, turns-beyond}
use Rattle.v_loops.proofs.position.Position.+unrolled.Goals as goal

pub unrolled-returns-in-For-clause-ok : goal.unrolled-returns-in-For-clause-ok
unrolled-returns-in-For-clause-ok t c =
    let around = frames_of c.args.self.now.scopes in
    let left = c.args.self.now.left in
    through c.unrolled_loop.result _ _ (λ (s : Steps). (steps_of s, c.unrolled_loop.new.self.left))
    (ap (λ s. unrolled around (statement_of s) left) c.in-For.is ∙ unrolled-for around c.in-For.site c.in-For.head c.in-For.body left
    ∙ ap (λ b. loop_unrolled around c.in-For.site.span (head_of c.in-For.head) (statement_of b) left) (sym c.deref-in-For.ensures))
    c.unrolled_loop.ensures.ok

pub unrolled_all-loop-statement-preserved : goal.unrolled_all-loop-statement-preserved
unrolled_all-loop-statement-preserved t c =
    let x = c.statement-item.result in
    let left = c.loop-statement.self.left in
    record {
      same = c.in_ok-steps.ensures.same ∙ c.loop-statement.invariant.same;
      rest = statement-next (frames_of c.args.self.now.scopes) c.args.statements.now c.loop-statement.statement-index x c.loop-statement-test.true c.statement-item.is
          c.loop-statement.all left c.push.new.self c.in_ok-steps.steps c.unrolled.new.self.left c.in_ok-push.ensures.ok
          (ap (λ around. unrolled around (statement_of x) left) (sym c.loop-statement.invariant.same) ∙ c.in_ok-steps.ensures.ok)
          ∙ c.loop-statement.invariant.rest;
    }

pub unrolled_all-returns-clause-ok : goal.unrolled_all-returns-clause-ok
unrolled_all-returns-clause-ok t c =
    statements-ended (frames_of c.args.self.now.scopes) c.args.statements.now c.loop-statement.statement-index c.loop-statement-test.false
    c.loop-statement.all c.loop-statement.self.left _ c.loop-statement.invariant.rest

pub unrolled_arms-loop-item-preserved : goal.unrolled_arms-loop-item-preserved
unrolled_arms-loop-item-preserved t c =
    let x = c.item-item.result in
    let left = c.loop-item.self.left in
    record {
      same = c.in_ok-arm.ensures.same ∙ c.loop-item.invariant.same;
      rest = arm-next (frames_of c.args.self.now.scopes) c.args.items.now c.loop-item.item-index x c.loop-item-test.true c.item-item.is
          c.loop-item.all left c.push.new.self c.in_ok-arm.arm c.unrolled_arm.new.self.left c.in_ok-push.ensures.ok
          (ap (λ around. loop_arm around (case_item_of x) left) (sym c.loop-item.invariant.same) ∙ c.in_ok-arm.ensures.ok)
          ∙ c.loop-item.invariant.rest;
    }

pub unrolled_arms-returns-clause-ok : goal.unrolled_arms-returns-clause-ok
unrolled_arms-returns-clause-ok t c =
    arms-ended (frames_of c.args.self.now.scopes) c.args.items.now c.loop-item.item-index c.loop-item-test.false
    c.loop-item.all c.loop-item.self.left _ c.loop-item.invariant.rest

pub unrolled_loop-returns-in_err-turns-clause-err : goal.unrolled_loop-returns-in_err-turns-clause-err
unrolled_loop-returns-in_err-turns-clause-err t c =
    let around = frames_of c.args.self.now.scopes in
    let head = head_of c.args.head.now in
    let body = statement_of c.args.body.now in
    passed_on (Refuses (loop_unrolled around c.args.span head body c.args.self.now.left)) _ _ c.from_residual-in_err-turns.ensures.1
    (loop-refuses around (frames_of c.begun.new.scopes) c.in_ok-first.ensures.same c.args.span head body c.args.self.now.left c.in_ok-first.first.value c.in_ok-first.first.runs
    c.in_ok-loop_variable.field-0 (sym c.in_ok-loop_variable.ensures) c.in_ok-first.ensures.ok c.in_err-turns.field-0.0 c.in_err-turns.ensures.err)

pub unrolled_loop-returns-clause-ok : goal.unrolled_loop-returns-clause-ok
unrolled_loop-returns-clause-ok t c =
    let around = frames_of c.args.self.now.scopes in
    let head = head_of c.args.head.now in
    let body = statement_of c.args.body.now in
    let left = c.unrolled_turns.new.self.left in
    loop-ok around (frames_of c.begun.new.scopes) c.in_ok-first.ensures.same c.args.span head body c.args.self.now.left c.in_ok-first.first.value c.in_ok-first.first.runs
    c.in_ok-loop_variable.field-0 (sym c.in_ok-loop_variable.ensures) c.in_ok-first.ensures.ok (record { met = turns_of (map turn_of c.in_ok-turns.turns); left = left }) c.in_ok-turns.ensures.ok
    ∙ ap (λ s. Ok (s, left)) (sym (steps_of_repeated _ c.in_ok-turns.turns))

pub unrolled_turns-loop-turn-init : goal.unrolled_turns-loop-turn-init
unrolled_turns-loop-turn-init t c = record {
  same = refl;
  fits = c.requires;
  rest = ap (λ (ts : List Turn).
      turns_from (frames_of c.args.self.now.scopes) c.args.span (head_of c.args.head.now) (statement_of c.args.body.now) 65536 c.args.first.value c.args.first.runs (map turn_of ts) c.args.self.now.left)
      c.new-turns.ensures;
}

pub unrolled_turns-returns-then-not-next-clause-ok : goal.unrolled_turns-returns-then-not-next-clause-ok
unrolled_turns-returns-then-not-next-clause-ok t c =
    let ends : c.loop-turn.next.runs ≡ false = grind (arith, common_steps) in
    turns-ended (frames_of c.args.self.now.scopes) c.args.span (head_of c.args.head.now) (statement_of c.args.body.now) c.loop-turn._turn c.loop-turn.next.value c.loop-turn.next.runs
    c.loop-turn.turns c.loop-turn.self.left _ c.loop-turn.invariant.rest ends

pub unrolled_turns-returns-in_err-turn-clause-err : goal.unrolled_turns-returns-in_err-turn-clause-err
unrolled_turns-returns-in_err-turn-clause-err t c =
    let around = frames_of c.args.self.now.scopes in
    let head = head_of c.args.head.now in
    let body = statement_of c.args.body.now in
    let goes : c.loop-turn.next.runs ≡ true = grind (arith, common_steps) in
    let whole = loop_turns around c.args.span head body (c.args.first.value, c.args.first.runs) c.args.self.now.left in
    passed_on (Refuses whole) _ _ c.from_residual.ensures.1
    (turn-refuses around (frames_of c.loop-turn.self.scopes) c.loop-turn.invariant.same c.args.span head body c.loop-turn._turn c.loop-turn-test.true
    c.loop-turn.next.value c.loop-turn.next.runs goes c.loop-turn.turns c.loop-turn.self.left whole c.loop-turn.invariant.rest c.in_err-turn.field-0.0 c.in_err-turn.ensures.err)

pub unrolled_turns-returns-in_err-next-clause-err : goal.unrolled_turns-returns-in_err-next-clause-err
unrolled_turns-returns-in_err-next-clause-err t c =
    let around = frames_of c.args.self.now.scopes in
    let head = head_of c.args.head.now in
    let body = statement_of c.args.body.now in
    let goes : c.loop-turn.next.runs ≡ true = grind (arith, common_steps) in
    let whole = loop_turns around c.args.span head body (c.args.first.value, c.args.first.runs) c.args.self.now.left in
    passed_on (Refuses whole) _ _ c.from_residual-in_err-next.ensures.1
    (step-refuses around (frames_of c.loop-turn.self.scopes) c.loop-turn.invariant.same c.args.span head body c.loop-turn._turn c.loop-turn-test.true
    c.loop-turn.next.value c.loop-turn.next.runs goes c.loop-turn.turns c.loop-turn.self.left whole c.loop-turn.invariant.rest
    c.in_ok-turn.turn c.unrolled_turn.new.self.left (frames_of c.unrolled_turn.new.self.scopes) c.in_err-next.field-0.0
    c.in_ok-turn.ensures.ok (c.in_ok-turn.ensures.same ∙ c.loop-turn.invariant.same) c.in_err-next.ensures.err)

pub unrolled_turns-loop-turn-preserved : goal.unrolled_turns-loop-turn-preserved
unrolled_turns-loop-turn-preserved t c =
    let around = frames_of c.args.self.now.scopes in
    let head = head_of c.args.head.now in
    let body = statement_of c.args.body.now in
    let goes : c.loop-turn.next.runs ≡ true = grind (arith, common_steps) in
    let back = c.in_ok-turn.ensures.same ∙ c.loop-turn.invariant.same in
    let whole = loop_turns around c.args.span head body (c.args.first.value, c.args.first.runs) c.args.self.now.left in
    record {
      same = c.in_ok-next.ensures.same ∙ back;
      fits = c.in_ok-next.ensures.fits;
      rest = turn-next around (frames_of c.loop-turn.self.scopes) c.loop-turn.invariant.same c.args.span head body c.loop-turn._turn c.loop-turn-test.true
          c.loop-turn.next.value c.loop-turn.next.runs goes c.loop-turn.turns c.loop-turn.self.left whole c.loop-turn.invariant.rest
          c.in_ok-turn.turn c.unrolled_turn.new.self.left (frames_of c.unrolled_turn.new.self.scopes) c.in_ok-next.next.value c.in_ok-next.next.runs c.push.new.self
          c.in_ok-turn.ensures.ok back c.in_ok-next.ensures.ok c.in_ok-push.ensures.ok;
    }

pub unrolled_turns-returns-then-next-clause-err : goal.unrolled_turns-returns-then-next-clause-err
unrolled_turns-returns-then-next-clause-err t c =
    inr (turns-beyond (frames_of c.args.self.now.scopes) c.args.span (head_of c.args.head.now) (statement_of c.args.body.now) c.loop-turn._turn c.loop-turn.next.value c.loop-turn.next.runs
    c.loop-turn.turns c.loop-turn.self.left _ c.loop-turn.invariant.rest c.if-next.true c.loop-turn-test.false)

pub unrolled_turns-returns-clause-ok : goal.unrolled_turns-returns-clause-ok
unrolled_turns-returns-clause-ok t c =
    turns-ended (frames_of c.args.self.now.scopes) c.args.span (head_of c.args.head.now) (statement_of c.args.body.now) c.loop-turn._turn c.loop-turn.next.value c.loop-turn.next.runs
    c.loop-turn.turns c.loop-turn.self.left _ c.loop-turn.invariant.rest c.if-next.false

use Rattle.std.proofs.Common.{◌≡◌, ◌+◌, ◌-◌, ◌∙◌, Bool, true, false, map, refl, sym, ap, arith, inr}
use Rattle.std.proofs.lemmas.Grind.{common_steps}
use Rattle.v_syntax.specs.StatementTree.{head_of}
use Rattle.v_syntax.specs.ItemTree.{item_of, block_of}
use Rattle.v_scopes.specs.Around.{names_in, outer_of, frames_of}
use Rattle.v_scopes.proofs.GivenLaws.{passed_on}
use Rattle.v_hierarchy.specs.Frames.{Refuses}
use Rattle.v_hierarchy.specs.Items.{item}
use Rattle.v_hierarchy.specs.Views.{copied_of, copies_of}
use Rattle.v_connections.specs.Places.{place_of}
use Rattle.v_elaborate.specs.Parts.{turns_met}
use Rattle.v_elaborate.specs.Met.{met_of, outer_at, frames_at}
use Rattle.v_elaborate.proofs.ItemEquations.{arm-ok, arm-refuses, item-loop}
use Rattle.v_elaborate.proofs.TurnSteps.{same-outer, same-met, loop-ok, loop-refuses, generate_from, generate-goes_on, generate-turn_refuses, generate-step_refuses, generate-ended, generate-beyond}
use Rattle.v_elaborate.proofs.met.Met.+items.Goals as goal

pub generate_turns-returns-then-not-next-clause-ok : goal.generate_turns-returns-then-not-next-clause-ok
generate_turns-returns-then-not-next-clause-ok t c =
    let ends : c.loop-turn.next.runs ≡ false = grind (arith, common_steps) in
    generate-ended (place_of c.args.repeats.now.place.now (outer_at c.args.self.now)) c.args.repeats.now.span (head_of c.args.repeats.now.head.now) (block_of c.args.block.now) (frames_at c.args.self.now)
    c.loop-turn._turn c.loop-turn.next.value c.loop-turn.next.runs (met_of c.loop-turn.self) _ c.loop-turn.invariant.rest ends

pub generate_turns-returns-in_err-generate_turn-clause-err : goal.generate_turns-returns-in_err-generate_turn-clause-err
generate_turns-returns-in_err-generate_turn-clause-err t c =
    let before = c.args.self.now in
    let now = c.loop-turn.self in
    let place = c.args.repeats.now.place.now in
    let head = head_of c.args.repeats.now.head.now in
    let goes : c.loop-turn.next.runs ≡ true = grind (arith, common_steps) in
    let whole = turns_met (place_of place (outer_at before)) c.args.repeats.now.span head (block_of c.args.block.now) (frames_at before) (c.args.first.value, c.args.first.runs) (met_of before) in
    passed_on (Refuses whole) _ _ c.from_residual.ensures.1
    (generate-turn_refuses (place_of place (outer_at before)) (place_of place (outer_at now))
    (ap (place_of place) (same-outer (names_in now.position.scopes) (names_in before.position.scopes) (outer_at now) (outer_at before) c.loop-turn.invariant.same))
    (frames_at before) (frames_at now) c.loop-turn.invariant.same c.args.repeats.now.span head (block_of c.args.block.now) c.loop-turn._turn c.loop-turn-test.true
    c.loop-turn.next.value c.loop-turn.next.runs goes (met_of now) whole c.loop-turn.invariant.rest c.in_err-generate_turn.field-0.0 c.in_err-generate_turn.ensures.err)

pub generate_turns-returns-in_err-next-clause-err : goal.generate_turns-returns-in_err-next-clause-err
generate_turns-returns-in_err-next-clause-err t c =
    let before = c.args.self.now in
    let now = c.loop-turn.self in
    let place = c.args.repeats.now.place.now in
    let head = head_of c.args.repeats.now.head.now in
    let goes : c.loop-turn.next.runs ≡ true = grind (arith, common_steps) in
    let whole = turns_met (place_of place (outer_at before)) c.args.repeats.now.span head (block_of c.args.block.now) (frames_at before) (c.args.first.value, c.args.first.runs) (met_of before) in
    passed_on (Refuses whole) _ _ c.from_residual-in_err-next.ensures.1
    (generate-step_refuses (place_of place (outer_at before)) (place_of place (outer_at now))
    (ap (place_of place) (same-outer (names_in now.position.scopes) (names_in before.position.scopes) (outer_at now) (outer_at before) c.loop-turn.invariant.same))
    (frames_at before) (frames_at now) c.loop-turn.invariant.same c.args.repeats.now.span head (block_of c.args.block.now) c.loop-turn._turn c.loop-turn-test.true
    c.loop-turn.next.value c.loop-turn.next.runs goes (met_of now) whole c.loop-turn.invariant.rest
    (met_of c.generate_turn.new.self) (frames_at c.generate_turn.new.self) c.in_err-next.field-0.0 c.in_ok-generate_turn.ensures.ok
    (c.in_ok-generate_turn.ensures.same ∙ c.loop-turn.invariant.same) c.in_err-next.ensures.err)

pub generate_turns-loop-turn-preserved : goal.generate_turns-loop-turn-preserved
generate_turns-loop-turn-preserved t c =
    let before = c.args.self.now in
    let now = c.loop-turn.self in
    let place = c.args.repeats.now.place.now in
    let head = head_of c.args.repeats.now.head.now in
    let goes : c.loop-turn.next.runs ≡ true = grind (arith, common_steps) in
    let whole = turns_met (place_of place (outer_at before)) c.args.repeats.now.span head (block_of c.args.block.now) (frames_at before) (c.args.first.value, c.args.first.runs) (met_of before) in
    let back = c.in_ok-generate_turn.ensures.same ∙ c.loop-turn.invariant.same in
    let after = c.generate_turn.new.self in
    let here = same-met (copies_of (map copied_of after.copies)) after.position.left (names_in c.stepped.new.scopes) (names_in after.position.scopes)
    (outer_of c.stepped.new.scopes) (outer_of after.position.scopes) c.in_ok-next.ensures.same in
    record {
      same = c.in_ok-next.ensures.same ∙ back;
      fits = c.in_ok-next.ensures.fits;
      rest = ap (generate_from (place_of place (outer_at before)) c.args.repeats.now.span head (block_of c.args.block.now) (frames_at before) (65536 - (c.loop-turn._turn + 1))
          c.in_ok-next.next.value c.in_ok-next.next.runs) here
          ∙ generate-goes_on (place_of place (outer_at before)) (place_of place (outer_at now))
          (ap (place_of place) (same-outer (names_in now.position.scopes) (names_in before.position.scopes) (outer_at now) (outer_at before) c.loop-turn.invariant.same))
          (frames_at before) (frames_at now) c.loop-turn.invariant.same c.args.repeats.now.span head (block_of c.args.block.now) c.loop-turn._turn c.loop-turn-test.true
          c.loop-turn.next.value c.loop-turn.next.runs goes (met_of now) whole c.loop-turn.invariant.rest
          (met_of c.generate_turn.new.self) (frames_at c.generate_turn.new.self) c.in_ok-next.next.value c.in_ok-next.next.runs c.in_ok-generate_turn.ensures.ok back c.in_ok-next.ensures.ok;
    }

pub generate_turns-returns-then-next-clause-err : goal.generate_turns-returns-then-next-clause-err
generate_turns-returns-then-next-clause-err t c =
    inr (generate-beyond (place_of c.args.repeats.now.place.now (outer_at c.args.self.now)) c.args.repeats.now.span (head_of c.args.repeats.now.head.now) (block_of c.args.block.now)
    (frames_at c.args.self.now) c.loop-turn._turn c.loop-turn.next.value c.loop-turn.next.runs (met_of c.loop-turn.self) _ c.loop-turn.invariant.rest c.if-next.true c.loop-turn-test.false)

pub generate_turns-returns-clause-ok : goal.generate_turns-returns-clause-ok
generate_turns-returns-clause-ok t c =
    generate-ended (place_of c.args.repeats.now.place.now (outer_at c.args.self.now)) c.args.repeats.now.span (head_of c.args.repeats.now.head.now) (block_of c.args.block.now)
    (frames_at c.args.self.now) c.loop-turn._turn c.loop-turn.next.value c.loop-turn.next.runs (met_of c.loop-turn.self) _ c.loop-turn.invariant.rest c.if-next.false

pub generate_for-returns-clause-ok : goal.generate_for-returns-clause-ok
generate_for-returns-clause-ok t c =
    let before = c.args.self.now in
    let place = c.args.repeats.now.place.now in
    let copies = copies_of (map copied_of before.copies) in
    let left = before.position.left in
    let now = c.begun.new.scopes in
    let scopes = before.position.scopes in
    let same = c.in_ok-first.ensures.same in
    loop-ok (place_of place (outer_of scopes)) (place_of place (outer_of now)) (ap (place_of place) (same-outer (names_in now) (names_in scopes) (outer_of now) (outer_of scopes) same))
    (met_of before) (record { names = names_in now; copies = copies; left = left }) (same-met copies left (names_in now) (names_in scopes) (outer_of now) (outer_of scopes) same)
    (frames_of now) same c.args.repeats.now.span (head_of c.args.repeats.now.head.now) (block_of c.args.block.now) c.in_ok-first.first.value c.in_ok-first.first.runs
    c.in_ok-loop_genvar.field-0 (sym c.in_ok-loop_genvar.ensures) c.in_ok-first.ensures.ok c.generate_turns.result (met_of c.generate_turns.new.self) c.generate_turns.ensures.ok

pub generate_for-returns-clause-err : goal.generate_for-returns-clause-err
generate_for-returns-clause-err t c =
    let before = c.args.self.now in
    let place = c.args.repeats.now.place.now in
    let copies = copies_of (map copied_of before.copies) in
    let left = before.position.left in
    let now = c.begun.new.scopes in
    let scopes = before.position.scopes in
    let same = c.in_ok-first.ensures.same in
    loop-refuses (place_of place (outer_of scopes)) (place_of place (outer_of now)) (ap (place_of place) (same-outer (names_in now) (names_in scopes) (outer_of now) (outer_of scopes) same))
    (met_of before) (record { names = names_in now; copies = copies; left = left }) (same-met copies left (names_in now) (names_in scopes) (outer_of now) (outer_of scopes) same)
    (frames_of now) same c.args.repeats.now.span (head_of c.args.repeats.now.head.now) (block_of c.args.block.now) c.in_ok-first.first.value c.in_ok-first.first.runs
    c.in_ok-loop_genvar.field-0 (sym c.in_ok-loop_genvar.ensures) c.in_ok-first.ensures.ok c.generate_turns.result c.generate_turns.ensures.err

pub item-returns-in-GenerateFor-clause-ok : goal.item-returns-in-GenerateFor-clause-ok
item-returns-in-GenerateFor-clause-ok t c =
    let place = place_of c.args.place.now (outer_at c.args.self.now) in
    let met = met_of c.args.self.now in
    arm-ok c.generate_for.result _ _ (met_of c.generate_for.new.self)
    (ap (λ i. item place (item_of i) met) c.in-GenerateFor.is ∙ item-loop place met c.in-GenerateFor.site c.in-GenerateFor.head c.in-GenerateFor.body)
    c.generate_for.ensures.ok

pub item-returns-in-GenerateFor-clause-err : goal.item-returns-in-GenerateFor-clause-err
item-returns-in-GenerateFor-clause-err t c =
    let place = place_of c.args.place.now (outer_at c.args.self.now) in
    let met = met_of c.args.self.now in
    arm-refuses c.generate_for.result _ _
    (ap (λ i. item place (item_of i) met) c.in-GenerateFor.is ∙ item-loop place met c.in-GenerateFor.site c.in-GenerateFor.head c.in-GenerateFor.body)
    c.generate_for.ensures.err

use Rattle.std.proofs.Common.{arith}
use Rattle.clause_base.specs.Steps.{step_at}
use Rattle.debug_core.proofs.Finishing.{copied-more, step-same}
use Rattle.debug_core.proofs.debugger.Debugger.certificate.Goals as goal

pub loop-place-preserved : goal.loop-place-preserved
loop-place-preserved c =
    let kept = c.self.inside.search.certificate in
    let place = c.loop-place.place in
    let inv = c.loop-place.invariant in
    record {
      steps = copied-more kept c.loop-place.steps c.push.new.self c.self.inside.search.appended place
          (record { kind = c.kind.result; clause = c.clause.result.now; chain = c.chain.result.now })
          inv.low (omega (arith, c.loop-place-test.true, inv.end)) inv.steps c.in_ok-push.ensures.ok
          (step-same (step_at kept place) c.kind.result c.clause.result.now c.chain.result.now c.kind.ensures c.clause.ensures.value c.chain.ensures);
      low = omega (arith, inv.low);
      end = inv.end;
    }

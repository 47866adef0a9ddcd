use Rattle.std.proofs.Common.{◌<◌, length, arith}
use Rattle.proof_check.proofs.Pieced.{known-none, known-more}
use Rattle.proof_check.proofs.parallel.known_steps.Goals as goal

pub loop-place-init : goal.loop-place-init
loop-place-init c = known-none c.args.form.now.vars c.args.form.now.clauses c.args.log.now c.requires

pub loop-place-preserved : goal.loop-place-preserved
loop-place-preserved c =
    let within : c.loop-place.place < length c.args.log.now = omega arith in
    known-more c.args.form.now.vars c.args.form.now.clauses c.args.log.now c.loop-place.place c.clause.result.now within c.clause.ensures.value c.loop-place.invariant (c.is_within.ensures.0 c.if-not-is_within.false)

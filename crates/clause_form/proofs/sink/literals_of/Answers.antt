use Rattle.std.proofs.Common.{◌<◌, ◌+◌, ap, sym, length, arith}
use Rattle.clause_form.proofs.SinkSteps.{literals-none, literals-more, literals-part}
use Rattle.clause_form.proofs.sink.literals_of.Goals as goal

pub loop-place-init : goal.loop-place-init
loop-place-init c = record { counted = sym (literals-none c.args.clauses.now); few = omega arith }

pub returns-then-weight-count : goal.returns-then-weight-count
returns-then-weight-count c =
    let within : c.loop-place.place < length c.args.clauses.now = omega arith in
    omega (
      arith,
      literals-more c.args.clauses.now c.loop-place.place within,
      literals-part c.args.clauses.now (c.loop-place.place + 1),
      c.loop-place.invariant.counted,
      ap length c.clause.ensures.value,
    )

use Rattle.std.proofs.Common.{◌+◌, arith}
use Rattle.clause_form.specs.Clauses.{clause_of}
use Rattle.clause_form.specs.Fields.{sunk_of}
use Rattle.clause_form.proofs.SinkSteps.{after-all, literals-sized, one-sized, sunk}
use Rattle.clause_form.proofs.sink.Sink.take.Goals as goal

pub returns-then-weight-self-clause-err : goal.returns-then-weight-self-clause-err
returns-then-weight-self-clause-err c =
    omega (arith, literals-sized c.args.self.now.base c.args.literals.now c.args.selectors.now c.args.size c.requires.size)

pub keep-requires-clause-one : goal.keep-requires-clause-one
keep-requires-clause-one c =
    one-sized c.args.self.now.base c.args.literals.now c.args.selectors.now c.args.size c.requires.size

pub returns-clause-ok : goal.returns-clause-ok
returns-clause-ok c =
    let self = c.args.self.now in
    let after = c.keep.new.self in
    after-all (sunk_of self) (clause_of self.base c.args.literals.now c.args.selectors.now)
    (sunk after.base after.writes after.kept.named (after.count + c.max-weight.result) after.kept.clauses)
    c.keep.ensures.base c.keep.ensures.writes c.keep.ensures.named
    (omega (arith, c.keep.ensures.count, literals-sized self.base c.args.literals.now c.args.selectors.now c.args.size c.requires.size))
    c.in_ok-keep.ensures.kept

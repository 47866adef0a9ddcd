use Rattle.std.proofs.Common.{ap, sym, ◌∙◌}
use Rattle.clause_form.specs.Fields.{after, sunk_of}
use Rattle.clause_form.proofs.SinkSteps.{after-none, no-clause}
use Rattle.clause_form.proofs.sink.Sink.push.Goals as goal

pub returns-in-None-clause-ok : goal.returns-in-None-clause-ok
returns-in-None-clause-ok c =
    let self = c.args.self.now in
    sym (ap (after (sunk_of self))
    (no-clause self.base c.args.literals.now c.args.selectors.now (sym c.size.ensures ∙ c.in-None.is)) ∙ after-none (sunk_of self))

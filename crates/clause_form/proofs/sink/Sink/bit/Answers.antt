use Rattle.std.proofs.Common.{sym, ◌∙◌}
use Rattle.clause_form.specs.Fields.{sunk_of}
use Rattle.clause_form.proofs.NodeSteps.{bit-none}
use Rattle.clause_form.proofs.sink.Sink.bit.Goals as goal

pub returns-else-is_one-clause-ok : goal.returns-else-is_one-clause-ok
returns-else-is_one-clause-ok c =
    sym (bit-none (sunk_of c.args.self.now) c.args.checked c.args.bit c.args.literal (sym c.is_one.ensures ∙ c.if-is_one.false))

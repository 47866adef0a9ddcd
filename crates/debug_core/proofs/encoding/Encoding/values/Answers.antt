use Rattle.debug_core.specs.Standing.{problem_in}
use Rattle.debug_core.proofs.Encoded.{are-places, one-column, values-explain}
use Rattle.debug_core.proofs.encoding.Encoding.values.Goals as goal

pub values-requires-clause-distinct : goal.values-requires-clause-distinct
values-requires-clause-distinct c =
    let e = c.args.self.now in one-column (problem_in e) e.form e.unrolled c.requires.encoding

pub values-requires-clause-places : goal.values-requires-clause-places
values-requires-clause-places c =
    let e = c.args.self.now in are-places (problem_in e) e.form e.unrolled c.requires.encoding

pub returns : goal.returns
returns c =
    values-explain c.args.self.now c.requires.encoding c.args.model.now c.args.members.now c.values.result c.values.ensures.values

use Rattle.place_functions.proofs.FunctionLaws.{function-works}
use Rattle.place_functions.proofs.laws.function_works.Goals as goal

pub returns : goal.returns
returns g c = function-works g.of.design g.of.traces g.of.groups g.of.set c.requires

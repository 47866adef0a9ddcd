use Rattle.design_core.proofs.ListingLaws.{front-prefix}
use Rattle.place_functions.specs.Functions.{WorksByFunctions}
use Rattle.place_functions.proofs.laws.function_front_is_prefix.Goals as goal

pub returns : goal.returns
returns g c = front-prefix (WorksByFunctions g.of.design g.of.traces g.of.groups) g.of.groups g.of.size g.of.one g.of.other c.requires.0 c.requires.1

use Rattle.design_core.proofs.ListingLaws.{lists-same}
use Rattle.place_functions.specs.Functions.{WorksByFunctions}
use Rattle.place_functions.proofs.laws.same_function_list.Goals as goal

pub returns : goal.returns
returns g c = lists-same (WorksByFunctions g.of.design g.of.traces g.of.groups) g.of.groups g.of.size g.of.one g.of.other c.requires.0 c.requires.1

use Rattle.parallel_replay.proofs.FittingLaws.{below-decided}
use Rattle.parallel_replay.proofs.fitting.are_below.Goals as goal

pub returns : goal.returns
returns c = below-decided c.args.count c.args.numbers.now c.are_less.result c.are_less.ensures

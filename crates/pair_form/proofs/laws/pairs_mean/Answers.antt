use Rattle.pair_form.proofs.PairsMean.{adds-following}
use Rattle.pair_form.proofs.laws.pairs_mean.Goals as goal

pub returns : goal.returns
returns g c = adds-following g.of c.requires

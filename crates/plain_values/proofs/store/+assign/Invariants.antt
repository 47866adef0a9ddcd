use Rattle.std.proofs.Common.{length}
use Rattle.plain_values.proofs.store.+assign.Given as goal

abbrev pub decreases-assign : goal.decreases-assign
decreases-assign l = length l.parts.now

use Rattle.std.proofs.Common.{length}
use Rattle.proof_check.proofs.text.parts.+join.Given as goal

abbrev pub decreases-join : goal.decreases-join
decreases-join l = length l.read.now

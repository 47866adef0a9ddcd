use Rattle.std.proofs.Common.{length}
use Rattle.list_verdict.proofs.members.+shares_gap.Given as goal

abbrev pub decreases-shares_gap : goal.decreases-shares_gap
decreases-shares_gap l = length l.outer.now

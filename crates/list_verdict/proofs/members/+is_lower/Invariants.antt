use Rattle.std.proofs.Common.{length}
use Rattle.list_verdict.proofs.members.+is_lower.Given as goal

abbrev pub decreases-is_lower : goal.decreases-is_lower
decreases-is_lower l = length l.one.now

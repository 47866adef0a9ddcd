use Rattle.front_cert.proofs.Reaching.{Reaches}
use Rattle.front_cert.proofs.reach.reach_of.Given as goal

abbrev pub invariant-loop-literal : goal.invariant-loop-literal
invariant-loop-literal l = Reaches l.target.members.now l.target.more l.clause l.literal-index l.reach

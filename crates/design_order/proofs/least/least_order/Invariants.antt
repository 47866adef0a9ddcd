use Rattle.std.proofs.Common.{not, count_by}
use Rattle.design_order.specs.Running.{IsRunning}
use Rattle.design_order.proofs.least.least_order.Given as goal

abbrev pub invariant-taking : goal.invariant-taking
invariant-taking l = IsRunning l.needs l.state

abbrev pub decreases-taking : goal.decreases-taking
decreases-taking l = count_by not l.state.taken.items

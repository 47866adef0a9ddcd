use Rattle.net_values.proofs.Givens.{GivenBelow}
use Rattle.net_values.proofs.given.are_given.Given as goal

abbrev pub invariant-loop-i : goal.invariant-loop-i
invariant-loop-i l = GivenBelow (record { states = l.state; inputs = l.inputs; freed = l.freed; chosen = l.choice }) l.nodes l.i

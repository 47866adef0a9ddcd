use Rattle.made_input.proofs.values.+held.Given as goal

abbrev pub decreases-held : goal.decreases-held
decreases-held l = l.cycle

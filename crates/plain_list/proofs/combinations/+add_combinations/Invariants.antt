use Rattle.plain_list.proofs.combinations.+add_combinations.Given as goal

abbrev pub decreases-add_combinations : goal.decreases-add_combinations
decreases-add_combinations l = l.count

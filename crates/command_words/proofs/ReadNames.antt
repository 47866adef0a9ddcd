-- Names among those that are read: a test of two lists, one after the other, is that of each.
use Rattle.std.proofs.lemmas.List.Folds.{list_any-append}

pub ruleset name_rules = (list_any-append)

use Rattle.std.proofs.Common.{◌≡◌, take, true}
use Rattle.design_rules.specs.Entries.{is_variable}
use Rattle.design_rules.specs.First.{IsFirst}
use Rattle.bind_rules.proofs.FirstLaws.{is_set_among}
use Rattle.bind_rules.proofs.initial.first_set.Given as goal

abbrev pub invariant-loop-start : goal.invariant-loop-start
invariant-loop-start l = IsFirst (λ s. is_set_among (is_variable l.design.signals.items) (take l.start-index l.beside.initial.now) s ≡ true) l.found

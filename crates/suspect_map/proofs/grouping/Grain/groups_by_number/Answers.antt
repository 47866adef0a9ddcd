use Rattle.std.proofs.Common.{◌∙◌, ap, nat_eq}
use Rattle.suspect_map.specs.Grouping.{firsts_by}
use Rattle.suspect_map.proofs.Steps.{same_number}
use Rattle.suspect_map.proofs.GroupLaws.{lists-by, within-by, ascending-by}
use Rattle.suspect_map.proofs.grouping.Grain.groups_by_number.Goals as goal

pub returns-clause-lists : goal.returns-clause-lists
returns-clause-lists g c =
    lists-by (record { key = g.N.Numbered.number; same = nat_eq; label = c.args.self.now.label }) same_number c.args.self.now.kind.now c.args.self.now.places.now c.deref-2.result.now c.groups.result
    (c.deref-2.ensures.value ∙ c.in_ok-firsts.ensures.firsts ∙ ap (firsts_by nat_eq) (c.deref.ensures.value ∙ c.in_ok-numbers_of.ensures)) c.groups.ensures

pub returns-clause-within : goal.returns-clause-within
returns-clause-within g c =
    within-by (record { key = g.N.Numbered.number; same = nat_eq; label = c.args.self.now.label }) same_number c.args.self.now.kind.now c.args.self.now.places.now c.groups.result
    (returns-clause-lists g c)

pub returns-clause-ascending : goal.returns-clause-ascending
returns-clause-ascending g c =
    ascending-by (record { key = g.N.Numbered.number; same = nat_eq; label = c.args.self.now.label }) same_number c.args.self.now.kind.now c.args.self.now.places.now c.groups.result
    (returns-clause-lists g c)

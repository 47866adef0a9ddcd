use Rattle.std.proofs.Common.{◌∙◌}
use Rattle.std.specs.Prelude.{codes}
use Rattle.suspect_map.specs.Modules.{modules}
use Rattle.suspect_map.proofs.Steps.{same_name}
use Rattle.suspect_map.proofs.GroupLaws.{lists-by, within-by, ascending-by}
use Rattle.suspect_map.proofs.modules.ModulesGranularity.groups.Goals as goal

pub returns-clause-lists : goal.returns-clause-lists
returns-clause-lists c =
    lists-by modules same_name (codes "module") c.args.places.now c.deref.result.now c.groups.result (c.deref.ensures.value ∙ c.in_ok-firsts.ensures.firsts) c.groups.ensures

pub returns-clause-within : goal.returns-clause-within
returns-clause-within c = within-by modules same_name (codes "module") c.args.places.now c.groups.result (returns-clause-lists c)

pub returns-clause-ascending : goal.returns-clause-ascending
returns-clause-ascending c = ascending-by modules same_name (codes "module") c.args.places.now c.groups.result (returns-clause-lists c)

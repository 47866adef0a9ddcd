use Rattle.suspect_map.proofs.SuspectsFound.{suspects-found}
use Rattle.suspect_map.proofs.laws.groups_are_suspects.Goals as goal

pub returns : goal.returns
returns g c = suspects-found g.of.grouping c.requires g.of.kind g.of.places

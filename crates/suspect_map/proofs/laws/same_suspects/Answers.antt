use Rattle.suspect_map.proofs.SuspectLaws.{suspects-same}
use Rattle.suspect_map.proofs.laws.same_suspects.Goals as goal

pub returns : goal.returns
returns g c = suspects-same g.of.grouping g.of.kind g.of.places g.of.one g.of.other c.requires.0 c.requires.1

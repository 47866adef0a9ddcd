use Rattle.std.proofs.lemmas.Map.Text.{hash_map_updates_str}
use Rattle.v_hierarchy.proofs.places.Places.put.Goals as goal

pub returns-clause-put : goal.returns-clause-put
returns-clause-put c = hash_map_updates_str c.args.name.now c.args.self.now.by_name c.insert.new.self _ c.in_ok-insert.ensures.updates

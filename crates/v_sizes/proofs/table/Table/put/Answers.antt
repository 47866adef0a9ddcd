use Rattle.std.proofs.lemmas.Map.Text.{hash_map_updates_str}
use Rattle.v_sizes.proofs.table.Table.put.Goals as goal

pub returns-clause-ok : goal.returns-clause-ok
returns-clause-ok c = hash_map_updates_str c.args.name.now c.args.self.now.by_name c.insert.new.self _ c.in_ok-was.ensures.updates

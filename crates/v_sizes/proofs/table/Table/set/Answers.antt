use Rattle.std.proofs.Common.{rules}
use Rattle.std.proofs.lemmas.Map.Text.{hash_map_updates_str}
use Rattle.v_sizes.proofs.table.Table.set.Goals as goal

pub returns-in-Some : goal.returns-in-Some
returns-in-Some c =
    hash_map_updates_str c.args.name.now c.args.self.now.by_name (c.get_mut.follows.lender c.args.meaning) _
    ((c.get_mut.follows.holds c.args.meaning).3 (search rules))

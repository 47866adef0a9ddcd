-- How the fields of a map stand for what contracts see of it; only private contracts cite it.
use Rattle.std.specs.Prelude.{length}
use Rattle.node_map.specs.declared.map.NodeMap.TheInside.{Inside}
use Rattle.node_map.specs.Entries.{Tracked, put, AreWithin}

abbrev pub tracked_of : Inside → Tracked
tracked_of a = record { now = a.nodes; base = put a.replaced a.nodes }

-- what was replaced stands in the map
abbrev pub CanGoBack : Inside → Type 0
CanGoBack a = AreWithin (length a.nodes) a.replaced

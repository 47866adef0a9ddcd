-- How the fields of an arena stand for what contracts see of it; only private contracts cite it.
use Rattle.std.specs.Prelude.{◌≡◌, ◌≤◌, ◌<◌, ◌^◌}
use Rattle.gate_base.specs.declared.arena.Maker.TheInside.{Inside}
use Rattle.gate_base.specs.Nodes.{counted, sources_in}
use Rattle.gate_base.specs.Arena.{Arena}

abbrev pub arena_of : Inside → Arena
arena_of a = record { nodes = a.nodes.items; limit = a.limit }

-- both kinds of nodes are counted, and numbers of nodes fit 32 bits
pub record IsArena (a : Inside) : Type 0 where
  pub counts : a.counted ≡ counted a.nodes.items
  pub sources : a.sources ≡ sources_in a.nodes.items
  pub within : a.counted ≤ a.limit
  pub low_limit : a.limit < 2 ^ 31
  pub few_sources : a.sources ≤ 2 ^ 31

-- The signals in which two arms may differ, merged one after another, as code goes over them; only private contracts cite it.
use Rattle.std.specs.Prelude.{ℕ, List, [], ◌∷◌, get_or, set}
use Rattle.design_core.specs.declared.signal.Signal.{Signal}
use Rattle.design_core.specs.Valuation.{width_at}
use Rattle.node_map.specs.declared.entry.Entry.{Entry}
use Rattle.word_net.specs.declared.node.WordNode.{WordNode}
use Rattle.synth_parts.specs.Store.{Nodes, nodes_made}
use Rattle.synth_parts.specs.Statement.{Maps, maps, chosen_made}

-- one signal of one map, for which an arm left a node
unfoldable pub entry_row : List WordNode → ℕ → ℕ → ℕ → ℕ → List ℕ → Nodes
entry_row nodes test width s one map = let a = chosen_made nodes test width one (get_or map s 0) in nodes_made a.nodes (set map s a.node)

-- all of them, by the entries that the arm left in two maps
unfoldable pub rows_merged : List Signal → ℕ → List Entry → List Entry → Maps → Maps
rows_merged signals test [] laters m = m
rows_merged signals test (one ∷ ones) [] m = m
rows_merged signals test (one ∷ ones) (later ∷ laters) m =
    let width = width_at signals one.signal in
    let a = entry_row m.nodes test width one.signal one.node m.now in
    let b = entry_row a.nodes test width one.signal later.node m.later in
    rows_merged signals test ones laters (maps b.nodes a.each b.each)

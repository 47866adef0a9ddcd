-- The maps of an arm that are merged into another's.
use Rattle.std.proofs.Common.{◌≡◌, ℕ, zero, suc, ◌+◌, List, refl}
use Rattle.design_core.specs.declared.signal.Signal.{Signal}
use Rattle.design_core.specs.Valuation.{width_at}
use Rattle.word_net.specs.declared.node.WordNode.{WordNode}
use Rattle.synth_parts.specs.Statement.{Maps, maps, row_made, merged}

-- what stands beside the maps of an arm doesn't matter
pub merged-arm : (signals : List Signal) (test : ℕ) (now later : List ℕ) (nodes other : List WordNode) (more s : ℕ) (m : Maps)
    → merged signals test (maps nodes now later) m s more ≡ merged signals test (maps other now later) m s more
unfolding merged
merged-arm signals test now later nodes other zero s m = refl
merged-arm signals test now later nodes other (suc more) s m =
    let width = width_at signals s in
    let a = row_made m.nodes test width s now m.now in
    let b = row_made a.nodes test width s later m.later in
    merged-arm signals test now later nodes other more (s + 1) (maps b.nodes a.each b.each)

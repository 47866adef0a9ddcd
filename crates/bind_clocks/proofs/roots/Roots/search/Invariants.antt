use Rattle.std.proofs.Common.{◌≡◌, take, false}
use Rattle.std.specs.List.{list_any}
use Rattle.bind_clocks.specs.Rooted.{has_root}
use Rattle.bind_clocks.proofs.roots.Roots.search.Given as goal

abbrev pub invariant-loop-root : goal.invariant-loop-root
invariant-loop-root l = list_any (has_root l.signal l.input) (take l.root-index l.root-items) ≡ false

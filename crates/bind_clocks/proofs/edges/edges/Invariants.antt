use Rattle.std.proofs.Common.{◌≡◌, take, map}
use Rattle.v_syntax.specs.ItemTree.{event_of}
use Rattle.v_binding.specs.Clocks.{edges}
use Rattle.v_binding.specs.Seen.{names_in}
use Rattle.bind_clocks.specs.Waits.{waited_of}
use Rattle.bind_clocks.proofs.edges.edges.Given as goal

abbrev pub invariant-loop-event : goal.invariant-loop-event
invariant-loop-event l = map waited_of l.list ≡ edges l.bound.roots (names_in l.names) (map event_of (take l.event-index l.events))

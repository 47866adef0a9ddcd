use Rattle.std.proofs.Common.{◌≡◌, drop, map}
use Rattle.v_syntax.specs.ItemTree.{event_of}
use Rattle.v_binding.specs.Blocks.{has_edge}
use Rattle.bind_statements.proofs.events.has_edge.Given as goal

abbrev pub invariant-loop-event : goal.invariant-loop-event
invariant-loop-event l = has_edge (map event_of (drop l.event-index l.events)) ≡ has_edge (map event_of l.events)

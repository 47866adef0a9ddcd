use Rattle.std.proofs.Common.{◌≡◌, drop, map}
use Rattle.v_syntax.specs.ItemTree.{event_of}
use Rattle.v_binding.specs.Blocks.{event_at}
use Rattle.v_binding.specs.Steps.{each}
use Rattle.v_binding.specs.Seen.{names_in}
use Rattle.bind_statements.proofs.events.events_at.Given as goal

abbrev pub invariant-loop-event : goal.invariant-loop-event
invariant-loop-event l =
    each (event_at (names_in l.names)) (map event_of (drop l.event-index l.events)) tt ≡ each (event_at (names_in l.names)) (map event_of l.events) tt

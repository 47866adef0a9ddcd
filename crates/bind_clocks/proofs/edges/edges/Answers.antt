use Rattle.std.proofs.Common.{◌∙◌, ◌++◌, [], ap, sym, map, take}
use Rattle.v_syntax.specs.ItemTree.{event_of}
use Rattle.v_binding.specs.Clocks.{waited, edges}
use Rattle.v_binding.specs.Seen.{names_in}
use Rattle.loc_base.proofs.ShelfLists.{map-take_at}
use Rattle.bind_clocks.proofs.EdgeLaws.{edges-more}
use Rattle.bind_clocks.proofs.edges.edges.Goals as goal

pub loop-event-preserved : goal.loop-event-preserved
loop-event-preserved c =
    let roots = c.args.bound.now.roots in
    let names = names_in c.args.names.now in
    let i = c.loop-event.event-index in
    let x = c.event-item.result in
    c.in_ok-add_edge.ensures ∙ ap (λ ws. ws ++ waited roots names (event_of x) []) c.loop-event.invariant
    ∙ sym (edges-more roots names (map event_of (take i c.args.events.now)) (event_of x))
    ∙ ap (edges roots names) (sym (map-take_at event_of c.args.events.now i x c.loop-event-test.true c.event-item.is))

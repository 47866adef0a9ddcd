use Rattle.std.proofs.Common.{◌≡◌, ◌-◌, map, drop}
use Rattle.v_syntax.specs.StatementTree.{head_of}
use Rattle.v_syntax.specs.ItemTree.{item_of, items_of, block_of}
use Rattle.v_hierarchy.specs.Items.{items}
use Rattle.v_loops.specs.Heads.{IsTurning}
use Rattle.v_connections.specs.Places.{place_of}
use Rattle.v_elaborate.specs.Parts.{turns_met}
use Rattle.v_elaborate.specs.Met.{met_of, outer_at, frames_at}
use Rattle.v_elaborate.proofs.TurnSteps.{generate_from}
use Rattle.v_elaborate.proofs.met.Met.+items.Given as goal

abbrev pub invariant-items-loop-item : goal.invariant-items-loop-item
invariant-items-loop-item l = record {
  around : outer_at l.self ≡ outer_at l.fn.self;
  rest : items (place_of l.place (outer_at l.fn.self)) (items_of (map item_of (drop l.item-index l.items))) (met_of l.self)
      ≡ items (place_of l.place (outer_at l.fn.self)) (items_of (map item_of l.items)) (met_of l.fn.self);
}

abbrev pub invariant-generate_turns-loop-turn : goal.invariant-generate_turns-loop-turn
invariant-generate_turns-loop-turn l = record {
  same : frames_at l.self ≡ frames_at l.fn.self;
  fits : IsTurning l.next.value;
  rest : generate_from (place_of l.repeats.place.now (outer_at l.fn.self)) l.repeats.span (head_of l.repeats.head.now) (block_of l.block) (frames_at l.fn.self)
      (65536 - l._turn) l.next.value l.next.runs (met_of l.self)
      ≡ turns_met (place_of l.repeats.place.now (outer_at l.fn.self)) l.repeats.span (head_of l.repeats.head.now) (block_of l.block) (frames_at l.fn.self)
      (l.fn.first.value, l.fn.first.runs) (met_of l.fn.self);
}

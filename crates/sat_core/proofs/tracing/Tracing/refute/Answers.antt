use Rattle.std.proofs.Common.{length}
use Rattle.std.specs.BinaryHeap.{heap_items}
use Rattle.sat_core.specs.Derivation.{Refutes}
use Rattle.sat_core.proofs.TracingBack.{AreDue-permutation, Refutes-all, refuted_next, top_less}
use Rattle.sat_core.proofs.tracing.Tracing.refute.Goals as goal

pub refute_at-requires-clause-tracing : goal.refute_at-requires-clause-tracing
refute_at-requires-clause-tracing c =
    let h = c.loop-place.invariant.tracing in
    record {
      size = h.size;
      places = h.places;
      are_due = AreDue-permutation c.args.trail.now c.loop-place.self.marked.items _ _ c.in-Some.ensures.permutation h.are_due;
      order = (c.in-Some.ensures.heap_order h.order).0;
      gathers = h.gathers;
      met_within = h.met_within;
      met_each = h.met_each;
    }

next : (c : goal.In_ok-refute_at) → Refutes c.args.trail.now c.args.self.now.marked.items c.refute_at.new.self.marked.items c.args.self.now.chain.items c.refute_at.new.self.chain.items c.in-Some.place
next c =
    let h = c.loop-place.invariant.tracing in
    refuted_next c.args.trail.now c.args.self.now.marked.items c.loop-place.self.marked.items c.refute_at.new.self.marked.items c.args.self.now.chain.items c.loop-place.self.chain.items c.refute_at.new.self.chain.items c.in-Some.place _ _ c.requires.trail c.requires.tracing.size h.are_due c.in-Some.ensures.permutation (c.in-Some.ensures.heap_order h.order).1 c.loop-place.invariant.refutes c.in_ok-refute_at.ensures.step

pub loop-place-smaller : goal.loop-place-smaller
loop-place-smaller c =
    top_less c.args.trail.now c.args.self.now.marked.items c.refute_at.new.self.marked.items c.args.self.now.chain.items c.refute_at.new.self.chain.items c.in-Some.place (heap_items c.loop-place.self.due) _ (heap_items c.refute_at.new.self.due) c.in-Some.ensures.permutation (next c) c.in_ok-refute_at.ensures.tracing.are_due

pub loop-place-preserved : goal.loop-place-preserved
loop-place-preserved c = record {
  tracing = c.in_ok-refute_at.ensures.tracing;
  refutes = Refutes-all c.args.trail.now c.args.self.now.marked.items c.refute_at.new.self.marked.items c.args.self.now.chain.items c.refute_at.new.self.chain.items c.in-Some.place (next c);
}

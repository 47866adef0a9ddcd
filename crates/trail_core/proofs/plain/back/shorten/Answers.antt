use Rattle.std.proofs.Common.{◌≡◌, ◌+◌, ◌-◌, ◌∷◌, [], ◌++◌, map, set, take, length, ap, ◌∙◌, sym, subst, arith, None}
use Rattle.std.proofs.lemmas.List.{length-set, length-map, map-set}
use Rattle.trail_core.specs.Layout.{AreNew, value_in}
use Rattle.trail_core.specs.Values.{IsVariable}
use Rattle.trail_core.proofs.Back.{last_variable, pops}
use Rattle.trail_core.proofs.plain.back.shorten.Goals as goal

pub loop-preserved : goal.loop-preserved
loop-preserved c =
    let n = c.args.keep + (c.len-end.result - (c.loop.counter + 1)) in
    let new : AreNew (length c.loop.assigned.items) c.args.entries.now.items = subst (λ v. AreNew v c.args.entries.now.items) (sym c.loop.invariant.size) c.requires.new in
    let number : c.args.keep + (c.len-end.result - c.loop.counter) ≡ n + 1 = omega arith in
    let whole = c.loop.invariant.left ∙ ap (λ k. take k c.args.entries.now.items) number in
    let last : c.loop.entries.items ≡ c.pop.new.self.items ++ c.unwrap-entry.result ∷ [] = rw c.unwrap-entry.ensures at c.pop.ensures.items in
    let p = pops c.args.entries.now.items c.loop.entries.items c.pop.new.self.items c.loop.assigned.items n c.unwrap-entry.result new (omega arith) whole last c.loop.invariant.index c.loop.invariant.counted in
    let values : set c.loop.values.items (c.unwrap-entry.result.lit.var - 1) None ≡ map value_in (set c.loop.assigned.items (c.unwrap-entry.result.lit.var - 1) None) =
    ap (λ vs. set vs (c.unwrap-entry.result.lit.var - 1) None) c.loop.invariant.values ∙ sym (map-set value_in c.loop.assigned.items (c.unwrap-entry.result.lit.var - 1) None) in
    record {
      end = c.loop.invariant.end;
      left = p.left_is;
      capacity = c.pop.ensures.capacity ∙ c.loop.invariant.capacity;
      size = length-set c.loop.assigned.items (c.unwrap-entry.result.lit.var - 1) None ∙ c.loop.invariant.size;
      index = p.index;
      counted = p.counted;
      values = values;
      value_size = ap length values ∙ length-map (set c.loop.assigned.items (c.unwrap-entry.result.lit.var - 1) None) value_in;
    }

pub overflow_sub-entry : goal.overflow_sub-entry
overflow_sub-entry c =
    let v : IsVariable (length c.args.assigned.now.items) c.unwrap-entry.result.lit.var =
    last_variable c.args.entries.now.items c.loop.entries.items c.pop.new.self.items (length c.args.assigned.now.items)
    (c.args.keep + (c.len-end.result - c.loop.counter)) c.unwrap-entry.result c.requires.new (omega arith) (omega arith)
    c.loop.invariant.left (rw c.unwrap-entry.ensures at c.pop.ensures.items) in
    v.above

pub index_mut-requires : goal.index_mut-requires
index_mut-requires c =
    let v : IsVariable (length c.args.assigned.now.items) c.unwrap-entry.result.lit.var =
    last_variable c.args.entries.now.items c.loop.entries.items c.pop.new.self.items (length c.args.assigned.now.items)
    (c.args.keep + (c.len-end.result - c.loop.counter)) c.unwrap-entry.result c.requires.new (omega arith) (omega arith)
    c.loop.invariant.left (rw c.unwrap-entry.ensures at c.pop.ensures.items) in
    omega (arith, v.above, v.within)

pub overflow_sub-entry-in-loop : goal.overflow_sub-entry-in-loop
overflow_sub-entry-in-loop c =
    let v : IsVariable (length c.args.assigned.now.items) c.unwrap-entry.result.lit.var =
    last_variable c.args.entries.now.items c.loop.entries.items c.pop.new.self.items (length c.args.assigned.now.items)
    (c.args.keep + (c.len-end.result - c.loop.counter)) c.unwrap-entry.result c.requires.new (omega arith) (omega arith)
    c.loop.invariant.left (rw c.unwrap-entry.ensures at c.pop.ensures.items) in
    v.above

pub index_mut-requires-in-loop : goal.index_mut-requires-in-loop
index_mut-requires-in-loop c =
    let v : IsVariable (length c.args.assigned.now.items) c.unwrap-entry.result.lit.var =
    last_variable c.args.entries.now.items c.loop.entries.items c.pop.new.self.items (length c.args.assigned.now.items)
    (c.args.keep + (c.len-end.result - c.loop.counter)) c.unwrap-entry.result c.requires.new (omega arith) (omega arith)
    c.loop.invariant.left (rw c.unwrap-entry.ensures at c.pop.ensures.items) in
    omega (arith, v.above, v.within)

pub returns-clause-kept : goal.returns-clause-kept
returns-clause-kept c =
    let done : c.args.keep + (c.len-end.result - c.loop.counter) ≡ c.args.keep = omega arith in
    c.loop.invariant.left ∙ ap (λ k. take k c.args.entries.now.items) done

use Rattle.std.proofs.Common.{◌<◌, ◌∙◌, length, arith, subst, sym, true}
use Rattle.std.proofs.lemmas.List.{length-set}
use Rattle.std.proofs.lemmas.Option.{get_or_from_slice_get}
use Rattle.cycle_sim.proofs.Choosing.{freed-next, freed-end}
use Rattle.value_runs.proofs.entries.free.Goals as goal

pub bounds-freed-place_at : goal.bounds-freed-place_at
bounds-freed-place_at c =
    let is = sym (get_or_from_slice_get c.args.places.now c.loop-k.k c.place_at.result c.place_at.result c.place_at.ensures) in
    subst (λ n. n < length c.loop-k.freed) (sym is) (omega (arith, c.requires c.loop-k.k c.place_at.result c.loop-k-test.true, c.loop-k.invariant.length))

pub loop-k-preserved : goal.loop-k-preserved
loop-k-preserved c =
    let is = sym (get_or_from_slice_get c.args.places.now c.loop-k.k c.place_at.result c.place_at.result c.place_at.ensures) in
    let inside : c.place_at.result < length c.loop-k.freed =
    subst (λ n. n < length c.loop-k.freed) (sym is) (omega (arith, c.requires c.loop-k.k c.place_at.result c.loop-k-test.true, c.loop-k.invariant.length)) in
    record {
      length = length-set c.loop-k.freed c.place_at.result true ∙ c.loop-k.invariant.length;
      freed = λ p. freed-next c.args.places.now c.loop-k.freed c.loop-k.k c.place_at.result c.loop-k-test.true is inside p ∙ c.loop-k.invariant.freed p;
    }

pub returns-clause-freed : goal.returns-clause-freed
returns-clause-freed c p = freed-end c.args.places.now c.loop-k.freed c.loop-k.k p _ (omega (arith, c.loop-k-test.false)) (c.loop-k.invariant.freed p)

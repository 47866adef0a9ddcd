use Rattle.std.proofs.Common.{◌≡◌, ℕ, ◌-◌, ◌+◌, ◌<◌, get_or, set, length, arith, subst, refl, ◌∙◌}
use Rattle.std.proofs.lemmas.List.{length-set}
use Rattle.std.proofs.lemmas.Option.{get_or_from_slice_get}
use Rattle.cycle_sim.proofs.Choosing.{ChosenSoFar, chosen-none, chosen-next}
use Rattle.value_runs.proofs.entries.choose.Goals as goal

pub loop-left-init : goal.loop-left-init
loop-left-init c =
    record {
      most = omega arith;
      length = refl;
      value = chosen-none c.args.places.now c.args.row.now c.args.choice.now (length c.args.places.now) refl;
    }

pub bounds-choice-place_at : goal.bounds-choice-place_at
bounds-choice-place_at c =
    let k : ℕ = c.loop-left.left - 1 in
    let below : k < length c.args.places.now = omega (arith, c.loop-left-test.true, c.loop-left.invariant.most) in
    let is = get_or_from_slice_get c.args.places.now k c.place_at.result c.place_at.result c.place_at.ensures in
    subst (λ n. n < length c.loop-left.choice) is
    (omega (arith, c.requires.places k c.place_at.result below, c.loop-left.invariant.length))

pub loop-left-preserved : goal.loop-left-preserved
loop-left-preserved c =
    let k : ℕ = c.loop-left.left - 1 in
    let below : k < length c.args.places.now = omega (arith, c.loop-left-test.true, c.loop-left.invariant.most) in
    let next : c.loop-left.left ≡ k + 1 = omega (arith, c.loop-left-test.true) in
    let which : get_or c.args.places.now k 0 ≡ c.place_at.result = get_or_from_slice_get c.args.places.now k c.place_at.result 0 c.place_at.ensures in
    let inside : get_or c.args.places.now k 0 < length c.loop-left.choice = omega (arith, c.requires.places k 0 below, c.loop-left.invariant.length) in
    record {
      most = omega (arith, c.loop-left.invariant.most);
      length = length-set c.loop-left.choice c.place_at.result c.index-row-left.result ∙ c.loop-left.invariant.length;
      value = subst (λ n. ChosenSoFar c.args.places.now c.args.row.now c.args.choice.now (set c.loop-left.choice n c.index-row-left.result) k) which
          (chosen-next c.args.places.now c.args.row.now c.args.choice.now c.loop-left.choice k c.index-row-left.result below (omega (arith, below, c.requires.row)) c.index-row-left.is inside
          (subst (λ n. ChosenSoFar c.args.places.now c.args.row.now c.args.choice.now c.loop-left.choice n) next c.loop-left.invariant.value));
    }

use Rattle.std.proofs.Common.{◌≡◌, ◌∙◌, ◌+◌, ◌-◌, subst, arith}
use Rattle.sat_core.specs.Derivation.{Refutes}
use Rattle.sat_core.proofs.Refuting.{Refutes-step}
use Rattle.sat_core.proofs.analysis.Analysis.refute.Goals as goal

pub loop-place-preserved : goal.loop-place-preserved
loop-place-preserved c =
    let one : c.loop-place.place ≡ c.loop-place.place - 1 + 1 = omega (arith, c.loop-place-test.true) in
    record {
      within = omega (arith, c.loop-place.invariant.within);
      size = c.refute_at.ensures.size ∙ c.loop-place.invariant.size;
      literals = c.refute_at.ensures.literals ∙ c.loop-place.invariant.literals;
      refutes = Refutes-step c.args.trail.now c.args.self.now.marked.items c.loop-place.self.marked.items c.refute_at.new.self.marked.items c.args.self.now.chain.items c.loop-place.self.chain.items c.refute_at.new.self.chain.items (c.loop-place.place - 1) c.requires.trail c.requires.size
          (omega (arith, c.loop-place.invariant.within, c.loop-place-test.true))
          (subst (Refutes c.args.trail.now c.args.self.now.marked.items c.loop-place.self.marked.items c.args.self.now.chain.items c.loop-place.self.chain.items) one c.loop-place.invariant.refutes)
          c.in_ok-refute_at.ensures.step;
    }

use Rattle.std.proofs.Common.{◌≤◌, arith}
use Rattle.sat_core.proofs.Resolving.{place_left}
use Rattle.sat_core.proofs.analysis.Analysis.descend.Goals as goal

pub overflow_sub-place : goal.overflow_sub-place
overflow_sub-place c = place_left c.args.trail.now c.loop-self.self.marked.items c.loop-self.self.literals.items c.loop-self.self.chain.items c.loop-self.self.present c.loop-self.place c.loop-self.invariant.resolved

pub loop-self-smaller : goal.loop-self-smaller
loop-self-smaller c =
    let left : 1 ≤ c.loop-self.place = place_left c.args.trail.now c.loop-self.self.marked.items c.loop-self.self.literals.items c.loop-self.self.chain.items c.loop-self.self.present c.loop-self.place c.loop-self.invariant.resolved in
    omega (arith, left)

use Rattle.std.proofs.Common.{◌-◌, ◌<◌, ◌∙◌, length, subst, arith}
use Rattle.std.proofs.lemmas.List.{get_or_default}
use Rattle.sat_core.specs.Derivation.{Covers}
use Rattle.sat_core.proofs.Shrinking.{kept_variable_at}
use Rattle.sat_core.proofs.analysis.Analysis.shrink.Goals as goal

pub redundant_by-requires-clause-variable : goal.redundant_by-requires-clause-variable
redundant_by-requires-clause-variable c =
    let low : c.loop-place.place - 1 < length c.loop-place.self.literals.items = omega (arith, c.loop-place-test.true, c.loop-place.invariant.within) in
    kept_variable_at c.args.trail.now c.loop-place.self.marked.items c.loop-place.self.literals.items c.loop-place.self.present (c.loop-place.place - 1) c.index-l.result.now c.requires.trail c.loop-place.invariant.tracks low c.index-l.ensures

pub leave_out-requires-clause-covers : goal.leave_out-requires-clause-covers
leave_out-requires-clause-covers c = λ d.
    let low : c.loop-place.place - 1 < length c.loop-place.self.literals.items = omega (arith, c.loop-place-test.true, c.loop-place.invariant.within) in
    subst (Covers c.args.trail.now c.loop-place.self.marked.items c.in-Some.number) (c.index-l.ensures ∙ get_or_default c.loop-place.self.literals.items (c.loop-place.place - 1) c.index-l.result.now d low) c.in-Some.ensures

use Rattle.std.proofs.Common.{◌∙◌, ◌-◌, ◌<◌, ◌≤◌, length, sym, subst, ap, arith}
use Rattle.clause_base.specs.declared.literal.Lit.{Lit}
use Rattle.trail_core.specs.Values.{IsVariable}
use Rattle.sat_core.specs.Derivation.{marked}
use Rattle.sat_core.proofs.Resolving.{no_entry, place_lit, place_left, Resolved-passed}
use Rattle.sat_core.proofs.Learning.{only_present, one_before, some_read, variable_read}
use Rattle.sat_core.proofs.analysis.Analysis.last_marked.Goals as goal

pub overflow_sub-place : goal.overflow_sub-place
overflow_sub-place c = place_left c.args.trail.now c.args.self.now.marked.items c.args.self.now.literals.items c.args.self.now.chain.items c.args.self.now.present c.loop-l.place c.loop-l.invariant.resolved

pub unwrap-l-requires : goal.unwrap-l-requires
unwrap-l-requires c =
    let left : 1 ≤ c.loop-l.place = place_left c.args.trail.now c.args.self.now.marked.items c.args.self.now.literals.items c.args.self.now.chain.items c.args.self.now.present c.loop-l.place c.loop-l.invariant.resolved in
    some_read c.args.trail.now.entries (c.loop-l.place - 1) c.at.result (omega (arith, left, c.loop-l.invariant.within)) c.at.ensures

pub is_marked-requires : goal.is_marked-requires
is_marked-requires c =
    let left : 1 ≤ c.loop-l.place = place_left c.args.trail.now c.args.self.now.marked.items c.args.self.now.literals.items c.args.self.now.chain.items c.args.self.now.present c.loop-l.place c.loop-l.invariant.resolved in
    let within : c.loop-l.place - 1 < length c.args.trail.now.entries = omega (arith, left, c.loop-l.invariant.within) in
    subst (λ n. IsVariable n c.unwrap-l.result.var) (sym c.requires.resolved.tracks.size)
    (variable_read c.args.trail.now (c.loop-l.place - 1) c.unwrap-l.result c.requires.trail within (place_lit c.args.trail.now.entries (c.loop-l.place - 1) c.unwrap-l.result c.at.result within c.at.ensures c.unwrap-l.ensures))

pub returns-then-is_marked : goal.returns-then-is_marked
returns-then-is_marked c =
    let left : 1 ≤ c.loop-l.place = place_left c.args.trail.now c.args.self.now.marked.items c.args.self.now.literals.items c.args.self.now.chain.items c.args.self.now.present c.loop-l.place c.loop-l.invariant.resolved in
    let within : c.loop-l.place - 1 < length c.args.trail.now.entries = omega (arith, left, c.loop-l.invariant.within) in
    only_present c.args.trail.now c.args.self.now.marked.items c.args.self.now.literals.items c.args.self.now.chain.items c.args.self.now.present (c.loop-l.place - 1) c.unwrap-l.result c.requires.trail
    (one_before c.args.trail.now c.args.self.now.marked.items c.args.self.now.literals.items c.args.self.now.chain.items c.args.self.now.present c.loop-l.place c.loop-l.invariant.resolved) within c.requires.alone
    (place_lit c.args.trail.now.entries (c.loop-l.place - 1) c.unwrap-l.result c.at.result within c.at.ensures c.unwrap-l.ensures) (sym c.is_marked.ensures ∙ c.if-is_marked.true)

pub loop-l-smaller : goal.loop-l-smaller
loop-l-smaller c =
    let left : 1 ≤ c.loop-l.place = place_left c.args.trail.now c.args.self.now.marked.items c.args.self.now.literals.items c.args.self.now.chain.items c.args.self.now.present c.loop-l.place c.loop-l.invariant.resolved in
    omega (arith, left)

pub loop-l-preserved : goal.loop-l-preserved
loop-l-preserved c =
    let left : 1 ≤ c.loop-l.place = place_left c.args.trail.now c.args.self.now.marked.items c.args.self.now.literals.items c.args.self.now.chain.items c.args.self.now.present c.loop-l.place c.loop-l.invariant.resolved in
    let within : c.loop-l.place - 1 < length c.args.trail.now.entries = omega (arith, left, c.loop-l.invariant.within) in
    record {
      resolved = Resolved-passed c.args.trail.now c.args.self.now.marked.items c.args.self.now.literals.items c.args.self.now.chain.items c.args.self.now.present (c.loop-l.place - 1) no_entry
          (one_before c.args.trail.now c.args.self.now.marked.items c.args.self.now.literals.items c.args.self.now.chain.items c.args.self.now.present c.loop-l.place c.loop-l.invariant.resolved)
          (ap (λ (x : Lit). marked c.args.self.now.marked.items x.var) (place_lit c.args.trail.now.entries (c.loop-l.place - 1) c.unwrap-l.result c.at.result within c.at.ensures c.unwrap-l.ensures) ∙ (sym c.is_marked.ensures ∙ c.if-is_marked.false)) within;
      within = omega (arith, within);
    }

use Rattle.std.proofs.Common.{◌≡◌, ◌∙◌, ◌<◌, length, get_or, ap, sym, arith}
use Rattle.sat_core.specs.declared.analysis.Analysis.{Analysis}
use Rattle.sat_core.proofs.Resolving.{no_entry, place_lit}
use Rattle.sat_core.proofs.Denying.{collected_more, collected_same}
use Rattle.sat_core.proofs.analysis.Analysis.collect.Goals as goal
use Rattle.sat_core.proofs.analysis.Analysis.collect.Goals.{then-is_marked+in_ok-push, else-is_marked}

pub loop-place-preserved : goal.loop-place-preserved
loop-place-preserved c =
    let within : c.loop-place.place < length c.args.trail.now.entries = omega (arith, c.loop-place-test.true, c.len-place-end.ensures) in
    let lit : (get_or c.args.trail.now.entries c.loop-place.place no_entry).lit ≡ c.unwrap-l.result =
    place_lit c.args.trail.now.entries c.loop-place.place c.unwrap-l.result c.at.result within c.at.ensures c.unwrap-l.ensures in
    elim c.if-is_marked.branch [
      | then-is_marked+in_ok-push w ↦ record {
        set = ap (λ (a : Analysis). a.marked) w.self-is ∙ c.loop-place.invariant.set;
        chain = ap (λ (a : Analysis). a.chain) w.self-is ∙ c.loop-place.invariant.chain;
        literals = ap (λ (a : Analysis). a.literals.items) w.self-is
            ∙ collected_more c.args.self.now.marked.items c.loop-place.self.marked.items c.args.trail.now.entries c.loop-place.place c.unwrap-l.result w.opposite.result c.args.self.now.literals.items c.loop-place.self.literals.items w.push.new.self.items within lit (ap (λ v. v.items) c.loop-place.invariant.set) (sym c.is_marked.ensures ∙ w.if-is_marked.true) w.opposite.ensures c.loop-place.invariant.literals w.in_ok-push.ensures.items;
      }
      | else-is_marked w ↦ record {
        set = ap (λ (a : Analysis). a.marked) w.self-is ∙ c.loop-place.invariant.set;
        chain = ap (λ (a : Analysis). a.chain) w.self-is ∙ c.loop-place.invariant.chain;
        literals = ap (λ (a : Analysis). a.literals.items) w.self-is
            ∙ collected_same c.args.self.now.marked.items c.loop-place.self.marked.items c.args.trail.now.entries c.loop-place.place c.unwrap-l.result c.args.self.now.literals.items c.loop-place.self.literals.items within lit (ap (λ v. v.items) c.loop-place.invariant.set) (sym c.is_marked.ensures ∙ w.if-is_marked.false) c.loop-place.invariant.literals;
      }
    ]

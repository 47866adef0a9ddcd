use Rattle.std.proofs.Common.{◌-◌, ◌++◌, ◌∷◌, [], false, set, sym, subst, arith}
use Rattle.std.specs.List.{swap_remove}
use Rattle.std.specs.Prelude.{IsPermutation}
use Rattle.std.proofs.lemmas.List.Sorted.{IsPermutation-swap_remove}
use Rattle.clause_base.specs.declared.literal.Lit.{Lit}
use Rattle.trail_core.specs.TrailState.{values_of}
use Rattle.sat_core.specs.Derivation.{set_of, Tracks, Derives, Leaves}
use Rattle.sat_core.proofs.Shrinking.{kept_variable_at, Derives-left, Tracks-left, Leaves-none, Leaves-more}
use Rattle.sat_core.proofs.analysis.Analysis.leave_out.Goals as goal

pub overflow_sub-l : goal.overflow_sub-l
overflow_sub-l c =
    (kept_variable_at c.args.trail.now c.args.self.now.marked.items c.args.self.now.literals.items c.args.self.now.present c.args.place c.swap_remove-l.result c.requires.trail c.requires.tracks c.requires.place c.swap_remove-l.ensures.value).above

pub index_mut-requires : goal.index_mut-requires
index_mut-requires c =
    let k = kept_variable_at c.args.trail.now c.args.self.now.marked.items c.args.self.now.literals.items c.args.self.now.present c.args.place c.swap_remove-l.result c.requires.trail c.requires.tracks c.requires.place c.swap_remove-l.ensures.value in
    omega (arith, k.above, k.within, c.requires.tracks.size)

pub returns-clause-tracks : goal.returns-clause-tracks
returns-clause-tracks c =
    let moved = IsPermutation-swap_remove c.args.self.now.literals.items c.args.place c.swap_remove-l.result c.requires.place c.swap_remove-l.ensures.value in
    subst (λ ls. Tracks c.args.trail.now (set c.args.self.now.marked.items (c.swap_remove-l.result.var - 1) false) ls c.args.self.now.present) (sym c.swap_remove-l.ensures.items)
    (subst (λ (x : Lit). Tracks c.args.trail.now (set c.args.self.now.marked.items (x.var - 1) false) (swap_remove c.args.self.now.literals.items c.args.place c.swap_remove-l.result) c.args.self.now.present) (sym c.swap_remove-l.ensures.value)
    (Tracks-left c.args.trail.now c.args.self.now.marked.items c.args.self.now.literals.items (swap_remove c.args.self.now.literals.items c.args.place c.swap_remove-l.result) c.args.self.now.present c.args.place c.swap_remove-l.result c.requires.trail c.requires.tracks c.requires.place
    (subst (λ x. IsPermutation c.args.self.now.literals.items (x ∷ swap_remove c.args.self.now.literals.items c.args.place c.swap_remove-l.result)) c.swap_remove-l.ensures.value moved)))

pub returns-clause-derives : goal.returns-clause-derives
returns-clause-derives c =
    subst (λ ns. Derives c.args.trail.now.clauses ns (set_of (set c.args.self.now.marked.items (c.swap_remove-l.result.var - 1) false) (values_of c.args.trail.now.entries))) (sym c.in_ok-push.ensures.items)
    (subst (λ (x : Lit). Derives c.args.trail.now.clauses (c.args.self.now.chain.items ++ c.args.number ∷ []) (set_of (set c.args.self.now.marked.items (x.var - 1) false) (values_of c.args.trail.now.entries))) (sym c.swap_remove-l.ensures.value)
    (Derives-left c.args.trail.now c.args.self.now.marked.items c.args.self.now.literals.items c.args.self.now.chain.items c.args.self.now.present c.args.place c.args.number c.swap_remove-l.result c.requires.trail c.requires.tracks c.requires.place (c.requires.covers c.swap_remove-l.result) c.requires.derives))

pub returns-clause-leaves : goal.returns-clause-leaves
returns-clause-leaves c =
    subst (λ (x : Lit). Leaves c.args.trail.now c.args.self.now.marked.items (set c.args.self.now.marked.items (x.var - 1) false)) (sym c.swap_remove-l.ensures.value)
    (Leaves-more c.args.trail.now c.args.self.now.marked.items c.args.self.now.marked.items c.args.self.now.literals.items c.args.self.now.present c.args.place c.swap_remove-l.result c.requires.trail c.requires.tracks c.requires.place (Leaves-none c.args.trail.now c.args.self.now.marked.items))

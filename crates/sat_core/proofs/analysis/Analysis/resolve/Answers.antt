use Rattle.std.proofs.Common.{◌∙◌, ◌-◌, not, false, set, sym, subst, ap}
use Rattle.std.proofs.lemmas.Result.{on_ok_weaker}
use Rattle.clause_base.specs.Acceptance.{numbered}
use Rattle.trail_core.specs.Values.{IsVariable}
use Rattle.trail_core.specs.TrailState.{values_of}
use Rattle.sat_core.specs.Derivation.{set_of, MarksOthers, Replaces, Derives}
use Rattle.sat_core.proofs.Sets.{Derives-push}
use Rattle.sat_core.proofs.Resolving.{valued_variable, Tracks-unmark, Replaces-from, ReplacesAt-from}
use Rattle.sat_core.proofs.analysis.Analysis.resolve.Goals as goal

pub overflow_sub-l : goal.overflow_sub-l
overflow_sub-l c = (valued_variable c.args.trail.now c.args.l.var (not c.args.l.negated) c.requires.trail c.requires.forced.is_true).above

pub take_in-requires-clause-tracks : goal.take_in-requires-clause-tracks
take_in-requires-clause-tracks c =
    Tracks-unmark c.args.trail.now c.args.self.now.marked.items c.args.self.now.literals.items c.args.self.now.present c.args.l.var c.requires.trail c.requires.tracks
    (valued_variable c.args.trail.now c.args.l.var (not c.args.l.negated) c.requires.trail c.requires.forced.is_true) c.requires.set c.requires.level

replaced : (c : goal.After-take_in) → MarksOthers (set c.args.self.now.marked.items (c.args.l.var - 1) false) c.take_in.new.self.marked.items c.clause.result.now c.args.l.var → Replaces c.args.self.now.marked.items c.take_in.new.self.marked.items (numbered c.args.trail.now.clauses c.args.number) c.args.l.var
replaced c m =
    let k = valued_variable c.args.trail.now c.args.l.var (not c.args.l.negated) c.requires.trail c.requires.forced.is_true in
    Replaces-from c.args.self.now.marked.items c.take_in.new.self.marked.items (numbered c.args.trail.now.clauses c.args.number) c.args.l.var
    (subst (λ n. IsVariable n c.args.l.var) (sym c.requires.tracks.size) k)
    (subst (λ ls. MarksOthers (set c.args.self.now.marked.items (c.args.l.var - 1) false) c.take_in.new.self.marked.items ls c.args.l.var) c.clause.ensures.value m)

pub returns-clause-derives : goal.returns-clause-derives
returns-clause-derives c =
    on_ok_weaker c.take_in.result
    (λ m. subst (λ ns. Derives c.args.trail.now.clauses ns (set_of c.take_in.new.self.marked.items (values_of c.args.trail.now.entries))) (sym (ap (λ v. v.items) c.take_in.ensures.chain ∙ c.in_ok-push.ensures.items))
    (Derives-push c.args.trail.now.clauses c.args.self.now.chain.items c.args.number c.args.self.now.marked.items c.take_in.new.self.marked.items (values_of c.args.trail.now.entries) c.args.l c.requires.derives (c.requires.number.above, c.requires.number.within) c.requires.forced c.requires.set
    (ReplacesAt-from c.args.trail.now c.args.self.now.marked.items c.take_in.new.self.marked.items (numbered c.args.trail.now.clauses c.args.number) c.args.l.var c.requires.trail c.requires.tracks.size (replaced c m))))
    c.take_in.ensures.marks

pub returns-clause-replaces : goal.returns-clause-replaces
returns-clause-replaces c = on_ok_weaker c.take_in.result (λ m. replaced c m) c.take_in.ensures.marks

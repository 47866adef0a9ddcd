use Rattle.std.proofs.Common.{◌∙◌, ◌-◌, false, sym, ap, subst, arith}
use Rattle.std.proofs.lemmas.List.{length-set}
use Rattle.trail_core.specs.Values.{IsVariable}
use Rattle.sat_core.specs.Derivation.{MarksOthers}
use Rattle.sat_core.proofs.EngineLemmas.{on_ok_both}
use Rattle.sat_core.proofs.Refuting.{RefutesAt-replaced}
use Rattle.sat_core.proofs.Resolving.{reason_forces}
use Rattle.sat_core.proofs.TracingBack.{AreDue-unmarked, AreOf-unmarked, Gathers-unmarked, waiting, waiting_reason}
use Rattle.sat_core.proofs.tracing.Tracing.refute_at.Goals as goal

pub unwrap-reason-requires : goal.unwrap-reason-requires
unwrap-reason-requires c =
    let w = waiting c.args.trail.now c.args.self.now.marked.items c.args.place _ c.unwrap-l.result c.at.result c.requires.trail c.requires.tracing.are_due c.at.ensures c.unwrap-l.ensures in
    waiting_reason c.args.trail.now c.args.self.now.marked.items c.args.place c.unwrap-l.result c.reason.result c.requires.trail w c.reason.ensures

pub overflow_sub-l : goal.overflow_sub-l
overflow_sub-l c = (waiting c.args.trail.now c.args.self.now.marked.items c.args.place _ c.unwrap-l.result c.at.result c.requires.trail c.requires.tracing.are_due c.at.ensures c.unwrap-l.ensures).variable.above

pub index_mut-requires : goal.index_mut-requires
index_mut-requires c =
    let w = waiting c.args.trail.now c.args.self.now.marked.items c.args.place _ c.unwrap-l.result c.at.result c.requires.trail c.requires.tracing.are_due c.at.ensures c.unwrap-l.ensures in
    omega (arith, c.args.self.now.marked.ok.0, c.requires.tracing.size, w.variable.above, w.variable.within)

pub take_in-requires-clause-tracing : goal.take_in-requires-clause-tracing
take_in-requires-clause-tracing c =
    let s = c.args.self.now in
    let w = waiting c.args.trail.now c.args.self.now.marked.items c.args.place _ c.unwrap-l.result c.at.result c.requires.trail c.requires.tracing.are_due c.at.ensures c.unwrap-l.ensures in
    let inside = subst (λ n. IsVariable n c.unwrap-l.result.var) (sym c.requires.tracing.size) w.variable in
    record {
      size = length-set s.marked.items (c.unwrap-l.result.var - 1) false ∙ c.requires.tracing.size;
      places = c.requires.tracing.places;
      are_due = AreDue-unmarked c.args.trail.now s.marked.items c.args.place c.unwrap-l.result.var c.requires.trail c.requires.tracing.size w.within (ap (λ l. l.var) w.lit) _ c.requires.tracing.are_due;
      order = c.requires.tracing.order;
      gathers = Gathers-unmarked c.args.trail.now s.marked.items s.literals.items c.unwrap-l.result c.requires.trail c.requires.tracing.size c.requires.tracing.gathers w.variable c.unwrap-reason.result (sym c.reason.ensures ∙ c.unwrap-reason.ensures);
      met_within = c.requires.tracing.met_within;
      met_each = AreOf-unmarked s.marked.items s.met.items c.unwrap-l.result c.requires.tracing.met_each inside;
    }

pub take_in-requires-clause-number : goal.take_in-requires-clause-number
take_in-requires-clause-number c =
    let w = waiting c.args.trail.now c.args.self.now.marked.items c.args.place _ c.unwrap-l.result c.at.result c.requires.trail c.requires.tracing.are_due c.at.ensures c.unwrap-l.ensures in
    (reason_forces c.args.trail.now c.args.place c.unwrap-l.result c.reason.result c.unwrap-reason.result c.requires.trail w.within w.lit c.reason.ensures c.unwrap-reason.ensures).0

pub take_in-requires-clause-falsified : goal.take_in-requires-clause-falsified
take_in-requires-clause-falsified c =
    let w = waiting c.args.trail.now c.args.self.now.marked.items c.args.place _ c.unwrap-l.result c.at.result c.requires.trail c.requires.tracing.are_due c.at.ensures c.unwrap-l.ensures in
    (reason_forces c.args.trail.now c.args.place c.unwrap-l.result c.reason.result c.unwrap-reason.result c.requires.trail w.within w.lit c.reason.ensures c.unwrap-reason.ensures).1.others

pub returns-clause-step : goal.returns-clause-step
returns-clause-step c =
    let w = waiting c.args.trail.now c.args.self.now.marked.items c.args.place _ c.unwrap-l.result c.at.result c.requires.trail c.requires.tracing.are_due c.at.ensures c.unwrap-l.ensures in
    on_ok_both c.take_in.result c.take_in.ensures.marks c.take_in.ensures.chain
    (λ marks chain. RefutesAt-replaced c.args.trail.now c.args.self.now.marked.items c.take_in.new.self.marked.items c.args.self.now.chain.items c.take_in.new.self.chain.items c.args.place c.unwrap-reason.result c.unwrap-l.result c.reason.result c.requires.trail c.requires.tracing.size w.within w.lit c.reason.ensures c.unwrap-reason.ensures w.is_marked marks chain)

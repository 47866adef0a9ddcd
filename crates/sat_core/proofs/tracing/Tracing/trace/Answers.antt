use Rattle.std.proofs.Common.{◌∙◌, ◌++◌, ◌∷◌, [], refl, sym, ap}
use Rattle.sat_core.proofs.Denying.{Starts-reason, reason_number}
use Rattle.sat_core.proofs.TracingBack.{Denies-traced, reason_false}
use Rattle.sat_core.proofs.tracing.Tracing.trace.Goals as goal

pub take_in-requires-clause-number : goal.take_in-requires-clause-number
take_in-requires-clause-number c = reason_number c.args.trail.now c.args.l.var c.unwrap-reason.result c.requires.trail (sym c.reason.ensures ∙ c.unwrap-reason.ensures)

pub take_in-requires-clause-falsified : goal.take_in-requires-clause-falsified
take_in-requires-clause-falsified c = reason_false c.args.trail.now c.args.l c.unwrap-reason.result c.requires.trail c.requires.truth (sym c.reason.ensures ∙ c.unwrap-reason.ensures)

pub returns-clause-denies : goal.returns-clause-denies
returns-clause-denies c =
    Denies-traced c.args.trail.now c.take_in.new.self.marked.items c.refute.new.self.marked.items c.take_in.new.self.chain.items c.refute.new.self.chain.items c.refute.new.self.literals.items c.push.new.self.items c.args.l c.requires.trail
    (Starts-reason c.args.trail.now c.args.self.now.marked.items c.take_in.new.self.marked.items (c.args.l ∷ []) c.take_in.new.self.chain.items c.args.l c.unwrap-reason.result c.requires.trail c.requires.idle.size c.requires.idle.clean c.requires.truth (sym c.reason.ensures ∙ c.unwrap-reason.ensures) c.in_ok-take_in.ensures.marks refl
    (c.in_ok-take_in.ensures.chain ∙ ap (λ ns. ns ++ c.unwrap-reason.result ∷ []) c.requires.idle.chain))
    c.in_ok-refute.ensures.refutes c.in_ok-refute.ensures.tracing.gathers c.in_ok-push.ensures.items

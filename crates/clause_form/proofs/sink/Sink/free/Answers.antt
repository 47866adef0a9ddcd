use Rattle.std.proofs.Common.{◌<◌, ◌∷◌, [], ap, true, false, arith}
use Rattle.std.proofs.lemmas.Grind.{common_steps}
use Rattle.std.proofs.lemmas.Result.{on_ok_weaker, IfErr-weaker}
use Rattle.gate_base.specs.declared.literal.Literal.TheVariants.{Of}
use Rattle.clause_form.specs.Limits.{IsRefused}
use Rattle.clause_form.specs.Clauses.{clause_of, free_clauses}
use Rattle.clause_form.specs.Fields.{after, sunk_of}
use Rattle.clause_form.proofs.Distinct.{pair-distinct}
use Rattle.clause_form.proofs.WalkSteps.{refused-more}
use Rattle.clause_form.proofs.NodeSteps.{pair-have_at, pair-distinct_at, free-done, free-count-one, free-count-two}
use Rattle.clause_form.proofs.sink.Sink.free.Goals as goal

pub push-requires-clause-distinct : goal.push-requires-clause-distinct
push-requires-clause-distinct c =
    pair-distinct c.args.self.now.base c.args.number c.args.selectors.now c.requires.below c.requires.distinct true c.args.computed c.requires.fits

pub push-requires-2-clause-variables : goal.push-requires-2-clause-variables
push-requires-2-clause-variables c =
    pair-have_at c.args.self.now.base c.push.new.self.base c.args.number false c.args.computed c.opposite.result
    (ap (λ s. s.base) c.in_ok-push.ensures.ok) c.opposite.ensures c.requires.variable c.requires.fits

pub push-requires-2-clause-distinct : goal.push-requires-2-clause-distinct
push-requires-2-clause-distinct c =
    pair-distinct_at c.args.self.now.base c.push.new.self.base c.args.number c.args.selectors.now false c.args.computed c.opposite.result
    (ap (λ s. s.base) c.in_ok-push.ensures.ok) c.opposite.ensures c.requires.below c.requires.distinct c.requires.fits

pub returns-in_err-push-clause-err : goal.returns-in_err-push-clause-err
returns-in_err-push-clause-err c =
    let s0 = sunk_of c.args.self.now in
    let whole = (after s0 (free_clauses c.args.self.now.base c.args.selectors.now c.args.number c.args.computed)).count in
    let part = (after s0 (clause_of c.args.self.now.base (Of c.args.number true ∷ c.args.computed ∷ []) c.args.selectors.now)).count in
    let more : IsRefused c.in_err-push.field-0.0 (64000000 < whole) =
    refused-more c.in_err-push.field-0.0 part whole (free-count-one s0 c.args.selectors.now c.args.number c.args.computed)
    c.in_err-push.ensures.err in
    grind (arith, common_steps, more)

pub returns-clause-ok : goal.returns-clause-ok
returns-clause-ok c =
    on_ok_weaker c.push-2.result
    (free-done (sunk_of c.args.self.now) c.args.selectors.now c.args.number c.args.computed (sunk_of c.push.new.self)
    (sunk_of c.push-2.new.self) c.opposite.result c.in_ok-push.ensures.ok c.opposite.ensures)
    c.push-2.ensures.ok

pub returns-clause-err : goal.returns-clause-err
returns-clause-err c =
    let s1 = sunk_of c.push.new.self in
    let whole = (after (sunk_of c.args.self.now) (free_clauses c.args.self.now.base c.args.selectors.now c.args.number c.args.computed)).count in
    let part = (after s1 (clause_of s1.base (Of c.args.number false ∷ c.opposite.result ∷ []) c.args.selectors.now)).count in
    IfErr-weaker c.push-2.result (λ e. IsRefused e (64000000 < part)) (λ e. IsRefused e (64000000 < whole))
    (λ e. refused-more e part whole
    (free-count-two (sunk_of c.args.self.now) c.args.selectors.now c.args.number c.args.computed s1 c.opposite.result c.in_ok-push.ensures.ok
    c.opposite.ensures))
    c.push-2.ensures.err

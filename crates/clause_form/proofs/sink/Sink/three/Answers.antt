use Rattle.std.proofs.Common.{◌<◌, ◌∷◌, [], ◌∙◌, refl, ap, true, false, arith}
use Rattle.std.proofs.lemmas.Grind.{common_steps}
use Rattle.std.proofs.lemmas.Result.{on_ok_weaker, IfErr-weaker}
use Rattle.gate_base.specs.declared.literal.Literal.TheVariants.{Of}
use Rattle.clause_form.specs.Limits.{IsRefused}
use Rattle.clause_form.specs.Clauses.{clause_of, and_clauses}
use Rattle.clause_form.specs.Fields.{after, sunk_of}
use Rattle.clause_form.proofs.Distinct.{pair-distinct}
use Rattle.clause_form.proofs.WalkSteps.{refused-more}
use Rattle.clause_form.proofs.NodeSteps.{triple-have_at, triple-distinct_at, and-done, and-count-one, and-count-two, and-count-three}
use Rattle.clause_form.proofs.sink.Sink.three.Goals as goal

pub push-requires-clause-distinct : goal.push-requires-clause-distinct
push-requires-clause-distinct c =
    pair-distinct c.args.self.now.base c.args.number [] tt refl true c.args.left c.requires.fits.0

pub push-requires-2-clause-distinct : goal.push-requires-2-clause-distinct
push-requires-2-clause-distinct c =
    pair-distinct c.push.new.self.base c.args.number [] tt refl true c.args.right c.requires.fits.1

pub push-requires-3-clause-variables : goal.push-requires-3-clause-variables
push-requires-3-clause-variables c =
    triple-have_at c.args.self.now.base c.push-2.new.self.base c.args.number false c.args.left c.args.right c.opposite.result c.opposite-2.result
    (ap (λ s. s.base) c.in_ok-push-2.ensures.ok ∙ ap (λ s. s.base) c.in_ok-push.ensures.ok) c.opposite.ensures c.opposite-2.ensures
    c.requires.variable c.requires.fits.0 c.requires.fits.1

pub push-requires-3-clause-distinct : goal.push-requires-3-clause-distinct
push-requires-3-clause-distinct c =
    triple-distinct_at c.push-2.new.self.base c.args.number false c.args.left c.args.right c.opposite.result c.opposite-2.result c.opposite.ensures
    c.opposite-2.ensures c.requires.fits.0 c.requires.fits.1 c.requires.fits.2

pub returns-in_err-push-clause-err : goal.returns-in_err-push-clause-err
returns-in_err-push-clause-err c =
    let s0 = sunk_of c.args.self.now in
    let whole = (after s0 (and_clauses c.args.self.now.base c.args.number c.args.left c.args.right)).count in
    let part = (after s0 (clause_of c.args.self.now.base (Of c.args.number true ∷ c.args.left ∷ []) [])).count in
    let more : IsRefused c.in_err-push.field-0.0 (64000000 < whole) =
    refused-more c.in_err-push.field-0.0 part whole (and-count-one s0 c.args.number c.args.left c.args.right) c.in_err-push.ensures.err in
    grind (arith, common_steps, more)

pub returns-in_err-push-2-clause-err : goal.returns-in_err-push-2-clause-err
returns-in_err-push-2-clause-err c =
    let s0 = sunk_of c.args.self.now in
    let s1 = sunk_of c.push.new.self in
    let whole = (after s0 (and_clauses c.args.self.now.base c.args.number c.args.left c.args.right)).count in
    let part = (after s1 (clause_of c.push.new.self.base (Of c.args.number true ∷ c.args.right ∷ []) [])).count in
    let more : IsRefused c.in_err-push-2.field-0.0 (64000000 < whole) =
    refused-more c.in_err-push-2.field-0.0 part whole
    (and-count-two s0 c.args.number c.args.left c.args.right s1 c.in_ok-push.ensures.ok) c.in_err-push-2.ensures.err in
    grind (arith, common_steps, more)

pub returns-clause-ok : goal.returns-clause-ok
returns-clause-ok c =
    on_ok_weaker c.push-3.result
    (and-done (sunk_of c.args.self.now) c.args.number c.args.left c.args.right (sunk_of c.push.new.self) (sunk_of c.push-2.new.self)
    (sunk_of c.push-3.new.self) c.opposite.result c.opposite-2.result c.in_ok-push.ensures.ok c.in_ok-push-2.ensures.ok c.opposite.ensures
    c.opposite-2.ensures)
    c.push-3.ensures.ok

pub returns-clause-err : goal.returns-clause-err
returns-clause-err c =
    let s2 = sunk_of c.push-2.new.self in
    let whole = (after (sunk_of c.args.self.now) (and_clauses c.args.self.now.base c.args.number c.args.left c.args.right)).count in
    let part = (after s2 (clause_of s2.base (Of c.args.number false ∷ c.opposite.result ∷ c.opposite-2.result ∷ []) [])).count in
    IfErr-weaker c.push-3.result (λ e. IsRefused e (64000000 < part)) (λ e. IsRefused e (64000000 < whole))
    (λ e. refused-more e part whole
    (and-count-three (sunk_of c.args.self.now) c.args.number c.args.left c.args.right (sunk_of c.push.new.self) s2 c.opposite.result
    c.opposite-2.result c.in_ok-push.ensures.ok c.in_ok-push-2.ensures.ok c.opposite.ensures c.opposite-2.ensures))
    c.push-3.ensures.err

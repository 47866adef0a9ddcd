use Rattle.std.proofs.Common.{◌<◌, ◌≡◌, ℕ, [], ◌∙◌, ap, get_or, arith}
use Rattle.std.proofs.lemmas.Grind.{common_steps}
use Rattle.clause_form.specs.Clauses.{cycles_clauses, literals_in}
use Rattle.clause_form.specs.Fields.{after, sunk_of, whole_of}
use Rattle.clause_form.specs.Limits.{IsRefused}
use Rattle.clause_form.proofs.WalkSteps.{refused-more}
use Rattle.clause_form.proofs.FormSteps.{whole-count, whole-named}
use Rattle.clause_form.proofs.beginning.Beginning.clauses.Goals as goal

pub returns-in_err-cycles-clause-err : goal.returns-in_err-cycles-clause-err
returns-in_err-cycles-clause-err c =
    let b = c.args.self.now in
    let u = c.args.u.now in
    let s = sunk_of c.keeping-sink.result in
    let rows = c.deref.result.now in
    let whole = literals_in (whole_of b u) in
    let part = (after s (cycles_clauses u (λ (p : ℕ). get_or rows p []) 0 0 u.ends)).count in
    let same : part ≡ whole = whole-count b u s rows c.deref.ensures (ap (λ x. x.count) c.keeping-sink.ensures) c.requires.count in
    let more : IsRefused c.in_err-cycles.field-0.0 (64000000 < whole) =
    refused-more c.in_err-cycles.field-0.0 part whole (omega (arith, same)) c.in_err-cycles.ensures.err in
    grind (arith, common_steps, more)

pub returns-clause-ok : goal.returns-clause-ok
returns-clause-ok c =
    let b = c.args.self.now in
    let u = c.args.u.now in
    let rows = c.deref.result.now in
    let cycles = cycles_clauses u (λ (p : ℕ). get_or rows p []) 0 0 u.ends in
    c.into_clauses.ensures ∙ ap (λ x. x.clauses) c.in_ok-cycles.ensures.ok ∙ ap (λ x. (after x cycles).clauses) c.keeping-sink.ensures
    ∙ whole-named c.args.named b u c.new-kept.result.clauses c.new-kept.result.named c.push_all.new.self.named c.push_all.new.self.clauses rows
    c.new-kept.ensures.clauses c.new-kept.ensures.named c.in_ok-push_all.ensures.clauses c.push_all.ensures.named c.deref.ensures

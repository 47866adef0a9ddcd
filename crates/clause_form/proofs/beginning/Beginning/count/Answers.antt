use Rattle.std.proofs.Common.{◌<◌, ◌≡◌, ℕ, [], ap, get_or, arith}
use Rattle.std.proofs.lemmas.Grind.{common_steps}
use Rattle.clause_form.specs.Clauses.{cycles_clauses, literals_in}
use Rattle.clause_form.specs.Fields.{after, sunk_of, whole_of}
use Rattle.clause_form.specs.Limits.{IsRefused}
use Rattle.clause_form.proofs.WalkSteps.{refused-more}
use Rattle.clause_form.proofs.FormSteps.{whole-count}
use Rattle.clause_form.proofs.beginning.Beginning.count.Goals as goal

pub returns-in_err-cycles-clause-err : goal.returns-in_err-cycles-clause-err
returns-in_err-cycles-clause-err c =
    let b = c.args.self.now in
    let u = c.args.u.now in
    let s = sunk_of c.counting-sink.result in
    let rows = c.deref.result.now in
    let whole = literals_in (whole_of b u) in
    let part = (after s (cycles_clauses u (λ (p : ℕ). get_or rows p []) 0 0 u.ends)).count in
    let same : part ≡ whole = whole-count b u s rows c.deref.ensures (ap (λ x. x.count) c.counting-sink.ensures) c.requires.count in
    let more : IsRefused c.in_err-cycles.field-0.0 (64000000 < whole) =
    refused-more c.in_err-cycles.field-0.0 part whole (omega (arith, same)) c.in_err-cycles.ensures.err in
    grind (arith, common_steps, more)

pub returns-clause-ok : goal.returns-clause-ok
returns-clause-ok c =
    let b = c.args.self.now in
    let u = c.args.u.now in
    let s = sunk_of c.counting-sink.result in
    let rows = c.deref.result.now in
    let whole = literals_in (whole_of b u) in
    let part = (after s (cycles_clauses u (λ (p : ℕ). get_or rows p []) 0 0 u.ends)).count in
    let same : part ≡ whole = whole-count b u s rows c.deref.ensures (ap (λ x. x.count) c.counting-sink.ensures) c.requires.count in
    omega (arith, c.into_count-few.ensures.count, c.into_count-few.ensures.few, ap (λ x. x.count) c.in_ok-cycles.ensures.ok, same)

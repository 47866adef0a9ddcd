use Rattle.std.proofs.Common.{ℕ, [], false, ap, subst, sym, ◌∙◌, arith}
use Rattle.card_counter.specs.InForm.{HasCounter}
use Rattle.debug_core.specs.Problems.{Problem, suspect_count}
use Rattle.set_enum.specs.EnumState.{IsEnum}
use Rattle.debug_core.specs.Standing.{IsStanding, problem_in}
use Rattle.debug_core.proofs.Debuggers.{begun-standing, is-debugger}
use Rattle.debug_core.proofs.Encoded.{counter, within}
use Rattle.debug_core.proofs.Refusals.{clauses-few}
use Rattle.debug_core.proofs.debugger.Debugger.new.Goals as goal

pub new-requires-2-clause-within : goal.new-requires-2-clause-within
new-requires-2-clause-within c =
    let e = c.in_ok-encoding.encoding in within (problem_in e) e.form e.unrolled c.in_ok-encoding.ensures.encoding

pub new-requires-2-clause-counter : goal.new-requires-2-clause-counter
new-requires-2-clause-counter c =
    let e = c.in_ok-encoding.encoding in
    subst (λ (n : ℕ). HasCounter n c.args.question.now.k e.form.vars e.form.clauses) (sym c.len-suspects.ensures)
    (subst (λ (p : Problem). HasCounter (suspect_count p) p.k e.form.vars e.form.clauses) c.in_ok-encoding.ensures.question
    (counter (problem_in e) e.form e.unrolled c.in_ok-encoding.ensures.encoding))

pub new-requires-2-clause-clauses_fit : goal.new-requires-2-clause-clauses_fit
new-requires-2-clause-clauses_fit c =
    let e = c.in_ok-encoding.encoding in
    let is = c.in_ok-encoding.ensures.encoding in
    omega (arith, clauses-few e.form.clauses, is.form.few_literals)

pub invariant_of-result : goal.invariant_of-result
invariant_of-result c =
    let e = c.in_ok-encoding.encoding in
    let begins = c.in_ok-enumerator.ensures.begins in
    let same = sym c.in_ok-encoding.ensures.question in
    subst (λ steps. IsStanding (problem_in e) e.form e.unrolled c.in_ok-enumerator.enumerator steps false 0) (sym c.new-3.ensures)
    (subst (λ x. IsStanding (problem_in e) e.form e.unrolled x [] false 0) (sym begins)
    (begun-standing (problem_in e) e.form e.unrolled c.len-suspects.result c.args.question.now.k c.in_ok-encoding.ensures.encoding
    (c.len-suspects.ensures ∙ ap suspect_count same) (ap (λ (p : Problem). p.k) same)
    (subst IsEnum begins c.in_ok-enumerator.ensures.holds)))

pub returns-clause-holds : goal.returns-clause-holds
returns-clause-holds c =
    let e = c.in_ok-encoding.encoding in
    let begins = c.in_ok-enumerator.ensures.begins in
    let same = sym c.in_ok-encoding.ensures.question in
    is-debugger (problem_in e) e.form e.unrolled c.in_ok-enumerator.enumerator c.new-3.result false 0
    (subst (λ steps. IsStanding (problem_in e) e.form e.unrolled c.in_ok-enumerator.enumerator steps false 0) (sym c.new-3.ensures)
    (subst (λ x. IsStanding (problem_in e) e.form e.unrolled x [] false 0) (sym begins)
    (begun-standing (problem_in e) e.form e.unrolled c.len-suspects.result c.args.question.now.k c.in_ok-encoding.ensures.encoding
    (c.len-suspects.ensures ∙ ap suspect_count same) (ap (λ (p : Problem). p.k) same)
    (subst IsEnum begins c.in_ok-enumerator.ensures.holds))))

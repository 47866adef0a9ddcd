use Rattle.std.proofs.Common.{◌≡◌, ℕ, ◌+◌, ◌↔◌, get_or, take, sym, ◌∙◌, subst, Bool, List, IsTrue}
use Rattle.clause_base.specs.declared.literal.Lit.{Lit}
use Rattle.clause_base.specs.Literal.{has}
use Rattle.clause_base.specs.Steps.{step_at}
use Rattle.clause_base.specs.Acceptance.{clauses_of, numbered, IsAcceptedChain}
use Rattle.proof_check.specs.Marks.{marked}
use Rattle.proof_check.specs.Merging.{HasResolvent, HasNoResolvent}
use Rattle.proof_check.proofs.Chained.{chaining-more, chaining-no_number, chaining-refused, chaining-decides, with_first, refuses}
use Rattle.proof_check.proofs.chain.is_given.Goals as goal

pub returns-in_default-numbered_clause-2-clause-given : goal.returns-in_default-numbered_clause-2-clause-given
returns-in_default-numbered_clause-2-clause-given c =
    let step = step_at c.args.log.now c.args.place in
    let earlier = clauses_of c.args.form.now (take c.args.place c.args.log.now) in
    let whole = with_first step.chain c.in-Some.first.now c.in-Some.rest.now (sym c.chain.ensures ∙ c.in-Some.ensures.cases.0) in
    refuses earlier step.chain (get_or step.chain 0 0) c.in-Some.rest.now step.clause whole
    (chaining-no_number earlier (get_or step.chain 0 0) c.in-Some.rest.now c.loop-number.number-index step.clause c.loop-number-test.true c.in_default-numbered_clause-2.ensures)

pub returns-in_default-resolve-clause-given : goal.returns-in_default-resolve-clause-given
returns-in_default-resolve-clause-given c =
    let step = step_at c.args.log.now c.args.place in
    let earlier = clauses_of c.args.form.now (take c.args.place c.args.log.now) in
    let now : Lit → Bool = marked (c.args.place + 1) c.loop-number.marks in
    let whole = with_first step.chain c.in-Some.first.now c.in-Some.rest.now (sym c.chain.ensures ∙ c.in-Some.ensures.cases.0) in
    let none : HasNoResolvent now (numbered earlier (get_or c.in-Some.rest.now c.loop-number.number-index 0)) =
    subst (λ clause. HasNoResolvent now clause) c.in-Some-numbered_clause-2.ensures.is_clause c.in_default-resolve.ensures.resolves in
    refuses earlier step.chain (get_or step.chain 0 0) c.in-Some.rest.now step.clause whole
    (chaining-refused earlier (get_or step.chain 0 0) c.in-Some.rest.now c.loop-number.number-index step.clause now c.loop-number-test.true c.loop-number.invariant.chaining none)

pub loop-number-preserved : goal.loop-number-preserved
loop-number-preserved c =
    let step = step_at c.args.log.now c.args.place in
    let earlier = clauses_of c.args.form.now (take c.args.place c.args.log.now) in
    let now : Lit → Bool = marked (c.args.place + 1) c.loop-number.marks in
    let next : Lit → Bool = marked (c.args.place + 1) c.resolve.new.marks in
    let resolves : HasResolvent now (numbered earlier (get_or c.in-Some.rest.now c.loop-number.number-index 0)) next =
    subst (λ clause. HasResolvent now clause next) c.in-Some-numbered_clause-2.ensures.is_clause c.in-Some-resolve.ensures.resolves in
    record {
      chaining = chaining-more earlier (get_or step.chain 0 0) c.in-Some.rest.now c.loop-number.number-index step.clause now next c.loop-number-test.true c.loop-number.invariant.chaining
          c.in-Some-numbered_clause-2.ensures.is_number resolves;
      count = c.in-Some-resolve.ensures.held;
      stamps = c.resolve.ensures.stamps c.loop-number.invariant.stamps;
    }

pub returns-clause-given : goal.returns-clause-given
returns-clause-given c =
    let step = step_at c.args.log.now c.args.place in
    let earlier = clauses_of c.args.form.now (take c.args.place c.args.log.now) in
    let now : Lit → Bool = marked (c.args.place + 1) c.loop-number.marks in
    let whole = with_first step.chain c.in-Some.first.now c.in-Some.rest.now (sym c.chain.ensures ∙ c.in-Some.ensures.cases.0) in
    let same : IsTrue c.strike_all.result ↔ ((l : Lit) → now l ≡ has step.clause l) =
    subst (λ clause. IsTrue c.strike_all.result ↔ ((l : Lit) → now l ≡ has clause l)) c.clause.ensures.value c.strike_all.ensures.same in
    let decides = chaining-decides earlier (get_or step.chain 0 0) c.in-Some.rest.now c.loop-number.number-index step.clause now c.strike_all.result c.loop-number-test.false c.loop-number.invariant.chaining same in
    subst (λ (ns : List ℕ). IsTrue c.strike_all.result ↔ IsAcceptedChain earlier ns step.clause) (sym whole) decides

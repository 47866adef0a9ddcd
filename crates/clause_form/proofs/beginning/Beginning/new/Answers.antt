use Rattle.std.proofs.Common.{◌+◌, ◌∙◌, ap, sym, subst, length, arith}
use Rattle.card_counter.specs.Means.{AreBefore}
use Rattle.card_counter.specs.Places.{starts}
use Rattle.clause_form.proofs.FormSteps.{length-literals, literals-before}
use Rattle.clause_form.proofs.beginning.Beginning.new.Goals as goal

pub counter-requires-clause-before : goal.counter-requires-clause-before
counter-requires-clause-before c =
    let n = c.len-suspects.result in
    subst (AreBefore (n + 1)) (sym (c.deref.ensures ∙ c.in_ok-all.ensures)) (literals-before 1 n (n + 1) (omega arith))

pub counter-requires-clause-variables_fit : goal.counter-requires-clause-variables_fit
counter-requires-clause-variables_fit c =
    let same = ap (λ xs. starts c.args.k (length xs + 1)) (c.deref.ensures ∙ c.in_ok-all.ensures)
    ∙ ap (λ m. starts c.args.k (m + 1)) (length-literals 1 c.len-suspects.result ∙ c.len-suspects.ensures) in
    omega (arith, same, c.requires, c.len-suspects.ensures)

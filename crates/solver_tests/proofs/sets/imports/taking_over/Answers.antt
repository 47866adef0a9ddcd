use Rattle.std.proofs.Common.{◌≡◌, sym, ◌∙◌, ap, subst}
use Rattle.set_enum.specs.EnumState.{MayBeImported, begun}
use Rattle.solver_tests.proofs.CounterLaws.{may_take_over}
use Rattle.solver_tests.proofs.sets.imports.taking_over.Goals as goal

pub import-requires : goal.import-requires
import-requires c =
    let f = c.args.from.now in
    let p = c.args.problem.now in
    let same : begun p.form.vars p.form.clauses p.n p.k ≡ begun f.vars f.form f.n f.k =
    ap (λ v. begun v p.form.clauses p.n p.k) (sym c.requires.vars) ∙ (ap (λ cs. begun f.vars cs p.n p.k) (sym c.requires.form)
    ∙ (ap (λ n. begun f.vars f.form n p.k) (sym c.requires.n) ∙ ap (λ k. begun f.vars f.form f.n k) (sym c.requires.k))) in
    subst (MayBeImported c.in_ok-enumerator.enumerator) (sym c.log.ensures.value)
    (may_take_over f c.in_ok-enumerator.enumerator c.log.ensures.holds (c.in_ok-enumerator.ensures.begins ∙ same))

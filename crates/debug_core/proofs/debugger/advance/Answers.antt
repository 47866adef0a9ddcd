use Rattle.std.proofs.Common.{Ok, [], drop, ap, sym, subst}
use Rattle.std.specs.Option.{unwrap_or}
use Rattle.std.proofs.lemmas.Result.{err_from_is_err_and}
use Rattle.set_enum.specs.Certificate.{IsCertificate}
use Rattle.set_enum.specs.EnumState.{EnumState, IsEnum}
use Rattle.set_enum.specs.Outcome.{Gives}
use Rattle.debug_core.specs.declared.found.Found.TheVariants as found
use Rattle.debug_core.specs.Standing.{IsStanding, Leaves, problem_in}
use Rattle.debug_core.proofs.Steps.{advances-closed, advances-open, advances-set, advances-spent, advances-unblocked}
use Rattle.debug_core.proofs.Steps.{done-kept, explained, kept}
use Rattle.debug_core.proofs.debugger.advance.Goals as goal

pub returns-in_err-members-clause-standing : goal.returns-in_err-members-clause-standing
returns-in_err-members-clause-standing c =
    kept _ _ _ _ _ _ _ _ _ _ c.requires.standing c.next.ensures.adds c.next.ensures.holds

pub returns-in_err-values-in-Set-clause-standing : goal.returns-in_err-values-in-Set-clause-standing
returns-in_err-values-in-Set-clause-standing c =
    kept _ _ _ _ _ _ _ _ _ _ c.requires.standing c.next.ensures.adds c.next.ensures.holds

pub returns-in_err-certificate-in-Set-clause-standing : goal.returns-in_err-certificate-in-Set-clause-standing
returns-in_err-certificate-in-Set-clause-standing c =
    kept _ _ _ _ _ _ _ _ _ _ c.requires.standing c.next.ensures.adds c.next.ensures.holds

pub returns-in-Closed-clause-standing : goal.returns-in-Closed-clause-standing
returns-in-Closed-clause-standing c =
    kept _ _ _ _ _ _ _ _ _ _ c.requires.standing c.next.ensures.adds c.next.ensures.holds

pub returns-in-Spent-clause-standing : goal.returns-in-Spent-clause-standing
returns-in-Spent-clause-standing c =
    kept _ _ _ _ _ _ _ _ _ _ c.requires.standing c.next.ensures.adds c.next.ensures.holds

pub returns-in_err-members-clause-leaves : goal.returns-in_err-members-clause-leaves
returns-in_err-members-clause-leaves c =
    let e = c.args.encoding.now in
    let exit = err_from_is_err_and c.from_residual.result c.from_residual.ensures.1 in
    subst (Leaves (problem_in e) e.form c.args.search.now (record (c.args.search.now) { enumerator = c.next.new.self }) c.args.budget.now c.next.new.budget) (sym exit.1)
    (advances-open _ _ _ _ _ _ _ _ _ _ c.requires.standing c.next.ensures.adds c.next.ensures.holds
    c.next.result c.next.ensures.ended exit.0 c.in_err-members.ensures.err)

pub returns-in-Closed-clause-leaves : goal.returns-in-Closed-clause-leaves
returns-in-Closed-clause-leaves c =
    advances-closed _ _ _ _ _ _ _ _ _ _ c.requires.standing c.next.ensures.adds c.next.ensures.holds c.next.result c.next.ensures.ended
    (subst (Gives c.args.search.now.enumerator c.next.new.self c.next.new.budget) c.in-Closed.is c.in_ok-members.ensures.gives)

pub returns-in-Spent-clause-leaves : goal.returns-in-Spent-clause-leaves
returns-in-Spent-clause-leaves c =
    advances-spent _ _ _ _ _ _ _ _ _ _ c.requires.standing c.next.ensures.adds c.next.ensures.holds c.next.result c.next.ensures.ended
    (subst (Gives c.args.search.now.enumerator c.next.new.self c.next.new.budget) c.in-Spent.is c.in_ok-members.ensures.gives)

pub returns-in_err-values-in-Set-clause-leaves : goal.returns-in_err-values-in-Set-clause-leaves
returns-in_err-values-in-Set-clause-leaves c =
    let e = c.args.encoding.now in
    let gives = subst (Gives c.args.search.now.enumerator c.next.new.self c.next.new.budget) c.in-Set.is c.in_ok-members.ensures.gives in
    let exit =
    err_from_is_err_and c.from_residual-in_err-values-in-Set.result c.from_residual-in_err-values-in-Set.ensures.1 in
    subst (Leaves (problem_in e) e.form c.args.search.now (record (c.args.search.now) { enumerator = c.next.new.self }) c.args.budget.now c.next.new.budget) (sym exit.1)
    (advances-unblocked _ _ _ _ _ _ _ _ _ _ c.requires.standing c.next.ensures.adds c.next.ensures.holds
    c.in-Set.members gives.1 c.next.result c.next.ensures.ended exit.0)

pub returns-in_err-certificate-in-Set-clause-leaves : goal.returns-in_err-certificate-in-Set-clause-leaves
returns-in_err-certificate-in-Set-clause-leaves c =
    let e = c.args.encoding.now in
    let gives = subst (Gives c.args.search.now.enumerator c.next.new.self c.next.new.budget) c.in-Set.is c.in_ok-members.ensures.gives in
    let exit =
    err_from_is_err_and c.from_residual-in_err-certificate-in-Set.result c.from_residual-in_err-certificate-in-Set.ensures.1 in
    subst (Leaves (problem_in e) e.form c.args.search.now (record (c.args.search.now) { enumerator = c.next.new.self }) c.args.budget.now c.next.new.budget) (sym exit.1)
    (advances-unblocked _ _ _ _ _ _ _ _ _ _ c.requires.standing c.next.ensures.adds c.next.ensures.holds
    c.in-Set.members gives.1 c.next.result c.next.ensures.ended exit.0)

pub returns-in_err-block-in-Set-clause-standing : goal.returns-in_err-block-in-Set-clause-standing
returns-in_err-block-in-Set-clause-standing c =
    let e = c.args.encoding.now in
    subst (λ x. IsStanding (problem_in e) e.form e.unrolled x (drop c.args.search.now.appended c.args.search.now.certificate) c.args.search.now.finished c.args.search.now.imported) (sym c.in_err-block-in-Set.ensures.err)
    (kept _ _ _ _ _ _ _ _ _ _ c.requires.standing c.next.ensures.adds c.next.ensures.holds)

pub returns-in_err-block-in-Set-clause-leaves : goal.returns-in_err-block-in-Set-clause-leaves
returns-in_err-block-in-Set-clause-leaves c =
    let e = c.args.encoding.now in
    let gives = subst (Gives c.args.search.now.enumerator c.next.new.self c.next.new.budget) c.in-Set.is c.in_ok-members.ensures.gives in
    let exit = err_from_is_err_and c.from_residual-in_err-block-in-Set.result c.from_residual-in_err-block-in-Set.ensures.1 in
    subst
    (λ (after : EnumState). Leaves (problem_in e) e.form c.args.search.now (record (c.args.search.now) { enumerator = after }) c.args.budget.now c.next.new.budget
    c.from_residual-in_err-block-in-Set.result)
    (sym c.in_err-block-in-Set.ensures.err)
    (subst (Leaves (problem_in e) e.form c.args.search.now (record (c.args.search.now) { enumerator = c.next.new.self }) c.args.budget.now c.next.new.budget) (sym exit.1)
    (advances-unblocked _ _ _ _ _ _ _ _ _ _ c.requires.standing c.next.ensures.adds c.next.ensures.holds
    c.in-Set.members gives.1 c.next.result c.next.ensures.ended exit.0))

pub returns-in_ok-block-in-Set-clause-standing : goal.returns-in_ok-block-in-Set-clause-standing
returns-in_ok-block-in-Set-clause-standing c =
    let e = c.args.encoding.now in
    let gives = subst (Gives c.args.search.now.enumerator c.next.new.self c.next.new.budget) c.in-Set.is c.in_ok-members.ensures.gives in
    subst (λ x. IsStanding (problem_in e) e.form e.unrolled x c.in_ok-certificate-in-Set.certificate c.args.search.now.finished c.args.search.now.imported) (sym c.in_ok-block-in-Set.ensures.ok)
    (done-kept _ _ _ _ _ _ _ _ _ _ c.requires.standing c.next.ensures.adds c.next.ensures.holds
    c.in-Set.members gives.1 c.in_ok-certificate-in-Set.certificate
    (subst (λ set. IsCertificate c.next.new.self set c.in_ok-certificate-in-Set.certificate) (ap (λ last. unwrap_or last []) gives.1.last) c.in_ok-certificate-in-Set.ensures)
    (subst IsEnum c.in_ok-block-in-Set.ensures.ok c.block.ensures.holds))

pub returns-in_ok-block-in-Set-clause-leaves : goal.returns-in_ok-block-in-Set-clause-leaves
returns-in_ok-block-in-Set-clause-leaves c =
    let e = c.args.encoding.now in
    let gives = subst (Gives c.args.search.now.enumerator c.next.new.self c.next.new.budget) c.in-Set.is c.in_ok-members.ensures.gives in
    let values = c.in_ok-values-in-Set.values in
    subst
    (λ (after : EnumState). Leaves (problem_in e) e.form c.args.search.now (record { enumerator = after; certificate = c.in_ok-certificate-in-Set.certificate; appended = 0; finished = c.args.search.now.finished; imported = c.args.search.now.imported }) c.args.budget.now c.next.new.budget
    (Ok (found.Set (record { members = c.in-Set.members; values = values }))))
    (sym c.in_ok-block-in-Set.ensures.ok)
    (advances-set _ _ _ _ _ _ _ _ _ _ c.requires.standing c.next.ensures.adds c.next.ensures.holds
    c.in-Set.members gives.1 c.in_ok-certificate-in-Set.certificate
    (subst (λ set. IsCertificate c.next.new.self set c.in_ok-certificate-in-Set.certificate) (ap (λ last. unwrap_or last []) gives.1.last) c.in_ok-certificate-in-Set.ensures)
    (subst IsEnum c.in_ok-block-in-Set.ensures.ok c.block.ensures.holds)
    c.next.result c.next.ensures.ended values gives.0
    (explained _ _ _ _ _ _ _ _ _ _ c.requires.standing c.next.ensures.adds c.next.ensures.holds
    c.in-Set.members gives.1 c.model.result.now c.as_slice.result.now values c.model.ensures.value c.as_slice.ensures
    c.in_ok-values-in-Set.ensures))

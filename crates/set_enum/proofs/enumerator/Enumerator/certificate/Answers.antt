use Rattle.std.proofs.Common.{sym, subst}
use Rattle.std.specs.Prelude.{All, IfOk}
use Rattle.std.specs.List.{AllZip}
use Rattle.sat_core.specs.SolverState.{assignment_of}
use Rattle.sat_core.specs.Explaining.{Explains, MayExplain}
use Rattle.set_enum.specs.Certificate.{ArePassedOver}
use Rattle.set_enum.specs.Sets.{selected}
use Rattle.set_enum.proofs.Certifying.{certifies, may_explain_all, waits_told}
use Rattle.set_enum.proofs.enumerator.Enumerator.certificate.Goals as goal

pub explain_all-requires : goal.explain_all-requires
explain_all-requires c =
    let waiting = waits_told _ _ _ _ _ _ c.self.view_is c.self.invariant c.requires in
    let passed = subst (λ model. ArePassedOver (selected c.self.inside.n (assignment_of model)) c.in_ok-passed.passed.items) c.model.ensures.value c.in_ok-passed.ensures in
    record { may = subst (λ xs. All (MayExplain c.self.inside.solver) xs) (sym c.deref.ensures.value) (may_explain_all _ _ _ _ _ _ waiting passed) }

pub returns : goal.returns
returns c =
    let waiting = waits_told _ _ _ _ _ _ c.self.view_is c.self.invariant c.requires in
    let passed = subst (λ model. ArePassedOver (selected c.self.inside.n (assignment_of model)) c.in_ok-passed.passed.items) c.model.ensures.value c.in_ok-passed.ensures in
    certifies c.self.inside.n c.self.inside.k c.self.inside.size c.self.inside.found c.self.inside.solver c.args.self.now c.in_ok-passed.passed.items c.explain_all.result c.self.view_is waiting passed
    (subst (λ xs. IfOk c.explain_all.result (AllZip (Explains c.self.inside.solver) xs)) c.deref.ensures.value c.explain_all.ensures.explains)

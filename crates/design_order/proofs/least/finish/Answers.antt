use Rattle.std.proofs.Common.{◌<◌, ◌∙◌, sym, ap, subst, false, get_or, length}
use Rattle.design_order.proofs.RunningLaws.{all-taken}
use Rattle.design_order.proofs.least.finish.Goals as goal

pub returns-in-None-clause-ordered : goal.returns-in-None-clause-ordered
returns-in-None-clause-ordered c =
    let taken = c.deref.ensures.value in
    all-taken c.args.needs.now c.args.state c.requires.running
    (λ k below.
    sym (ap (λ xs. get_or xs k false) taken)
    ∙ c.in-None.ensures.none k (subst (λ xs. k < length xs) (sym taken) (subst (λ n. k < n) (sym c.requires.running.taken_long) below)))

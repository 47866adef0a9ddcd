use Rattle.std.proofs.Common.{◌≡◌, ◌<◌, ℕ, true, false, subst}
use Rattle.std.specs.Prelude.{IfNone, IfSome}
use Rattle.design_rules.specs.Used.{AreUsed, lacks_at}
use Rattle.design_rules.proofs.FirstUndriven.{first-undriven}
use Rattle.design_rules.proofs.undriven.first_undriven.Goals as goal

pub returns : goal.returns
returns c =
    let d = c.args.design.now in
    let driven = c.in_ok-driven.driven.items in
    let used = c.in_ok-used.used in
    let found = c.first_lacking.result in
    let signals_are = c.deref-2.ensures.value in
    let driven_are = c.deref-3.ensures.value in
    first-undriven d driven used found c.requires c.in_ok-driven.ensures (subst (λ xs. AreUsed d xs used) c.deref.ensures.value c.in_ok-used.ensures)
    (subst (λ xs. IfNone found ((k : ℕ) → lacks_at d.signals.items used xs k ≡ false)) driven_are
    (subst (λ signals. IfNone found ((k : ℕ) → lacks_at signals used c.deref-3.result.now k ≡ false)) signals_are c.first_lacking.ensures.none))
    (subst (λ xs. IfSome found (λ s. lacks_at d.signals.items used xs s ≡ true)) driven_are
    (subst (λ signals. IfSome found (λ s. lacks_at signals used c.deref-3.result.now s ≡ true)) signals_are c.first_lacking.ensures.some))
    (subst (λ xs. IfSome found (λ s. (k : ℕ) → k < s → lacks_at d.signals.items used xs k ≡ false)) driven_are
    (subst (λ signals. IfSome found (λ s. (k : ℕ) → k < s → lacks_at signals used c.deref-3.result.now k ≡ false)) signals_are c.first_lacking.ensures.first))

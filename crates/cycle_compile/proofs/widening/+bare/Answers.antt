use Rattle.std.proofs.Common.{◌≤◌, sym, ◌∙◌, ap, subst}
use Rattle.design_core.specs.declared.expression.Typed.{Typed}
use Rattle.cycle_compile.specs.Computing.{IsBare}
use Rattle.cycle_compile.proofs.Widened.{IsBare-more}
use Rattle.cycle_compile.proofs.widening.+bare.Goals as goal

pub returns-in-Resize : goal.returns-in-Resize
returns-in-Resize t c = record {
  bare = IsBare-more c.args.e.now c.in-Resize.arg c.bare.result.now c.in-Resize.is
      (ap (λ (x : Typed). x.signed) (sym c.deref.ensures) ∙ c.if-not-deref.true)
      (subst (λ (x : Typed). x.width ≤ c.args.e.now.width) c.deref-then-not-deref.ensures c.if-deref-e.true)
      (subst (λ (x : Typed). IsBare x c.bare.result.now) c.deref-in-Resize.ensures c.bare.ensures.bare);
}

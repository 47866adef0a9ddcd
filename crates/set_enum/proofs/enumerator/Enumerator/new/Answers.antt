use Rattle.std.proofs.Common.{◌∙◌, ap, sym, subst, ◌≤◌, length, arith}
use Rattle.std.specs.Prelude.{All}
use Rattle.set_enum.proofs.Selecting.{numbers-length}
use Rattle.set_enum.proofs.Advancing.{selectors_within}
use Rattle.set_enum.proofs.enumerator.Enumerator.new.Goals as goal

pub new-requires-clause-preferred : goal.new-requires-clause-preferred
new-requires-clause-preferred c =
    subst (All (λ v. (1 ≤ v) × (v ≤ c.args.form.now.vars))) (sym (c.as_slice.ensures.value ∙ c.in_ok-preferred.ensures))
    (selectors_within c.args.n c.args.k c.args.form.now.vars c.requires.counter.within)

pub new-requires-clause-few : goal.new-requires-clause-few
new-requires-clause-few c = omega (
  arith,
  ap length (c.as_slice.ensures.value ∙ c.in_ok-preferred.ensures),
  numbers-length 1 c.args.n,
  c.ranges.n.fits,
)

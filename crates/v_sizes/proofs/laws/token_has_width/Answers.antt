use Rattle.std.proofs.Common.{ap}
use Rattle.std.specs.Prelude.{None}
use Rattle.v_sizes.specs.declared.error.WidthErr.TheVariants as fault
use Rattle.v_sizes.specs.Refusals.{when}
use Rattle.v_sizes.proofs.Tokens.{judged-width}
use Rattle.v_sizes.proofs.laws.token_has_width.Goals as goal

pub returns : goal.returns
returns g c = ap (λ bad. when bad (fault.Range g.of.span) None) (judged-width g.of.text g.of.kind c.requires)

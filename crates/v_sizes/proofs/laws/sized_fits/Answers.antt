use Rattle.std.proofs.Common.{arith, false}
use Rattle.v_sizes.proofs.Meant.{Within}
use Rattle.v_sizes.proofs.Sound.{width-within}
use Rattle.v_sizes.proofs.Expressions.{law}
use Rattle.v_sizes.proofs.laws.sized_fits.Goals as goal

pub returns : goal.returns
returns g c =
    let stands = c.requires in
    let least = width-within g.of.look stands.scope g.of.e in
    let within : Within g.of.width = record { least = omega (arith, least.least, stands.context.wide); most = stands.context.most } in
    let meant = law g.of.signals g.of.look false (record { scope = stands.scope; of_design = stands.of_design }) g.of.e g.of.width g.of.signed within stands.context.wide stands.accepted in
    record { of_width = meant.of_width; of_sign = meant.of_sign; fits = meant.fits }

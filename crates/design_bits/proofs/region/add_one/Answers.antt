use Rattle.std.proofs.Common.{ℕ, ◌==◌, ◌<◌, sym, subst, ap, arith, length}
use Rattle.std.specs.Prelude.{◌&&◌}
use Rattle.design_core.specs.Valuation.{bit}
use Rattle.design_bits.specs.Masks.{Adds}
use Rattle.design_bits.proofs.Added.{adds-one, adds-same, equal-turned}
use Rattle.design_bits.proofs.region.add_one.Goals as goal

pub returns-in_ok-add : goal.returns-in_ok-add
returns-in_ok-add c =
    let within : c.args.signal < length c.args.set.now = omega (arith, c.if-signal-len.true, c.len.ensures) in
    let added = λ (s b : ℕ). c.args.signal == s && bit c.args.mask b in
    adds-same c.args.set.now c.add.new.self added _
    (subst (λ n. Adds c.args.set.now n added) (sym c.in_ok-add.ensures.ok) (adds-one c.args.set.now c.args.signal c.args.mask within))
    (λ s b below inside. ap (λ x. x && bit c.args.mask b) (equal-turned c.args.signal s))

use Rattle.std.proofs.Common.{◌∙◌, ap, ◌==◌}
use Rattle.std.specs.Prelude.{◌&&◌}
use Rattle.loc_base.proofs.ShelfBools.{and-true}
use Rattle.design_bits.proofs.Added.{adds-same, on-ok, equal-turned}
use Rattle.design_rules.proofs.TallyLaws.{all-bits}
use Rattle.assign_rules.proofs.assigned.add_home.Goals as goal

pub returns : goal.returns
returns c =
    on-ok c.add_one.result _ _
    (λ a. adds-same _ _ _ _ a (λ s b _ below. ap (λ x. s == c.args.home && x) (all-bits b below) ∙ and-true (s == c.args.home) ∙ equal-turned s c.args.home)) c.add_one.ensures

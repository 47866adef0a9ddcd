use Rattle.std.proofs.Common.{◌∙◌, ap, ◌||◌, ◌&&◌}
use Rattle.std.specs.Prelude.{◌==◌}
use Rattle.design_core.specs.Mentions.{statement_mentions, reset_mentions}
use Rattle.design_bits.specs.Regions.{region_has}
use Rattle.design_bits.proofs.Added.{on-ok, equal-turned}
use Rattle.design_bits.proofs.Picks.{one-bit}
use Rattle.design_bits.proofs.ReadsAdded.{adds-beside, adds-named}
use Rattle.design_bits.proofs.mentions.add_reset_mentions.Goals as goal

pub returns : goal.returns
returns c =
    let S = c.args.signals.now in
    let reset = c.args.reset.now in
    on-ok c.add_statement.result _ _
    (λ a.
    adds-named _ _ _ (λ s k. region_has c.of.result s k || statement_mentions S s k reset.values) (λ s k. reset_mentions S s k reset)
    (adds-beside _ _ _ _ (λ s k. region_has c.of.result s k) (λ s k. statement_mentions S s k reset.values) c.in_ok-add_region.ensures a)
    (λ s k within.
    ap (λ x. x || statement_mentions S s k reset.values)
    (c.of.ensures s k within ∙ ap (λ x. (s == reset.signal) && x) (c.run.ensures k within ∙ one-bit 0 k ∙ equal-turned 0 k))))
    c.add_statement.ensures

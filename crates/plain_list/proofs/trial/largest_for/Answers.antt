use Rattle.std.proofs.Common.{◌^◌, ◌+◌, ap, ◌∙◌}
use Rattle.loc_base.proofs.Modulo.{ones_of}
use Rattle.plain_list.proofs.Trying.{place-width, one_less}
use Rattle.plain_list.proofs.trial.largest_for.Goals as goal

pub returns : goal.returns
returns c =
    let w : _ = place-width c.args.d.now c.args.place c.index.result.now c.requires.well_formed c.requires.place c.index.ensures in
    ap (λ n. n + 1) (ones_of c.index.result.now.width w.1) ∙ one_less c.index.result.now.width ∙ ap (λ n. 2 ^ n) w.2

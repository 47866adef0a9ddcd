use Rattle.std.proofs.Common.{◌<◌, ◌^◌, ◌∙◌, sym, subst}
use Rattle.plain_list.proofs.Trying.{place-width}
use Rattle.plain_list.proofs.rows.word_for.Goals as goal

pub unwrap-requires : goal.unwrap-requires
unwrap-requires c =
    let w : _ = place-width c.args.d.now c.args.place c.index.result.now c.requires.well_formed c.requires.place c.index.ensures in
    c.new.ensures.some.1 (w.0, w.1, subst (λ n. c.args.number < 2 ^ n) (sym w.2) c.requires.range)

pub returns-clause-width : goal.returns-clause-width
returns-clause-width c =
    let w : _ = place-width c.args.d.now c.args.place c.index.result.now c.requires.well_formed c.requires.place c.index.ensures in
    (rw c.unwrap.ensures at c.new.ensures.width) ∙ w.2

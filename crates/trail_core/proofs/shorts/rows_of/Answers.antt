use Rattle.std.proofs.Common.{◌∙◌, ◌∷◌, ◌++◌, [], map, take, sym, ap}
use Rattle.trail_core.proofs.Flat.{listed_in, rows_more, rows_all}
use Rattle.trail_core.proofs.shorts.rows_of.Goals as goal

pub loop-list-preserved : goal.loop-list-preserved
loop-list-preserved c =
    c.in_ok-push.ensures.ok
    ∙ (ap (λ rows. rows ++ c.clauses.result.now ∷ []) c.loop-list.invariant
    ∙ (ap (λ row. map listed_in (take c.loop-list.list-index c.args.lists.now) ++ row ∷ []) (c.clauses.ensures ∙ ap listed_in c.list-item.is)
    ∙ sym (rows_more c.args.lists.now c.loop-list.list-index c.list-item.result c.loop-list-test.true)))

pub returns : goal.returns
returns c = c.loop-list.invariant ∙ rows_all c.args.lists.now c.loop-list.list-index c.loop-list-test.false

use Rattle.std.proofs.Common.{◌||◌, ◌+◌, drop, ap, sym, ◌∙◌, arith}
use Rattle.v_hierarchy.specs.Parameters.{is_among}
use Rattle.bind_signals.specs.Tables.{is_in}
use Rattle.bind_signals.specs.LoopNames.{named}
use Rattle.bind_signals.proofs.TableLaws.{put-next, drop-next}
use Rattle.bind_signals.proofs.names.table_of.Goals as goal

pub loop-name-preserved : goal.loop-name-preserved
loop-name-preserved c = λ q.
    let rest = drop (c.loop-name.name-index + 1) c.args.names.now in
    put-next c.name-item.result.now q (is_in c.loop-name.table q) (is_in c.insert.new.table q) (is_among q (named rest)) (c.in_ok-insert.ensures q)
    ∙ sym (ap (λ xs. is_in c.loop-name.table q || is_among q (named xs))
    (drop-next c.args.names.now c.loop-name.name-index (c.loop-name.name-index + 1) c.name-item.result (omega arith) c.loop-name-test.true c.name-item.is))
    ∙ c.loop-name.invariant q

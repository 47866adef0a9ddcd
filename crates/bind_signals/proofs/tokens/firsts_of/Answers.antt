use Rattle.std.proofs.Common.{◌+◌, map, drop, ap, sym, ◌∙◌, arith}
use Rattle.std.specs.Option.{option_or}
use Rattle.v_hierarchy.specs.Places.{place_in}
use Rattle.v_hierarchy.specs.Views.{entry_of}
use Rattle.v_binding.specs.Signals.{declared_at}
use Rattle.bind_signals.proofs.TableLaws.{drop-next}
use Rattle.bind_signals.proofs.TokenLaws.{first-next}
use Rattle.bind_signals.proofs.tokens.firsts_of.Goals as goal

pub loop-entry-preserved : goal.loop-entry-preserved
loop-entry-preserved c = λ q.
    let rest = drop (c.loop-entry.entry-index + 1) c.args.entries.now in
    first-next q (entry_of c.entry-item.result) (map entry_of rest) (place_in c.loop-entry.table q) (place_in c.declare.new.table q) (c.in_ok-declare.ensures q)
    ∙ sym (ap (λ xs. option_or (place_in c.loop-entry.table q) (declared_at q (map entry_of xs)))
    (drop-next c.args.entries.now c.loop-entry.entry-index (c.loop-entry.entry-index + 1) c.entry-item.result (omega arith) c.loop-entry-test.true c.entry-item.is))
    ∙ c.loop-entry.invariant q

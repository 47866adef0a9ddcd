use Rattle.std.proofs.Common.{◌&&◌, ◌||◌, ◌+◌, drop, ap, sym, ◌∙◌, arith}
use Rattle.std.specs.Prelude.{nat_lt}
use Rattle.v_hierarchy.specs.Names.{same_name}
use Rattle.bind_signals.specs.Tables.{is_behind}
use Rattle.bind_signals.specs.LoopNames.{listed, is_used}
use Rattle.bind_signals.proofs.TableLaws.{drop-next}
use Rattle.bind_signals.proofs.TokenLaws.{token-next}
use Rattle.bind_signals.proofs.tokens.last_of_each.Goals as goal

pub loop-variable-preserved : goal.loop-variable-preserved
loop-variable-preserved c = λ q token.
    let rest = drop (c.loop-variable.variable-index + 1) c.args.variables.now in
    let one = same_name c.variable-item.result.now.name q && nat_lt token c.variable-item.result.now.site.token in
    token-next one (is_behind c.loop-variable.table q token) (is_behind c.insert.new.table q token) (is_used q (nat_lt token) (listed rest)) (c.in_ok-insert.ensures q token)
    ∙ sym (ap (λ xs. is_behind c.loop-variable.table q token || is_used q (nat_lt token) (listed xs))
    (drop-next c.args.variables.now c.loop-variable.variable-index (c.loop-variable.variable-index + 1) c.variable-item.result (omega arith) c.loop-variable-test.true c.variable-item.is))
    ∙ c.loop-variable.invariant q token

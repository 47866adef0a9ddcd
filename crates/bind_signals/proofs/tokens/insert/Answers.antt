use Rattle.v_hierarchy.specs.Places.{place_in}
use Rattle.bind_signals.proofs.TokenLaws.{token-putting}
use Rattle.bind_signals.proofs.tokens.insert.Goals as goal

pub returns : goal.returns
returns c = λ q token.
    token-putting (place_in c.args.table.now) (place_in c.put.new.self) c.as_bytes-name.result.now c.args.variable.now.name q c.args.variable.now.site.token token
    c.last_with-last.result c.find.result c.as_bytes-name.ensures.same c.find.ensures c.last_with-last.ensures (c.in_ok-put.ensures.put q)

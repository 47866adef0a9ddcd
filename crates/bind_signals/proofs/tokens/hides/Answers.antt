use Rattle.std.proofs.Common.{Some, None}
use Rattle.v_hierarchy.specs.Places.{place_in}
use Rattle.bind_signals.proofs.TokenLaws.{hides-found}
use Rattle.bind_signals.proofs.tokens.hides.Goals as goal

pub returns-in-Some : goal.returns-in-Some
returns-in-Some c = λ entries has.
    hides-found (place_in c.args.declared.now) entries c.as_bytes.result.now c.args.variable.now.name c.args.variable.now.site.token c.find.result (Some c.in-Some.first)
    has c.as_bytes.ensures.same c.find.ensures c.in-Some.is

pub returns-in-None : goal.returns-in-None
returns-in-None c = λ entries has.
    hides-found (place_in c.args.declared.now) entries c.as_bytes.result.now c.args.variable.now.name c.args.variable.now.site.token c.find.result None
    has c.as_bytes.ensures.same c.find.ensures c.in-None.is

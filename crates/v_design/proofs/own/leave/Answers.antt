use Rattle.std.proofs.Common.{sym, ap, ◌∙◌, drop, arith}
use Rattle.v_binding.specs.Seen.{names_in}
use Rattle.v_design.proofs.ItemWalkLaws.{dropped-some, dropped-once}
use Rattle.v_design.proofs.own.leave.Goals as goal

pub pop-requires : goal.pop-requires
pop-requires c = λ none.
    dropped-some c.loop-place._place (names_in c.args.names.now) (omega (arith, c.loop-place-test.true, c.requires)) (sym c.loop-place.invariant ∙ none)

pub loop-place-preserved : goal.loop-place-preserved
loop-place-preserved c = c.pop.ensures ∙ ap (drop 1) c.loop-place.invariant ∙ dropped-once c.loop-place._place (names_in c.args.names.now)

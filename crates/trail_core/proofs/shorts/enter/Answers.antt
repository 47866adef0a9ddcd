use Rattle.std.proofs.Common.{◌&&◌, ◌∙◌, sym}
use Rattle.std.proofs.lemmas.Bool.{both_ways}
use Rattle.trail_core.specs.Watching.{is_short}
use Rattle.trail_core.proofs.shorts.enter.Goals as goal

pub returns-then-not-is_taken-clause-short : goal.returns-then-not-is_taken-clause-short
returns-then-not-is_taken-clause-short c = λ s. absurd (both_ways (c.args.takes && is_short c.args.literals.now) (sym c.is_taken.ensures ∙ c.if-not-is_taken.true) s)

pub enter_all-requires-clause-places : goal.enter_all-requires-clause-places
enter_all-requires-clause-places c = c.requires.places (sym c.is_taken.ensures ∙ c.if-not-is_taken.false)

pub returns-clause-short : goal.returns-clause-short
returns-clause-short c = λ _. c.enter_all.ensures

pub returns-clause-long : goal.returns-clause-long
returns-clause-long c = λ f. absurd (both_ways (c.args.takes && is_short c.args.literals.now) f (sym c.is_taken.ensures ∙ c.if-not-is_taken.false))

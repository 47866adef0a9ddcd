use Rattle.std.proofs.Common.{◌&&◌, ◌∙◌, sym}
use Rattle.std.proofs.lemmas.Bool.{both_ways}
use Rattle.trail_core.specs.Watching.{is_short}
use Rattle.trail_core.proofs.Entering.{same_itself}
use Rattle.trail_core.proofs.shorts.make_short_room.Goals as goal

pub returns-then-not-is_taken-clause-same : goal.returns-then-not-is_taken-clause-same
returns-then-not-is_taken-clause-same c = same_itself c.args.shorts.now

pub returns-then-not-is_taken-clause-more : goal.returns-then-not-is_taken-clause-more
returns-then-not-is_taken-clause-more c = λ s. absurd (both_ways (c.args.takes && is_short c.args.literals.now) (sym c.is_taken.ensures ∙ c.if-not-is_taken.true) s)

pub returns-clause-more : goal.returns-clause-more
returns-clause-more c = λ _. c.in_ok-make_short_places.ensures.more

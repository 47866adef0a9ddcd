use Rattle.std.proofs.Common.{◌+◌, ◌*◌, length}
use Rattle.v_lexer.proofs.ReadingLaws.{LeadsTo}
use Rattle.v_lexer.proofs.state.State.+reading.Given as goal

abbrev pub decreases-read : goal.decreases-read
decreases-read l = 3 * l.left + 2

abbrev pub decreases-turn : goal.decreases-turn
decreases-turn l = 3 * l.left + 1

abbrev pub decreases-uses : goal.decreases-uses
decreases-uses l = 3 * l.left

abbrev pub invariant-read-loop-first : goal.invariant-read-loop-first
invariant-read-loop-first l = LeadsTo l.fn.left l.fn.self l.fn.place l.fn.text l.self l.place l.rest

abbrev pub decreases-read-loop-first : goal.decreases-read-loop-first
decreases-read-loop-first l = length l.rest

use Rattle.std.proofs.Common.{◌+◌, ◌^◌, ◌<◌, length}
use Rattle.sat_core.specs.Outcome.{Grows}
use Rattle.sat_core.specs.Searching.{form_of, IsUnderWay, Keeps, measure}
use Rattle.sat_core.proofs.engine.Engine.search.Given as goal

abbrev pub invariant-loop-verdict : goal.invariant-loop-verdict
invariant-loop-verdict l = record {
  under_way : IsUnderWay l.self l.log l.assume;
  clauses_fit : l.self.form_len + length l.log + l.budget + 1 < 2 ^ 32;
  some : 0 < l.budget;
  keeps : Keeps l.fn.self l.self;
  grows : Grows (form_of l.fn.self) l.fn.log l.log l.fn.budget l.budget 0;
}

abbrev pub decreases-loop-verdict : goal.decreases-loop-verdict
decreases-loop-verdict l = measure l.self l.budget

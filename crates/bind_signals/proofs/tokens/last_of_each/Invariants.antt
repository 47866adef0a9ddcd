use Rattle.std.proofs.Common.{◌≡◌, ◌||◌, ℕ, List, drop}
use Rattle.std.specs.Prelude.{nat_lt}
use Rattle.bind_signals.specs.Tables.{is_behind}
use Rattle.bind_signals.specs.LoopNames.{listed, is_used}
use Rattle.bind_signals.proofs.tokens.last_of_each.Given as goal

abbrev pub invariant-loop-variable : goal.invariant-loop-variable
invariant-loop-variable l = (q : List ℕ) (token : ℕ)
    → (is_behind l.table q token || is_used q (nat_lt token) (listed (drop l.variable-index l.variables))) ≡ is_used q (nat_lt token) (listed l.variables)

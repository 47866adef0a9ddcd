use Rattle.std.proofs.Common.{◌≡◌, ℕ, [], vec_len}
use Rattle.design_order.specs.Sources.{row_at}
use Rattle.design_order.proofs.sources.empty_rows.Given as goal

abbrev pub invariant-loop : goal.invariant-loop
invariant-loop l = (vec_len l.rows ≡ l.counter) × ((s : ℕ) → row_at l.rows.items s ≡ [])

use Rattle.std.proofs.Common.{take, length, ◌-◌, ◌≡◌}
use Rattle.design_bits.specs.Listed.{undone}
use Rattle.design_bits.proofs.listed.put_back.Given as goal

abbrev pub invariant-loop-turn : goal.invariant-loop-turn
invariant-loop-turn l = undone (take (length l.before - l.turn) l.before) l.table ≡ undone l.before l.initial.table

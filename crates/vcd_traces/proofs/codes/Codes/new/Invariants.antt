use Rattle.std.proofs.Common.{◌≡◌, ◌≤◌, ◌-◌, ℕ, length, get_or, None}
use Rattle.vcd_traces.proofs.codes.Codes.new.Given as goal

abbrev pub invariant-loop-near : goal.invariant-loop-near
invariant-loop-near l = record {
  few : length l.near.items ≤ l.count;
  none : (place : ℕ) → get_or l.near.items place None ≡ None;
}

abbrev pub decreases-loop-near : goal.decreases-loop-near
decreases-loop-near l = l.count - length l.near.items

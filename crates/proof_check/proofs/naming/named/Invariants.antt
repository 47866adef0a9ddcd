use Rattle.std.proofs.Common.{◌≡◌, ◌+◌, ◌<◌, ℕ, true, get_or, length, take}
use Rattle.proof_check.specs.Named.{is_named}
use Rattle.proof_check.proofs.naming.named.Given as goal

abbrev pub invariant-loop-place : goal.invariant-loop-place
invariant-loop-place l = record {
  long : length l.marks.items ≡ l.most;
  marks : (place : ℕ) → place < l.most → get_or l.marks.items place true ≡ is_named (take l.place l.log) (place + 1);
}

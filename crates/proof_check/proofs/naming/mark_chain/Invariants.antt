use Rattle.std.proofs.Common.{◌≡◌, ◌+◌, ◌||◌, ℕ, true, get_or, length, take}
use Rattle.proof_check.specs.Named.{is_in}
use Rattle.proof_check.proofs.naming.mark_chain.Given as goal

abbrev pub invariant-loop-number : goal.invariant-loop-number
invariant-loop-number l = record {
  long : length l.marks ≡ length l.fn.marks;
  marks : (place : ℕ) → get_or l.marks place true ≡ (get_or l.fn.marks place true || is_in (take l.number-index l.chain) (place + 1));
}

-- The statuses of refusals.
use Rattle.std.proofs.Common.{ℕ, ◌≤◌, arith, inl, inr}
use Rattle.command_contract.specs.Contract.{IsInputRefusal, IsRefusal}

-- they are 2 to 5
pub refusal-range : (n : ℕ) → IsRefusal n → (2 ≤ n) × (n ≤ 5)
refusal-range n (inl e) = (omega (arith, e), omega (arith, e))
refusal-range n (inr (inl e)) = (omega (arith, e), omega (arith, e))
refusal-range n (inr (inr (inl e))) = (omega (arith, e), omega (arith, e))
refusal-range n (inr (inr (inr e))) = (omega (arith, e), omega (arith, e))

-- writing that failed is none, and neither is want of memory
pub six-no_refusal : IsRefusal 6 → ⊥
six-no_refusal is = omega (arith, refusal-range 6 is)

pub seven-no_refusal : IsRefusal 7 → ⊥
seven-no_refusal is = omega (arith, refusal-range 7 is)

-- the refusals of inputs are 3 to 5
pub input-range : (n : ℕ) → IsInputRefusal n → (3 ≤ n) × (n ≤ 5)
input-range n (inl e) = (omega (arith, e), omega (arith, e))
input-range n (inr (inl e)) = (omega (arith, e), omega (arith, e))
input-range n (inr (inr e)) = (omega (arith, e), omega (arith, e))

-- they are refusals
pub input-refusal : (n : ℕ) → IsInputRefusal n → IsRefusal n
input-refusal n is = inr is

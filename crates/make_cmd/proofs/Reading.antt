-- What was read of the made texts: no count of faults rose, so that no text wasn't handed over.
use Rattle.std.proofs.Common.{ℕ, ◌≡◌, ◌≢◌, ◌<◌, [], refl, arith, lit<, Result, Ok, Err}
use Rattle.io_ports.specs.Faults.{FaultCounts, LoadRose, fault_counts}
use Rattle.load_problem.specs.declared.inputs.Inputs.{Inputs}
use Rattle.refusal.specs.declared.last_line.LastLine.{LastLine}
use Rattle.refusal.specs.declared.last_line.LastLine.TheVariants.{Line, Memory}
use Rattle.refusal.specs.Ends.{CountsOf}
use Rattle.find_cmd.specs.Reading.{IsReadFault}

-- a shelf on which no count can rise
none-rose : LoadRose (fault_counts 0 0 []) (fault_counts 0 0 []) → ⊥
none-rose rose = let low : 0 < 0 = rose.0.1 (lit< tt) in omega (arith, low)

pub counts-anywhere : (n : FaultCounts) (read : Result Inputs LastLine)
    → CountsOf (fault_counts 0 0 []) (fault_counts 0 0 []) read → CountsOf n n read
counts-anywhere n (Ok inputs) counts = refl
counts-anywhere n (Err (Line status line)) counts = (λ five. absurd (none-rose (counts.0 five).0), λ other. refl)
counts-anywhere n (Err Memory) counts = tt

pub no-fault : (read : Result Inputs LastLine) → CountsOf (fault_counts 0 0 []) (fault_counts 0 0 []) read → IsReadFault read → ⊥
no-fault (Ok inputs) counts fault = fault
no-fault (Err (Line status line)) counts five = none-rose (counts.0 five).0
no-fault (Err Memory) counts seven = omega (arith, seven)

pub never-five : (read : Result Inputs LastLine) (status : ℕ) → CountsOf (fault_counts 0 0 []) (fault_counts 0 0 []) read
    → (status ≡ 5 → IsReadFault read) → status ≢ 5
never-five read status counts fault five = no-fault read counts (fault five)

-- The counts of faults.
use Rattle.std.proofs.Common.{inl, inr}
use Rattle.command_contract.specs.Contract.{Counts, OneRose, WriteFailed}

-- where a write failed one of the counts rose
pub write-rose : (counts : Counts) → WriteFailed counts → OneRose counts
write-rose counts (inl shelf) = inl shelf.0
write-rose counts (inr sink) = inr sink

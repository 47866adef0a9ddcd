-- What a shelf in memory holds: texts to be loaded, texts that are written, and the calls that are to fail.
use Rattle.std.specs.Prelude.{◌≡◌, ℕ, List, Option, Contains}
use Rattle.io_ports.specs.Faults.{FaultCounts, fault_counts, one_more}
use Rattle.io_ports.specs.Texts.{text_of}
use Rattle.io_ports.specs.declared.mem_shelf.MemShelf.{MemShelf}

-- the text to be loaded under a name
abbrev pub texts_of : MemShelf → List ℕ → Option (List ℕ)
texts_of shelf = text_of shelf.texts

-- the written text under a name
abbrev pub written_of : MemShelf → List ℕ → Option (List ℕ)
written_of shelf = text_of shelf.written

-- how many calls failed
abbrev pub faults_of : MemShelf → ℕ
faults_of shelf = shelf.plan.faults

-- how many writes failed
abbrev pub write_faults_of : MemShelf → ℕ
write_faults_of shelf = shelf.write_faults

-- the name of the text whose load failed last
abbrev pub failed_name_of : MemShelf → List ℕ
failed_name_of shelf = shelf.failed_name.bytes

-- all three
abbrev pub fault_counts_of : MemShelf → FaultCounts
fault_counts_of shelf = fault_counts (faults_of shelf) (write_faults_of shelf) (failed_name_of shelf)

-- how many calls were made, which is the number of the next one
abbrev pub calls_of : MemShelf → ℕ
calls_of shelf = shelf.plan.calls

-- the numbers of the calls that are to fail
abbrev pub failing_calls : MemShelf → List ℕ
failing_calls shelf = shelf.plan.fails.items

-- a number names the next call
abbrev pub IsToFail : MemShelf → Type 0
IsToFail shelf = Contains (failing_calls shelf) (calls_of shelf)

-- one call was made
abbrev pub CountsCall : MemShelf → MemShelf → Type 0
CountsCall old new = (failing_calls new ≡ failing_calls old) × (calls_of new ≡ one_more (calls_of old))

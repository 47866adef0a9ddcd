-- What a sink in memory holds: the text that is written, and the calls that are to fail.
use Rattle.std.specs.Prelude.{◌≡◌, ℕ, List, Contains}
use Rattle.io_ports.specs.Faults.{one_more}
use Rattle.io_ports.specs.declared.mem_sink.MemSink.{MemSink}

-- the written text
abbrev pub written_of : MemSink → List ℕ
written_of sink = sink.text

-- how many calls failed
abbrev pub faults_of : MemSink → ℕ
faults_of sink = sink.plan.faults

-- how many calls were made, which is the number of the next one
abbrev pub calls_of : MemSink → ℕ
calls_of sink = sink.plan.calls

-- the numbers of the calls that are to fail
abbrev pub failing_calls : MemSink → List ℕ
failing_calls sink = sink.plan.fails.items

-- a number names the next call
abbrev pub IsToFail : MemSink → Type 0
IsToFail sink = Contains (failing_calls sink) (calls_of sink)

-- one call was made
abbrev pub CountsCall : MemSink → MemSink → Type 0
CountsCall old new = (failing_calls new ≡ failing_calls old) × (calls_of new ≡ one_more (calls_of old))

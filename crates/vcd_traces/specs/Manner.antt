-- How a dump is read, as it is handed over.
use Rattle.std.specs.Prelude.{ℕ, List, Option}
use Rattle.std.specs.Borrow.{Bor}
use Rattle.std.specs.Option.{option_copied, option_map}
use Rattle.vcd_traces.specs.declared.sampling.SampleBy.{SampleBy}
use Rattle.vcd_traces.specs.Samples.{Manner}

abbrev pub manner_of : SampleBy → Manner
manner_of by = record { clock = option_copied by.clock; scope = option_copied by.scope; zero_inputs = by.zero_inputs }

abbrev pub path_bytes : Option (Bor (List ℕ)) → Option (List ℕ)
path_bytes path = option_map (λ (bytes : Bor (List ℕ)). bytes.now) path

-- What texts are read by.
use Rattle.front_end.specs.By.{By}
use Rattle.requests.specs.Asked.{SourcesAsked}
use Rattle.vcd_traces.specs.Samples.{Manner}

-- the design's
abbrev pub by_of : SourcesAsked → By
by_of asked = record { format = asked.texts.format; top = asked.texts.top; clock = asked.clock }

-- those of the traces
abbrev pub manner_asked : SourcesAsked → Manner
manner_asked asked = record { clock = asked.clock; scope = asked.texts.scope; zero_inputs = asked.texts.zero_inputs }

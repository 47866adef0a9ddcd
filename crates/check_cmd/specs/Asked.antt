-- What may be asked of `check`, and what its report's list is asked of.
use Rattle.std.specs.Prelude.{length}
use Rattle.report_doc.specs.declared.types.Report.{Report}
use Rattle.requests.specs.Asked.{CheckAsked, IsUpTo, WantedAsked}

-- what may be asked
pub record IsAsked (asked : CheckAsked) : Type 0 where
  pub traces : IsUpTo 256 (length asked.texts.traces)
  pub workers : IsUpTo 64 asked.workers

-- what the list is asked of: the texts by the words, the clock, the kinds of suspects and the size of a set by the report
abbrev pub wanted_by : CheckAsked → Report → WantedAsked
wanted_by asked report = record {
  sources = record { texts = asked.texts; clock = report.clock };
  suspects = report.kinds;
  size = report.size;
}

-- A trace of the list, with the rows of its values.
use Rattle.std.proofs.Common.{◌≡◌, ◌<◌, ◌≤◌, ◌+◌, ◌*◌, ◌^◌, ℕ, List, length, arith, subst}
use Rattle.std.specs.Prelude.{All, Some, slice_get}
use Rattle.std.proofs.lemmas.Option.{slice_get_within}
use Rattle.design_core.specs.declared.design.Design.{Design}
use Rattle.design_core.specs.declared.trace.Trace.{Trace}
use Rattle.design_core.specs.declared.values.Values.{Values}
use Rattle.design_core.specs.Explained.{IsRow, cycles_before, row_of}
use Rattle.design_core.specs.TraceFits.{IsTraceOf}
use Rattle.design_core.proofs.CyclesBefore.{cycles-within, cycles_before-whole}
use Rattle.cycle_sim.specs.Misses.{AreValuesFor}
use Rattle.cycle_sim.proofs.Replayed.{times-rises, trace-of}
use Rattle.value_runs.specs.declared.rerun.Rerun.{Rerun}
use Rattle.value_runs.specs.Reruns.{IsRerun}

-- what is known of the rerun of the trace of a number
pub record IsAt (r : Rerun) (traces : List Trace) (k : ℕ) : Type 0 where
  pub at : slice_get traces k ≡ Some r.trace.now
  pub first : r.first ≡ cycles_before traces k
  pub all : All (IsTraceOf r.design.now) traces
  pub few : cycles_before traces (length traces) < 2 ^ 32
  pub values : AreValuesFor r.design.now traces r.values.now

pub rerun-fits : (r : Rerun) (traces : List Trace) (k : ℕ) → IsAt r traces k → IsRerun r
rerun-fits r traces k is = record {
  trace = trace-of r.design.now traces k r.trace.now is.all is.at;
  places = is.values.places;
  rows = omega (arith, is.values.rows.whole, rises);
  numbers = omega (arith, is.few, stands, is.first);
}
  where
    stands : cycles_before traces k + r.trace.now.cycles ≤ cycles_before traces (length traces)
    stands = cycles_before-whole traces k (length traces) r.trace.now is.at (slice_get_within traces k r.trace.now is.at)

    rises : (r.first + r.trace.now.cycles) * length r.values.now.places.items
        ≤ cycles_before traces (length traces) * length r.values.now.places.items
    rises = times-rises (r.first + r.trace.now.cycles) (cycles_before traces (length traces)) (length r.values.now.places.items)
        (omega (arith, stands, is.first))

pub rows-fit : (d : Design) (values : Values) (traces : List Trace) (k first : ℕ) (trace : Trace) → slice_get traces k ≡ Some trace
    → first ≡ cycles_before traces k → AreValuesFor d traces values → (t : ℕ) → t < trace.cycles
    → IsRow d values.places.items (row_of values.places.items values.rows.items (first + t))
rows-fit d values traces k first trace at begins are t low =
    are.rows.each (first + t)
    (omega (arith, begins, cycles-within traces k (length traces) trace t at (slice_get_within traces k trace at) low))

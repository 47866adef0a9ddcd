-- A trace that is run again.
use Rattle.std.proofs.Common.{◌≡◌, ◌<◌, ◌≤◌, ◌+◌, ◌-◌, ◌*◌, ℕ, Bool, List, [], ◌∷◌, length, map, take, drop, ◌++◌, Some, None, refl, ap, sym, subst, arith}
use Rattle.std.specs.Prelude.{All, IfOk, Result, Ok, Err, slice_get, slice_range}
use Rattle.std.specs.Option.{option_copied}
use Rattle.std.proofs.lemmas.List.{length-append, length-map}
use Rattle.std.proofs.lemmas.Option.{slice_get_within}
use Rattle.loc_base.specs.declared.bits.Bits.{Bits}
use Rattle.design_core.specs.declared.design.Design.{Design}
use Rattle.design_core.specs.declared.trace.Checked.{Checked}
use Rattle.design_core.specs.declared.trace.Trace.{Trace}
use Rattle.design_core.specs.Explained.{cycles_before}
use Rattle.design_core.specs.Run.{Choices, IsRunFrom}
use Rattle.design_core.specs.TraceFits.{IsTraceOf}
use Rattle.design_core.specs.Valuation.{Valuation}
use Rattle.design_core.proofs.CyclesBefore.{cycles_before-whole}
use Rattle.cycle_sim.specs.Misses.{AreValuesFor}
use Rattle.cycle_sim.proofs.Replayed.{times-rises, trace-of}
use Rattle.vcd_waves.specs.declared.wave.Wave.{Wave}
use Rattle.vcd_waves.specs.Lines.{expected}
use Rattle.vcd_waves.specs.Variables.{clock_of}
use Rattle.set_waves.specs.declared.rerun.Rerun.{Rerun}
use Rattle.set_waves.specs.Making.{IsRerun}
use Rattle.set_waves.specs.Scenes.{given}
use Rattle.set_waves.specs.Waved.{CanBeWaved, Waved}
use Rattle.set_waves.proofs.Given.{outputs-are}

-- what holds of an answer
pub ok-then : {A E : Type 0} {P Q : A → Type 0} (r : Result A E) → IfOk r P → ((x : A) → P x → Q x) → IfOk r Q
ok-then (Ok x) p f = f x p
ok-then (Err e) p f = tt

pub clock-same : (W : Wave) → clock_of W ≡ option_copied W.clock
clock-same W = elim W.clock as (λ c. elim c [ None ↦ None | Some name ↦ Some name.now ] ≡ option_copied c) [ None ↦ refl | Some name ↦ refl ]

-- a run has a valuation for each cycle
run-many : (d : Design) (trace : Trace) (freed : ℕ → Bool) (c : Choices) (t : ℕ) (state : Valuation) (run : List Valuation)
    → IsRunFrom d trace freed c t state run → t + length run ≡ trace.cycles
run-many d trace freed c t state [] is = omega (arith, is)
run-many d trace freed c t state (V ∷ run) (low, (next, cycle, more)) =
    omega (arith, run-many d trace freed c (t + 1) next run more)

pub run-length : (d : Design) (trace : Trace) (freed : ℕ → Bool) (c : Choices) (state : Valuation) (run : List Valuation)
    → IsRunFrom d trace freed c 0 state run → trace.cycles ≡ length run
run-length d trace freed c state run is = omega (arith, run-many d trace freed c 0 state run is)

-- the rows of a trace among those of all
pub rows-range : (rows : List Bits) (first cycles n : ℕ)
    → slice_range rows (first * n) ((first + cycles) * n) ≡ take (cycles * n) (drop (first * n) rows)
rows-range rows first cycles n = ap (λ k. take k (drop (first * n) rows)) (over first cycles n)
  where
    over : (a b k : ℕ) → (a + b) * k - a * k ≡ b * k
    over a b k = omega (arith, spread a b k)
      where
        spread : (a b k : ℕ) → (a + b) * k ≡ a * k + b * k
        spread a b k = omega arith

-- one cycle more
pub outputs-more : (d : Design) (V : Valuation) (old new : List Checked) (t : ℕ) → length old ≡ t * length d.outputs.items
    → map expected new ≡ map expected old ++ map (given d V) d.outputs.items → length new ≡ (t + 1) * length d.outputs.items
outputs-more d V old new t before is = omega (
  arith,
  before,
  spread t (length d.outputs.items),
  length-map new expected,
  ap length is,
  length-append (map expected old) (map (given d V) d.outputs.items),
  length-map old expected,
  length-map d.outputs.items (given d V),
)
  where
    spread : (a k : ℕ) → (a + 1) * k ≡ a * k + k
    spread a k = omega arith

-- a trace of what waves are of, with values
pub rerun-fits : (r : Rerun) (w : Waved) (order : List ℕ) (j : ℕ) → CanBeWaved w order → r.design.now ≡ w.design
    → slice_get w.traces j ≡ Some r.trace.now → r.first ≡ cycles_before w.traces j → AreValuesFor w.design w.traces r.values.now
    → IsRerun r
rerun-fits r w order j can design at first values = record {
  trace = subst (λ (d : Design). IsTraceOf d r.trace.now) (sym design) (trace-of w.design w.traces j r.trace.now can.traces at);
  outputs = subst (λ (d : Design). All (λ o. o < length d.signals.items) d.outputs.items) (sym design)
      (outputs-are w.design can.simulable.well_formed);
  places = subst (λ (d : Design). All (λ p. p < length d.places.items) r.values.now.places.items) (sym design) values.places;
  rows = omega (arith, values.rows.whole, rises);
  numbers = omega (arith, can.few, stands, first);
}
  where
    stands : cycles_before w.traces j + r.trace.now.cycles ≤ cycles_before w.traces (length w.traces)
    stands = cycles_before-whole w.traces j (length w.traces) r.trace.now at (slice_get_within w.traces j r.trace.now at)

    rises : (r.first + r.trace.now.cycles) * length r.values.now.places.items
        ≤ cycles_before w.traces (length w.traces) * length r.values.now.places.items
    rises = times-rises (r.first + r.trace.now.cycles) (cycles_before w.traces (length w.traces)) (length r.values.now.places.items)
        (omega (arith, stands, first))

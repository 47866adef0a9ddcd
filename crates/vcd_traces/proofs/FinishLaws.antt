-- The cycles that are kept at a text's end are a trace, or none for the first cause that holds.
use Rattle.std.proofs.Common.{◌≡◌, ℕ, ◌<◌, ◌≤◌, List, length, sym, ◌∙◌, ap, arith, Some, None, Ok, Err}
use Rattle.std.specs.Option.{option_or}
use Rattle.std.proofs.lemmas.Bool.{cond-true, cond-false}
use Rattle.loc_base.proofs.ShelfBools.{equal-false}
use Rattle.vcd_reading.specs.declared.error.VcdErr.TheVariants.{NoCycle, Cycles, UnknownInput}
use Rattle.vcd_traces.specs.declared.rows.Rows.{Rows}
use Rattle.vcd_traces.specs.declared.rows.Unknown.{Unknown}
use Rattle.vcd_reading.specs.Events.{Event}
use Rattle.vcd_traces.specs.Samples.{Watches, cycle_refusal, unknown_from}
use Rattle.vcd_traces.specs.Rows.{rows_of}
use Rattle.vcd_traces.specs.Kept.{AreKept, refusal_by}
use Rattle.vcd_traces.specs.Finish.{refused, Finishes}
use Rattle.vcd_traces.proofs.RunningLaws.{lt_from, not_less}
use Rattle.vcd_traces.proofs.TraceLaws.{kept_samples}

no_cycle_of : (n : ℕ) → n ≡ 0 → cycle_refusal n ≡ Some NoCycle
no_cycle_of n none = ap cycle_refusal none

many_of : (n : ℕ) → 100000 < n → cycle_refusal n ≡ Some Cycles
many_of n many = cond-false _ _ _ (equal-false n 0 (λ none. omega (arith, many, none))) ∙ cond-true _ _ _ (lt_from 100000 n many)

some_of : (n : ℕ) → (n ≡ 0 → ⊥) → n ≤ 100000 → cycle_refusal n ≡ None
some_of n some few = cond-false _ _ _ (equal-false n 0 some) ∙ cond-false _ _ _ (not_less 100000 n few)

pub finish_none : (w : Watches) (events : List Event) (times : List ℕ) (rows : Rows) → AreKept w events times (rows_of rows) → rows.trace.cycles ≡ 0
    → Finishes w events times (Err NoCycle)
finish_none w events times rows are none =
    let count = are.cycles in
    let empty : length times ≡ 0 = omega (arith, count, none) in
    ap (λ o. option_or o (unknown_from w events 0 times)) (no_cycle_of (length times) empty)

pub finish_many : (w : Watches) (events : List Event) (times : List ℕ) (rows : Rows) → AreKept w events times (rows_of rows) → 100000 < rows.trace.cycles
    → Finishes w events times (Err Cycles)
finish_many w events times rows are many =
    let count = are.cycles in
    let more : 100000 < length times = omega (arith, count, many) in
    ap (λ o. option_or o (unknown_from w events 0 times)) (many_of (length times) more)

few_kept : (w : Watches) (events : List Event) (times : List ℕ) (rows : Rows) → AreKept w events times (rows_of rows) → (rows.trace.cycles ≡ 0 → ⊥)
    → rows.trace.cycles ≤ 100000 → (length times ≤ 100000) × (refused w events times ≡ refusal_by rows.unknown)
few_kept w events times rows are some few =
    let count = are.cycles in
    let fits : length times ≤ 100000 = omega (arith, count, few) in
    let same : rows.trace.cycles ≡ length times = omega (arith, count, fits) in
    (fits, ap (λ o. option_or o (unknown_from w events 0 times)) (some_of (length times) (λ none. some (same ∙ none)) fits) ∙ sym (are.unknown fits))

pub finish_unknown : (w : Watches) (events : List Event) (times : List ℕ) (rows : Rows) (u : Unknown) → AreKept w events times (rows_of rows)
    → (rows.trace.cycles ≡ 0 → ⊥) → rows.trace.cycles ≤ 100000 → rows.unknown ≡ Some u → Finishes w events times (Err (UnknownInput u.cycle u.signal))
finish_unknown w events times rows u are some few is = (few_kept w events times rows are some few).1 ∙ ap refusal_by is

pub finish_trace : (w : Watches) (events : List Event) (times : List ℕ) (rows : Rows) → AreKept w events times (rows_of rows)
    → (rows.trace.cycles ≡ 0 → ⊥) → rows.trace.cycles ≤ 100000 → rows.unknown ≡ None → Finishes w events times (Ok rows.trace)
finish_trace w events times rows are some few is =
    let facts = few_kept w events times rows are some few in
    (facts.1 ∙ ap refusal_by is, kept_samples w events times rows are facts.0 is)

pub ruleset finish_steps = (finish_none, finish_many, finish_unknown, finish_trace)

-- The texts of values, row by row.
use Rattle.std.proofs.Common.{◌≡◌, ℕ, zero, suc, ◌+◌, ◌-◌, ◌*◌, ◌<◌, ◌≤◌, ◌^◌, List, [], ◌∷◌, ◌++◌, length, drop, get_or, map, refl, sym, ap, ap₂, ◌∙◌, subst, append_assoc, append-nil, arith}
use Rattle.std.specs.Prelude.{All}
use Rattle.std.proofs.Math.Seq.{drop-cons}
use Rattle.std.proofs.lemmas.List.{drop_all}
use Rattle.std.proofs.lemmas.List.Elements.{All-cons, All-map}
use Rattle.loc_base.proofs.ShelfLists.{slice_get-at}
use Rattle.design_core.specs.declared.trace.Trace.{Trace}
use Rattle.design_core.specs.declared.values.Values.{Values}
use Rattle.design_core.specs.declared.values.SetWithValues.{SetWithValues}
use Rattle.design_core.specs.Explained.{cycles_before, row_of}
use Rattle.design_core.proofs.CyclesBefore.{cycles_before-next, cycles_before-none, cycles_before-whole}
use Rattle.report_sets.specs.Found.{HasRows, row_texts, rows_texts, set_of, traces_texts}
use Rattle.report_doc.specs.Shape.{AreValues, IsHexText}
use Rattle.report_sets.proofs.Digits.{texts-of_words}

-- ---- all that is written of values can be written
values-of_rows : (values : Values) (first count : ℕ) → AreValues (rows_texts values first count)
unfolding rows_texts
values-of_rows values first zero = λ k d lt. absurd (omega arith)
values-of_rows values first (suc count) =
    All-cons (All IsHexText) (row_texts values first) (rows_texts values (first + 1) count)
    (texts-of_words (row_of values.places.items values.rows.items first)) (values-of_rows values (first + 1) count)

values-of_traces : (values : Values) (first : ℕ) (traces : List Trace) → All AreValues (traces_texts values first traces)
unfolding traces_texts
values-of_traces values first [] = λ k d lt. absurd (omega arith)
values-of_traces values first (trace ∷ traces) =
    All-cons AreValues (rows_texts values first trace.cycles) (traces_texts values (first + trace.cycles) traces)
    (values-of_rows values first trace.cycles) (values-of_traces values (first + trace.cycles) traces)

pub values-of_sets : (traces : List Trace) (sets : List SetWithValues) → All (λ set. All AreValues set.values) (map (set_of traces) sets)
values-of_sets traces sets = All-map (λ set. All AreValues set.values) (set_of traces) sets (λ k d lt. values-of_traces (get_or sets k d).values 0 traces)

-- ---- one more row
rows-suc : (values : Values) (first count : ℕ)
    → rows_texts values first (suc count) ≡ rows_texts values first count ++ row_texts values (first + count) ∷ []
unfolding rows_texts
rows-suc values first zero = ap (λ n. row_texts values n ∷ []) (omega arith)
rows-suc values first (suc count) =
    ap (λ rows. row_texts values first ∷ rows) (rows-suc values (first + 1) count
    ∙ ap (λ n. rows_texts values (first + 1) count ++ row_texts values n ∷ []) (omega arith))

pub rows-none : (values : Values) (first : ℕ) → [] ≡ rows_texts values first 0
unfolding rows_texts
rows-none values first = refl

pub rows-next : (values : Values) (first count : ℕ) (row : List (List ℕ)) (old new : List (List (List ℕ)))
    → old ≡ rows_texts values first count → row ≡ row_texts values (first + count) → new ≡ old ++ row ∷ []
    → new ≡ rows_texts values first (count + 1)
rows-next values first count row old new before is grown =
    let next : suc count ≡ count + 1 = omega arith in
    grown ∙ ap₂ (λ rows one. rows ++ one ∷ []) before is ∙ sym (rows-suc values first count) ∙ ap (rows_texts values first) next

-- ---- one more trace
pub traces-none : (values : Values) (first place : ℕ) (traces : List Trace) (whole found : List (List (List (List ℕ))))
    → length traces ≤ place → whole ≡ found ++ traces_texts values first (drop place traces) → found ≡ whole
unfolding traces_texts
traces-none values first place traces whole found past all =
    sym (all ∙ ap (λ rest. found ++ traces_texts values first rest) (drop_all place traces past) ∙ append-nil found)

pub traces-next : (values : Values) (first place : ℕ) (traces : List Trace) (trace : Trace) (one : List (List (List ℕ)))
    (whole old new : List (List (List (List ℕ)))) → place < length traces → trace ≡ get_or traces place trace
    → whole ≡ old ++ traces_texts values first (drop place traces) → one ≡ rows_texts values first trace.cycles → new ≡ old ++ one ∷ []
    → whole ≡ new ++ traces_texts values (first + trace.cycles) (drop (place + 1) traces)
unfolding traces_texts
traces-next values first place traces trace one whole old new within is all made grown =
    let next : suc place ≡ place + 1 = omega arith in
    let rest = traces_texts values (first + trace.cycles) (drop (place + 1) traces) in
    let split : drop place traces ≡ trace ∷ drop (place + 1) traces =
    drop-cons traces place trace within ∙ ap₂ (λ first n. first ∷ drop n traces) (sym is) next in
    all ∙ ap (λ more. old ++ traces_texts values first more) split ∙ ap (λ rows. old ++ rows ∷ rest) (sym made)
    ∙ sym (append_assoc old (one ∷ []) rest) ∙ ap (λ front. front ++ rest) (sym grown)

pub counted-first : (traces : List Trace) → 0 ≡ cycles_before traces 0
counted-first traces = sym (cycles_before-none traces)

pub counted-next : (traces : List Trace) (place old new : ℕ) (trace : Trace) → place < length traces → trace ≡ get_or traces place trace
    → old ≡ cycles_before traces place → new ≡ old + trace.cycles → new ≡ cycles_before traces (place + 1)
counted-next traces place old new trace within is before grown =
    grown ∙ ap (λ n. n + trace.cycles) before ∙ sym (cycles_before-next traces place trace (slice_get-at traces place trace within is))

times-rises : (a b w : ℕ) → a ≤ b → a * w ≤ b * w
times-rises a b w less = subst (λ n. a * w ≤ n * w) together (omega (arith, spread))
  where
    together : a + (b - a) ≡ b
    together = omega (arith, less)

    spread : (a + (b - a)) * w ≡ a * w + (b - a) * w
    spread = omega arith

-- a row within those of a trace
pub row-within : (first cycle cycles width rows : ℕ) → cycle < cycles → (first + cycles) * width ≤ rows → (first + cycle + 1) * width ≤ rows
row-within first cycle cycles width rows less all =
    omega (arith, all, times-rises (first + cycle + 1) (first + cycles) width (omega arith))

-- the rows of a trace within all rows
pub trace-within : (values : Values) (traces : List Trace) (place first : ℕ) (trace : Trace) → HasRows traces values → place < length traces
    → trace ≡ get_or traces place trace → first ≡ cycles_before traces place
    → ((first + trace.cycles) * length values.places.items ≤ length values.rows.items) × (first + trace.cycles < 2 ^ 32)
trace-within values traces place first trace has within is before =
    let at = slice_get-at traces place trace within is in
    let all = cycles_before-whole traces place (length traces) trace at within in
    let rises = times-rises (first + trace.cycles) (cycles_before traces (length traces)) (length values.places.items) (omega (arith, all, before)) in
    (omega (arith, has.rows, rises), omega (arith, has.few, all, before))

-- the cycles up to a trace are no more than all
pub counted-within : (traces : List Trace) (place : ℕ) (trace : Trace) → place < length traces → trace ≡ get_or traces place trace
    → cycles_before traces place + trace.cycles ≤ cycles_before traces (length traces)
counted-within traces place trace within is =
    cycles_before-whole traces place (length traces) trace (slice_get-at traces place trace within is) within

pub ruleset row_steps = (rows-none, rows-next, row-within)

pub ruleset trace_steps = (traces-none, traces-next, counted-first, counted-next, counted-within)

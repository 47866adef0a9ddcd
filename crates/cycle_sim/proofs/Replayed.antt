-- The traces of a replay, one after another, and the least miss among them.
use Rattle.std.proofs.Common.{ℕ, zero, suc, ◌+◌, ◌*◌, ◌-◌, ◌≡◌, ◌<◌, ◌≤◌, Bool, List, length, take, drop, map, refl, ap, sym, subst, ◌∙◌, arith, ◌⊎◌, inl, inr, Option, Some}
use Rattle.std.specs.Prelude.{slice_get, All}
use Rattle.std.proofs.Math.Path.{fun_ext}
use Rattle.std.proofs.lemmas.Bool.{cases_lt}
use Rattle.std.proofs.lemmas.Option.{slice_get_within, get_or_from_slice_get}
use Rattle.loc_base.specs.Bits.{value_of}
use Rattle.loc_base.proofs.ShelfOptions.{Some-same}
use Rattle.design_core.specs.declared.design.Design.{Design}
use Rattle.design_core.specs.declared.trace.Trace.{Trace}
use Rattle.design_core.specs.declared.values.Values.{Values}
use Rattle.design_core.specs.Run.{Choices, Meets}
use Rattle.design_core.specs.TraceFits.{IsTraceOf}
use Rattle.design_core.specs.Explained.{is_one_of, number_for, choices_in, cycles_before}
use Rattle.design_core.proofs.CyclesBefore.{cycles_before-none, cycles_before-next, cycles_before-whole}
use Rattle.cycle_sim.specs.declared.miss.Miss.{Miss}
use Rattle.cycle_sim.specs.Simulated.{Simulated, IsSimulable, at_start}
use Rattle.cycle_sim.specs.Misses.{MissesAt, IsMiss, IsBefore, IsLeastMiss, MeetAll, AreValuesFor}
use Rattle.cycle_sim.specs.Replaying.{TraceReplays, choices_from}
use Rattle.cycle_sim.proofs.Running.{meets-no_miss}

-- the rows that stand before a trace's own are those of the cycles before it, where rows take room
pub record StandsAt (traces : List Trace) (values : Values) (first j : ℕ) : Type 0 where
  pub many : first * length values.places.items ≡ cycles_before traces j * length values.places.items
  pub none : length values.places.items ≡ 0 → first ≡ 0

pub stands-first : (traces : List Trace) (values : Values) → StandsAt traces values 0 0
stands-first traces values =
    record {
      many = ap (λ n. n * length values.places.items) (sym (cycles_before-none traces));
      none = λ _. refl;
    }

added : (a b n m w : ℕ) → a * w ≡ b * w → n * w ≡ m * w → (a + n) * w ≡ (b + m) * w
added a b n m w one other = omega (arith, one, other)

pub stands-next : (traces : List Trace) (values : Values) (first j more : ℕ) (trace : Trace) → slice_get traces j ≡ Some trace
    → StandsAt traces values first j
    → more * length values.places.items ≡ trace.cycles * length values.places.items → (length values.places.items ≡ 0 → more ≡ 0)
    → StandsAt traces values (first + more) (j + 1)
stands-next traces values first j more trace at here rows none =
    record {
      many = added first (cycles_before traces j) more trace.cycles (length values.places.items) here.many rows
          ∙ ap (λ n. n * length values.places.items) (sym (cycles_before-next traces j trace at));
      none = λ empty. omega (arith, here.none empty, none empty);
    }

-- the choices of a trace's rows are those of the trace
pub choices-are : (traces : List Trace) (values : Values) (first j : ℕ) → StandsAt traces values first j
    → choices_from values first ≡ choices_in traces values j
choices-are traces values first j here = fun_ext
    (λ t. fun_ext (λ p. ap (λ n. number_for values.places.items
    (map value_of (take (length values.places.items) (drop n values.rows.items))) p) (offset t)))
  where
    offset : (t : ℕ) → (first + t) * length values.places.items ≡ (cycles_before traces j + t) * length values.places.items
    offset t = added first (cycles_before traces j) t t (length values.places.items) here.many refl

pub times-rises : (a b w : ℕ) → a ≤ b → a * w ≤ b * w
times-rises a b w less = subst (λ n. a * w ≤ n * w) together (omega (arith, spread))
  where
    together : a + (b - a) ≡ b
    together = omega (arith, less)

    spread : (a + (b - a)) * w ≡ a * w + (b - a) * w
    spread = omega arith

times-more : (a w : ℕ) → a ≤ a * suc w
times-more a w = omega (arith, spread)
  where
    spread : a * suc w ≡ a + a * w
    spread = omega arith

-- the rows of a trace stand within those of all traces
pub rows-within : (d : Design) (traces : List Trace) (values : Values) (first j : ℕ) (trace : Trace)
    → AreValuesFor d traces values → slice_get traces j ≡ Some trace
    → StandsAt traces values first j → (first + trace.cycles) * length values.places.items ≤ length values.rows.items
rows-within d traces values first j trace fit at here = omega (arith, moved, fit.rows.whole, scaled)
  where
    w : ℕ
    w = length values.places.items

    moved : (first + trace.cycles) * w ≡ (cycles_before traces j + trace.cycles) * w
    moved = added first (cycles_before traces j) trace.cycles trace.cycles w here.many refl

    scaled : (cycles_before traces j + trace.cycles) * w ≤ cycles_before traces (length traces) * w
    scaled = times-rises (cycles_before traces j + trace.cycles) (cycles_before traces (length traces)) w
        (cycles_before-whole traces j (length traces) trace at (slice_get_within traces j trace at))

-- and their numbers stay within what is counted
pub numbers-within : (values : Values) (traces : List Trace) (first j cycles most : ℕ) → StandsAt traces values first j
    → (first + cycles) * length values.places.items ≤ length values.rows.items → length values.rows.items < most
    → cycles < most → first + cycles < most
numbers-within values traces first j cycles most here rows below few = at (length values.places.items) refl
  where
    at : (w : ℕ) → length values.places.items ≡ w → first + cycles < most
    at zero e = omega (arith, here.none e, few)
    at (suc w) e =
        let more : (first + cycles) * suc w ≤ length values.rows.items =
        subst (λ n. (first + cycles) * n ≤ length values.rows.items) e rows in
        omega (arith, times-more (first + cycles) w, more, below)

-- each trace before one is right
abbrev pub MeetBefore : Design → List Trace → Values → ℕ → Type 0
MeetBefore d traces values n = (j : ℕ) (trace : Trace) → j < n → slice_get traces j ≡ Some trace
    → Meets d trace (is_one_of values.places.items) (choices_in traces values j)

pub meet-next : (d : Design) (traces : List Trace) (values : Values) (first j : ℕ) (trace : Trace)
    → slice_get traces j ≡ Some trace → StandsAt traces values first j
    → MeetBefore d traces values j → Meets d trace (is_one_of values.places.items) (choices_from values first)
    → MeetBefore d traces values (j + 1)
meet-next d traces values first j trace at here before meets i other below is = by_place (cases_lt i j)
  where
    by_place : (i < j) ⊎ (j ≤ i) → Meets d other (is_one_of values.places.items) (choices_in traces values i)
    by_place (inl earlier) = before i other earlier is
    by_place (inr last) =
        let same : j ≡ i = omega (arith, last, below) in
        let alike : trace ≡ other = Some-same (sym at ∙ ap (slice_get traces) same ∙ is) in
        subst (λ n. Meets d other (is_one_of values.places.items) (choices_in traces values n)) same
        (subst (λ (x : Trace). Meets d x (is_one_of values.places.items) (choices_in traces values j)) alike
        (subst (λ (c : Choices). Meets d trace (is_one_of values.places.items) c) (choices-are traces values first j here) meets))

pub meet-all : (d : Design) (traces : List Trace) (values : Values) (n : ℕ) → length traces ≤ n → MeetBefore d traces values n
    → MeetAll d traces values
meet-all d traces values n all before j trace at = before j trace (omega (arith, all, slice_get_within traces j trace at)) at

-- the least miss of a trace, where the traces before it are right
pub least-miss : (d : Design) (order : List ℕ) → IsSimulable d order
    → (traces : List Trace) (values : Values) (first j t i : ℕ) (trace : Trace) → slice_get traces j ≡ Some trace
    → StandsAt traces values first j → MeetBefore d traces values j
    → TraceReplays d trace (is_one_of values.places.items) (choices_from values first) (Some (t, i))
    → (miss : Miss) → miss ≡ record { trace = j; cycle = t; output = i } → IsLeastMiss d traces values miss
least-miss d order k traces values first j t i trace at here before (misses, least) miss is =
    subst (λ (m : Miss). IsLeastMiss d traces values m) (sym is)
    (record {
      misses = record { trace = trace; is_trace = at; misses = subst (λ (c : Choices). MissesAt d trace freed c t i) alike misses };
      least = refuses;
    })
  where
    freed : ℕ → Bool
    freed = is_one_of values.places.items

    alike : choices_from values first ≡ choices_in traces values j
    alike = choices-are traces values first j here

    refuses : (other : Miss) → IsMiss d traces values other → IsBefore other (record { trace = j; cycle = t; output = i }) → ⊥
    refuses other m (inl sooner) = meets-no_miss d order k m.trace freed (choices_in traces values other.trace) other.cycle
        other.output (before other.trace m.trace sooner m.is_trace) m.misses
    refuses other m (inr (same, less)) =
        let alone : m.trace ≡ trace = Some-same (sym m.is_trace ∙ ap (slice_get traces) same ∙ at) in
        let choices : choices_in traces values other.trace ≡ choices_from values first = ap (choices_in traces values) same ∙ sym alike in
        least other.cycle other.output
        (subst (λ (c : Choices). MissesAt d trace freed c other.cycle other.output) choices
        (subst (λ (x : Trace). MissesAt d x freed (choices_in traces values other.trace) other.cycle other.output) alone m.misses)) less

-- a machine that was put back where it began is one of the same design and order
pub reset-design : (d other : Design) (a : Simulated) (order : List ℕ) → a ≡ at_start other order → other ≡ d → a.design ≡ d
reset-design d other a order start same = ap (λ (s : Simulated). s.design) start ∙ same

pub reset-order : (d : Design) (a : Simulated) (order numbers : List ℕ) → a ≡ at_start d numbers → numbers ≡ order → a.order ≡ order
reset-order d a order numbers start same = ap (λ (s : Simulated). s.order) start ∙ same

-- the answer for a trace of a design that is known by another name
pub answered : (d other : Design) (order numbers : List ℕ) (trace : Trace) (freed : ℕ → Bool) (c : Choices)
    (answer : Option (ℕ × ℕ)) → other ≡ d → numbers ≡ order
    → (IsSimulable other numbers → TraceReplays other trace freed c answer) → IsSimulable d order → TraceReplays d trace freed c answer
answered d other order numbers trace freed c answer same alike given k =
    subst (λ (D : Design). TraceReplays D trace freed c answer) same
    (given (subst (λ (D : Design). IsSimulable D numbers) (sym same) (subst (λ (O : List ℕ). IsSimulable d O) (sym alike) k)))

-- a trace of the list is one of the design
pub trace-of : (d : Design) (traces : List Trace) (j : ℕ) (trace : Trace) → All (IsTraceOf d) traces
    → slice_get traces j ≡ Some trace → IsTraceOf d trace
trace-of d traces j trace all at =
    subst (λ (x : Trace). IsTraceOf d x) (get_or_from_slice_get traces j trace trace at) (all j trace (slice_get_within traces j trace at))

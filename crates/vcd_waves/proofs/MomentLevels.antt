-- The levels of a wave's variables before and after its stamps.
use Rattle.std.proofs.Common.{◌≡◌, ℕ, zero, suc, arith, ◌+◌, ◌*◌, ◌≤◌, ◌<◌, ◌^◌, ◌-◌, Bool, true, false, ◌&&◌, Option, Some, List, [], ◌∷◌, ◌++◌, length, refl, ◌∙◌, ap, subst}
use Rattle.std.specs.Prelude.{slice_get}
use Rattle.std.specs.List.{filter}
use Rattle.std.proofs.lemmas.Bool.{cond-true, cond-false, and_from}
use Rattle.std.proofs.lemmas.Bool.Decides.{nat_tests}
use Rattle.std.proofs.lemmas.List.{append-nil}
use Rattle.std.proofs.lemmas.List.Elements.{filter-append}
use Rattle.std.proofs.lemmas.List.Sums.{fold-append}
use Rattle.vcd_words.specs.declared.level.Level.{Level}
use Rattle.vcd_words.specs.Codes.{code_of}
use Rattle.vcd_words.specs.Levels.{unknown_level, level_of}
use Rattle.vcd_reading.specs.Events.{Event, level_by, is_before, is_up_to, level_before, level_after, is_low, is_high, rises}
use Rattle.vcd_waves.specs.declared.variable.Variable.{Variable}
use Rattle.vcd_waves.specs.declared.variable.Kind.{Kind}
use Rattle.vcd_waves.specs.declared.variable.Kind.TheVariants.{Clock}
use Rattle.vcd_waves.specs.Lines.{Row, Shown, shown_in, clock_shown}
use Rattle.vcd_waves.proofs.ValueDeeds.{one_digit}
use Rattle.vcd_waves.proofs.ChangeEvents.{shown_level, change_events}
use Rattle.vcd_waves.proofs.Moments.{Test, behind, shown_over, no_time, at_variable}
use Rattle.vcd_waves.proofs.CycleRuns.{cycle_events, events_before, stamps}

-- the time of a cycle's first stamp
abbrev pub begins : Bool → ℕ → ℕ
begins false t = t
begins true t = 10 * t

-- a test that fails from a time on
abbrev FailsFrom : Test → ℕ → Type 0
FailsFrom test from = (time : ℕ) → from ≤ time → test (Some time) ≡ false

-- ---- changes of later cycles
none_in : (test : Test) (code : List ℕ) (level : Level) (clocked : Bool) (vs : List Variable) (row : Row) (t : ℕ)
    → FailsFrom test (begins clocked t) → behind test code level (cycle_events clocked vs row t) ≡ level
none_in test code level false vs row t fails = no_time test (Some t) code level (shown_in row) 0 vs
    (fails t (omega arith))
none_in test code level true vs row t fails =
    let low = change_events (Some (10 * t)) (clock_shown 0) 0 vs in
    let shown = change_events (Some (10 * t)) (shown_in row) 0 vs in
    let high = change_events (Some (10 * t + 5)) (clock_shown 1) 0 vs in
    fold-append (level_by test code) level (low ++ shown) high
    ∙ ap (λ l. behind test code l high) (fold-append (level_by test code) level low shown
    ∙ ap (λ l. behind test code l shown)
    (no_time test (Some (10 * t)) code level (clock_shown 0) 0 vs (fails (10 * t) (omega arith)))
    ∙ no_time test (Some (10 * t)) code level (shown_in row) 0 vs (fails (10 * t) (omega arith)))
    ∙ no_time test (Some (10 * t + 5)) code level (clock_shown 1) 0 vs (fails (10 * t + 5) (omega arith))

later_begins : (clocked : Bool) (t more : ℕ) → begins clocked t ≤ begins clocked (t + more)
later_begins false t more = omega arith
later_begins true t more = omega arith

up_to : (test : Test) (code : List ℕ) (clocked : Bool) (vs : List Variable) (rows : ℕ → Row) (t more : ℕ)
    → FailsFrom test (begins clocked t)
    → behind test code unknown_level (events_before clocked vs rows (more + t)) ≡ behind test code unknown_level
    (events_before clocked vs rows t)
up_to test code clocked vs rows t zero fails =
    let none : zero + t ≡ t = omega arith in ap
    (λ n. behind test code unknown_level (events_before clocked vs rows n)) none
up_to test code clocked vs rows t (suc more) fails =
    let one : suc more + t ≡ suc (more + t) = omega arith in
    let front = events_before clocked vs rows (more + t) in
    let order : begins clocked t ≤ begins clocked (more + t) = at_least in
    ap (λ n. behind test code unknown_level (events_before clocked vs rows n)) one
    ∙ fold-append (level_by test code) unknown_level front (cycle_events clocked vs (rows (more + t)) (more + t))
    ∙ none_in test code (behind test code unknown_level front) clocked vs (rows (more + t)) (more + t)
    (λ time from. fails time (omega (arith, from, order)))
    ∙ up_to test code clocked vs rows t more fails
  where
    at_least : begins clocked t ≤ begins clocked (more + t)
    at_least = let flip : t + more ≡ more + t = omega arith in subst (λ n. begins clocked t ≤ begins clocked n) flip
        (later_begins clocked t more)

-- the changes of the cycles before one count alone
front_counts : (test : Test) (code : List ℕ) (clocked : Bool) (vs : List Variable) (rows : ℕ → Row) (t cycles : ℕ)
    → t ≤ cycles
    → FailsFrom test (begins clocked t)
    → behind test code unknown_level (events_before clocked vs rows cycles) ≡ behind test code unknown_level
    (events_before clocked vs rows t)
front_counts test code clocked vs rows t cycles within fails =
    let split : cycles ≡ (cycles - t) + t = omega (arith, within) in
    ap (λ n. behind test code unknown_level (events_before clocked vs rows n)) split
    ∙ up_to test code clocked vs rows t (cycles - t) fails

-- ---- tests of times
before_fails : (at : ℕ) → FailsFrom (is_before at) at
before_fails at time from = grind (arith, nat_tests)

before_passes : (at time : ℕ) → time < at → is_before at (Some time) ≡ true
before_passes at time less = grind (arith, nat_tests)

up_to_fails : (at : ℕ) → FailsFrom (is_up_to at) (suc at)
up_to_fails at time from = grind (arith, nat_tests)

up_to_passes : (at time : ℕ) → time ≤ at → is_up_to at (Some time) ≡ true
up_to_passes at time less = grind (arith, nat_tests)

-- ---- a variable in its cycle
-- the level before a cycle's changes
abbrev before_cycle : Test → List ℕ → Bool → List Variable → (ℕ → Row) → ℕ → Level
before_cycle test code clocked vs rows t = behind test code unknown_level (events_before clocked vs rows t)

at_number : (test : Test) (time : Option ℕ) (level : Level) (shown : Kind → ℕ → Option Shown) (k : ℕ)
    (vs : List Variable) (v : Variable)
    → test time ≡ true → length vs ≤ 2 ^ 64 → slice_get vs k ≡ Some v
    → behind test (code_of k) level (change_events time shown 0 vs) ≡ shown_over level (shown v.kind v.place)
at_number test time level shown k vs v passes few at =
    let none : k ≡ 0 + k = omega arith in
    ap (λ m. behind test (code_of m) level (change_events time shown 0 vs)) none
    ∙ at_variable test time level shown 0 k vs v passes (omega (arith, few)) at

-- without a clock: after the stamp
pub stamp_level : (vs : List Variable) (rows : ℕ → Row) (t cycles k : ℕ) (v : Variable) (s : Shown) → t < cycles
    → length vs ≤ 2 ^ 64
    → slice_get vs k ≡ Some v → shown_in (rows t) v.kind v.place ≡ Some s
    → level_after t (code_of k) (events_before false vs rows cycles) ≡ shown_level s
stamp_level vs rows t cycles k v s within few at shows =
    let test : Test = is_up_to t in
    let level : Level = before_cycle test (code_of k) false vs rows t in
    front_counts test (code_of k) false vs rows (suc t) cycles (omega (arith, within)) (up_to_fails t)
    ∙ fold-append (level_by test (code_of k)) unknown_level (events_before false vs rows t)
    (cycle_events false vs (rows t) t)
    ∙ at_number test (Some t) level (shown_in (rows t)) k vs v (up_to_passes t t (omega arith)) few at
    ∙ ap (shown_over level) shows

-- with one: the changes of the first stamp of a cycle, and those of the second
two_stamps : (test : Test) (vs : List Variable) (rows : ℕ → Row) (t k : ℕ) (v : Variable) → length vs ≤ 2 ^ 64
    → slice_get vs k ≡ Some v → test (Some (10 * t)) ≡ true
    → behind test (code_of k) unknown_level (events_before true vs rows (suc t))
    ≡ behind test (code_of k)
    (shown_over (shown_over (before_cycle test (code_of k) true vs rows t) (clock_shown 0 v.kind v.place))
    (shown_in (rows t) v.kind v.place))
    (change_events (Some (10 * t + 5)) (clock_shown 1) 0 vs)
two_stamps test vs rows t k v few at passes =
    let level : Level = before_cycle test (code_of k) true vs rows t in
    let low = change_events (Some (10 * t)) (clock_shown 0) 0 vs in
    let row = change_events (Some (10 * t)) (shown_in (rows t)) 0 vs in
    let high = change_events (Some (10 * t + 5)) (clock_shown 1) 0 vs in
    fold-append (level_by test (code_of k)) unknown_level (events_before true vs rows t)
    (cycle_events true vs (rows t) t)
    ∙ fold-append (level_by test (code_of k)) level (low ++ row) high
    ∙ ap (λ l. behind test (code_of k) l high) (fold-append (level_by test (code_of k)) level low row
    ∙ ap (λ l. behind test (code_of k) l row)
    (at_number test (Some (10 * t)) level (clock_shown 0) k vs v passes few at)
    ∙ at_number test (Some (10 * t)) (shown_over level (clock_shown 0 v.kind v.place))
    (shown_in (rows t)) k vs v passes few at)

-- what the second stamp of a cycle finds
pub edge_level : (vs : List Variable) (rows : ℕ → Row) (t cycles k : ℕ) (v : Variable) (s : Shown) → t < cycles
    → length vs ≤ 2 ^ 64
    → slice_get vs k ≡ Some v → shown_in (rows t) v.kind v.place ≡ Some s
    → level_before (10 * t + 5) (code_of k) (events_before true vs rows cycles) ≡ shown_level s
edge_level vs rows t cycles k v s within few at shows =
    let test : Test = is_before (10 * t + 5) in
    let level : Level = before_cycle test (code_of k) true vs rows t in
    let found : Level = shown_over (shown_over level (clock_shown 0 v.kind v.place))
    (shown_in (rows t) v.kind v.place) in
    front_counts test (code_of k) true vs rows (suc t) cycles (omega (arith, within))
    (λ time from. before_fails (10 * t + 5) time (omega (arith, from)))
    ∙ two_stamps test vs rows t k v few at (before_passes (10 * t + 5) (10 * t) (omega arith))
    ∙ no_time test (Some (10 * t + 5)) (code_of k) found (clock_shown 1) 0 vs
    (before_fails (10 * t + 5) (10 * t + 5) (omega arith))
    ∙ ap (shown_over (shown_over level (clock_shown 0 v.kind v.place))) shows

-- ---- the clock
-- a bit of the clock
abbrev clock_level : ℕ → Level
clock_level bit = shown_level (record { width = 1; value = bit; mask = 2 ^ 128 - 1 })

low_bit : is_low (clock_level 0) ≡ true
low_bit = ap (λ l. is_low (level_of l)) (one_digit 0 (2 ^ 128 - 1))

high_bit : is_high (clock_level 1) ≡ true
high_bit = ap (λ l. is_high (level_of l)) (one_digit 1 (2 ^ 128 - 1))

high_not_low : is_low (clock_level 1) ≡ false
high_not_low = ap (λ l. is_low (level_of l)) (one_digit 1 (2 ^ 128 - 1))

-- a variable is the clock's
pub record IsClock (vs : List Variable) (k : ℕ) : Type 0 where
  pub place : ℕ
  pub number : ℕ
  pub at : slice_get vs k ≡ Some (record { kind = Clock; place = place; number = number; width = 1 })

clock_before : (vs : List Variable) (rows : ℕ → Row) (t cycles k : ℕ) → t < cycles → length vs ≤ 2 ^ 64 → IsClock vs k
    → level_before (10 * t + 5) (code_of k) (events_before true vs rows cycles) ≡ clock_level 0
clock_before vs rows t cycles k within few clock =
    let test : Test = is_before (10 * t + 5) in
    front_counts test (code_of k) true vs rows (suc t) cycles (omega (arith, within))
    (λ time from. before_fails (10 * t + 5) time (omega (arith, from)))
    ∙ two_stamps test vs rows t k
    (record { kind = Clock; place = clock.place; number = clock.number; width = 1 }) few clock.at
    (before_passes (10 * t + 5) (10 * t) (omega arith))
    ∙ no_time test (Some (10 * t + 5)) (code_of k) (clock_level 0) (clock_shown 1) 0 vs
    (before_fails (10 * t + 5) (10 * t + 5) (omega arith))

-- behind the second stamp of a cycle the clock is 1
clock_high : (test : Test) (vs : List Variable) (rows : ℕ → Row) (t k : ℕ) → length vs ≤ 2 ^ 64 → IsClock vs k
    → test (Some (10 * t)) ≡ true → test (Some (10 * t + 5)) ≡ true
    → behind test (code_of k) unknown_level (events_before true vs rows (suc t)) ≡ clock_level 1
clock_high test vs rows t k few clock first second =
    let v : Variable = record { kind = Clock; place = clock.place; number = clock.number; width = 1 } in
    two_stamps test vs rows t k v few clock.at first
    ∙ at_number test (Some (10 * t + 5)) (clock_level 0) (clock_shown 1) k vs v second few clock.at

clock_after : (vs : List Variable) (rows : ℕ → Row) (t cycles k : ℕ) → t < cycles → length vs ≤ 2 ^ 64 → IsClock vs k
    → level_after (10 * t + 5) (code_of k) (events_before true vs rows cycles) ≡ clock_level 1
clock_after vs rows t cycles k within few clock =
    let test : Test = is_up_to (10 * t + 5) in
    front_counts test (code_of k) true vs rows (suc t) cycles (omega (arith, within))
    (λ time from. up_to_fails (10 * t + 5) time (omega (arith, from)))
    ∙ clock_high test vs rows t k few clock (up_to_passes (10 * t + 5) (10 * t) (omega arith))
    (up_to_passes (10 * t + 5) (10 * t + 5) (omega arith))

-- before the first stamp of a cycle it is 1 or not known
not_low : (vs : List Variable) (rows : ℕ → Row) (t cycles k : ℕ) → t < cycles → length vs ≤ 2 ^ 64 → IsClock vs k
    → is_low (level_before (10 * t) (code_of k) (events_before true vs rows cycles)) ≡ false
not_low vs rows zero cycles k within few clock =
    ap is_low (front_counts (is_before 0) (code_of k) true vs rows 0 cycles (omega arith) (before_fails 0))
not_low vs rows (suc t) cycles k within few clock =
    let test : Test = is_before (10 * suc t) in
    ap is_low (front_counts test (code_of k) true vs rows (suc t) cycles (omega (arith, within))
    (before_fails (10 * suc t))
    ∙ clock_high test vs rows t k few clock (before_passes (10 * suc t) (10 * t) (omega arith))
    (before_passes (10 * suc t) (10 * t + 5) (omega arith)))
    ∙ high_not_low

-- the moments at which the cycles are sampled
abbrev pub moment_at : Bool → ℕ → ℕ
moment_at false t = t
moment_at true t = 10 * t + 5

abbrev pub sampled : Bool → ℕ → List ℕ
sampled clocked zero = []
sampled clocked (suc t) = sampled clocked t ++ moment_at clocked t ∷ []

pub all_sampled : (t : ℕ) → stamps false t ≡ sampled false t
all_sampled zero = refl
all_sampled (suc t) = ap (λ l. l ++ t ∷ []) (all_sampled t)

-- the clock rises in the second stamp of each cycle, and nowhere else
pub only_edges : (vs : List Variable) (rows : ℕ → Row) (t cycles k : ℕ) → t ≤ cycles → length vs ≤ 2 ^ 64 → IsClock vs k
    → filter (rises (code_of k) (events_before true vs rows cycles)) (stamps true t) ≡ sampled true t
only_edges vs rows zero cycles k within few clock = refl
only_edges vs rows (suc t) cycles k within few clock =
    let events : List Event = events_before true vs rows cycles in
    let test : ℕ → Bool = rises (code_of k) events in
    let less : t < cycles = omega (arith, within) in
    filter-append test (stamps true t ++ (10 * t) ∷ []) ((10 * t + 5) ∷ [])
    ∙ ap (λ l. l ++ filter test ((10 * t + 5) ∷ [])) (filter-append test (stamps true t) ((10 * t) ∷ [])
    ∙ ap (λ l. filter test (stamps true t) ++ l) (drops less) ∙ append-nil (filter test (stamps true t))
    ∙ only_edges vs rows t cycles k (omega (arith, less)) few clock)
    ∙ ap (λ l. sampled true t ++ l) (keeps less)
  where
    drops : t < cycles → filter (rises (code_of k) (events_before true vs rows cycles)) ((10 * t) ∷ []) ≡ []
    drops less =
        cond-false _ _ _ (ap
        (λ b. b && is_high (level_after (10 * t) (code_of k) (events_before true vs rows cycles)))
        (not_low vs rows t cycles k less few clock))

    keeps : t < cycles → filter (rises (code_of k) (events_before true vs rows cycles))
        ((10 * t + 5) ∷ []) ≡ (10 * t + 5) ∷ []
    keeps less =
        cond-true _ _ _ (and_from _ _ (ap is_low (clock_before vs rows t cycles k less few clock) ∙ low_bit)
        (ap is_high (clock_after vs rows t cycles k less few clock) ∙ high_bit))

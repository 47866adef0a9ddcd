-- The lines of all cycles are read: the stamps and the changes that they make.
use Rattle.std.proofs.Common.{◌≡◌, ℕ, zero, suc, arith, ◌+◌, ◌*◌, ◌≤◌, ◌<◌, ◌^◌, Bool, true, false, Option, Some, None, List, [], ◌∷◌, ◌++◌, refl, ◌∙◌, ap, subst, append_assoc}
use Rattle.std.specs.Prelude.{decimal, slice_get, nat_lt}
use Rattle.std.proofs.lemmas.Bool.{cond-true}
use Rattle.std.proofs.lemmas.Bool.Decides.{nat_tests}
use Rattle.vcd_words.specs.Lines.{AreBlack}
use Rattle.vcd_words.specs.Lines.AreBlack.{no_word, one_more}
use Rattle.vcd_reading.specs.Events.{Event}
use Rattle.vcd_reading.specs.Header.{Header}
use Rattle.vcd_reading.specs.Scopes.{Sought}
use Rattle.vcd_reading.specs.Changes.{Past, stamps_of, is_later, is_earlier}
use Rattle.vcd_reading.specs.Reading.{no_past}
use Rattle.vcd_waves.specs.declared.variable.Variable.{Variable}
use Rattle.vcd_waves.specs.declared.variable.Kind.{Kind}
use Rattle.vcd_waves.specs.Lines.{Row, Shown, shown_in, clock_shown, time_line, change_lines, cycle_lines}
use Rattle.vcd_waves.specs.Runs.{Runs}
use Rattle.vcd_waves.specs.Runs.Runs.{no_line, one_line}
use Rattle.vcd_waves.proofs.RoundReading.{runs_join}
use Rattle.vcd_waves.proofs.WordForms.{IsWord, marked_word, decimal_black}
use Rattle.vcd_waves.proofs.HeaderDeeds.{headed}
use Rattle.vcd_waves.proofs.ValueDeeds.{time_deed}
use Rattle.vcd_waves.proofs.ChangeEvents.{MayShow, change_events, with_events, changes_run}

-- the changes of a cycle, and of the cycles before one
abbrev pub cycle_events : Bool → List Variable → Row → ℕ → List Event
cycle_events false vs row t = change_events (Some t) (shown_in row) 0 vs
cycle_events true vs row t =
    (change_events (Some (10 * t)) (clock_shown 0) 0 vs ++ change_events (Some (10 * t)) (shown_in row) 0 vs)
    ++ change_events (Some (10 * t + 5)) (clock_shown 1) 0 vs

abbrev pub events_before : Bool → List Variable → (ℕ → Row) → ℕ → List Event
events_before clocked vs rows zero = []
events_before clocked vs rows (suc t) = events_before clocked vs rows t ++ cycle_events clocked vs (rows t) t

-- the stamps before a cycle: all, those that have ended, and the last
abbrev pub stamps : Bool → ℕ → List ℕ
stamps clocked zero = []
stamps false (suc t) = stamps false t ++ t ∷ []
stamps true (suc t) = (stamps true t ++ (10 * t) ∷ []) ++ (10 * t + 5) ∷ []

abbrev pub stamps_ended : Bool → ℕ → List ℕ
stamps_ended clocked zero = []
stamps_ended false (suc t) = stamps false t
stamps_ended true (suc t) = stamps true t ++ (10 * t) ∷ []

abbrev pub last_stamp : Bool → ℕ → Option ℕ
last_stamp clocked zero = None
last_stamp false (suc t) = Some t
last_stamp true (suc t) = Some (10 * t + 5)

-- the lines of the cycles before one
abbrev pub lines_of : Bool → List Variable → (ℕ → Row) → ℕ → List (List (List ℕ))
lines_of clocked vs rows zero = []
lines_of clocked vs rows (suc t) = lines_of clocked vs rows t ++ cycle_lines clocked vs (rows t) t

-- what stands before a cycle
abbrev pub past_at : Header → Bool → List Variable → (ℕ → Row) → ℕ → Past
past_at h clocked vs rows t = record {
  header = h;
  time = last_stamp clocked t;
  ended = stamps_ended clocked t;
  events = events_before clocked vs rows t;
}

pub all_stamps : (h : Header) (clocked : Bool) (vs : List Variable) (rows : ℕ → Row) (t : ℕ)
    → stamps_of (past_at h clocked vs rows t) ≡ stamps clocked t
all_stamps h clocked vs rows zero = refl
all_stamps h false vs rows (suc t) = refl
all_stamps h true vs rows (suc t) = refl

-- what a moment shows, all variables can
abbrev pub AllMay : Sought → Header → (Kind → ℕ → Option Shown) → List Variable → Type 0
AllMay sought h shown vs = (k : ℕ) (v : Variable) → slice_get vs k ≡ Some v → MayShow sought h k (shown v.kind v.place)

all_run : (sought : Sought) (end : ℕ) (past : Past) (shown : Kind → ℕ → Option Shown) (vs : List Variable)
    → past.header.ended ≡ true
    → AllMay sought past.header shown vs
    → Runs sought end past (change_lines shown 0 vs) (with_events past (change_events past.time shown 0 vs))
all_run sought end past shown vs ended may =
    changes_run sought end past shown 0 vs ended (λ k v at. from_none k v (may k v at))
  where
    from_none : (k : ℕ) (v : Variable) → MayShow sought past.header k (shown v.kind v.place)
        → MayShow sought past.header (0 + k) (shown v.kind v.place)
    from_none k v may =
        let M : ℕ → Type 0 = λ m. MayShow sought past.header m (shown v.kind v.place) in
        let none : k ≡ 0 + k = omega arith in
        subst M none may

-- ---- a time
time_black : (time : ℕ) → AreBlack ((35 ∷ decimal time) ∷ [])
time_black time =
    let word : IsWord (35 ∷ decimal time) = marked_word 35 (decimal time) refl (omega arith) (decimal_black time) in
    one_more word.some word.black no_word

abbrev pub stamped : Past → ℕ → Past
stamped past time = record past { time = Some time; ended = stamps_of past }

time_run : (sought : Sought) (end : ℕ) (past : Past) (time : ℕ) → past.header.ended ≡ true → time < 10 ^ 18
    → is_earlier past.time time ≡ false → is_later past.time time ≡ true
    → Runs sought end past (time_line time ∷ []) (stamped past time)
time_run sought end past time ended few not_before after =
    let P : Past → Type 0 = λ next. Runs sought end past (time_line time ∷ []) next in
    subst P (cond-true (is_later past.time time) (stamped past time) past after)
    (one_line (time_black time) (time_deed sought end past time ended few not_before) no_line)

-- a time and changes
moment_run : (sought : Sought) (end : ℕ) (past : Past) (time : ℕ) (shown : Kind → ℕ → Option Shown)
    (vs : List Variable)
    → past.header.ended ≡ true → time < 10 ^ 18 → is_earlier past.time time ≡ false → is_later past.time time ≡ true
    → AllMay sought past.header shown vs
    → Runs sought end past (time_line time ∷ change_lines shown 0 vs)
    (with_events (stamped past time) (change_events (Some time) shown 0 vs))
moment_run sought end past time shown vs ended few not_before after may =
    runs_join sought end past (time_line time ∷ []) (change_lines shown 0 vs) (stamped past time)
    (with_events (stamped past time) (change_events (Some time) shown 0 vs))
    (time_run sought end past time ended few not_before after) (all_run sought end (stamped past time) shown vs ended may)

-- ---- a cycle
stamp_run : (sought : Sought) (end : ℕ) (h : Header) (vs : List Variable) (rows : ℕ → Row) (t : ℕ) → h.ended ≡ true
    → t < 10 ^ 17
    → AllMay sought h (shown_in (rows t)) vs
    → Runs sought end (past_at h false vs rows t) (cycle_lines false vs (rows t) t) (past_at h false vs rows (suc t))
stamp_run sought end h vs rows t ended few may =
    let past : Past = past_at h false vs rows t in
    let P : List ℕ → Type 0 =
    λ l. Runs sought end past (cycle_lines false vs (rows t) t)
    (record { header = h; time = Some t; ended = l; events = events_before false vs rows (suc t) }) in
    subst P (all_stamps h false vs rows t)
    (moment_run sought end past t (shown_in (rows t)) vs ended (omega (arith, few)) (on_time t) (is_next t) may)
  where
    on_time : (t : ℕ) → is_earlier (last_stamp false t) t ≡ false
    on_time zero = refl
    on_time (suc t) = step t where
      step : (t : ℕ) → nat_lt (suc t) t ≡ false
      step t = grind (arith, nat_tests)

    is_next : (t : ℕ) → is_later (last_stamp false t) t ≡ true
    is_next zero = refl
    is_next (suc t) = step t where
      step : (t : ℕ) → nat_lt t (suc t) ≡ true
      step t = grind (arith, nat_tests)

stamps_run : (sought : Sought) (end : ℕ) (h : Header) (vs : List Variable) (rows : ℕ → Row) (t : ℕ)
    → h.ended ≡ true → t < 10 ^ 16
    → AllMay sought h (shown_in (rows t)) vs → ((bit : ℕ) → AllMay sought h (clock_shown bit) vs)
    → Runs sought end (past_at h true vs rows t) (cycle_lines true vs (rows t) t) (past_at h true vs rows (suc t))
stamps_run sought end h vs rows t ended few may clock_may =
    let past : Past = past_at h true vs rows t in
    let low : List Event = change_events (Some (10 * t)) (clock_shown 0) 0 vs in
    let row : List Event = change_events (Some (10 * t)) (shown_in (rows t)) 0 vs in
    let high : List Event = change_events (Some (10 * t + 5)) (clock_shown 1) 0 vs in
    let one : Past = with_events (stamped past (10 * t)) low in
    let two : Past = with_events one row in
    let three : Past = with_events (stamped two (10 * t + 5)) high in
    let before : List Event = events_before true vs rows t in
    let events : ((before ++ low) ++ row) ++ high ≡ before ++ ((low ++ row) ++ high) =
    ap (λ l. l ++ high) (append_assoc before low row) ∙ append_assoc before (low ++ row) high in
    let P : List ℕ → Type 0 =
    λ l. Runs sought end past (cycle_lines true vs (rows t) t)
    (record {
      header = h;
      time = Some
          (10 * t + 5);
      ended = l ++ (10 * t) ∷ [];
      events = ((before ++ low) ++ row) ++ high;
    }) in
    let Q : List Event → Type 0 =
    λ l. Runs sought end past (cycle_lines true vs (rows t) t)
    (record { header = h; time = Some (10 * t + 5); ended = stamps true t ++ (10 * t) ∷ []; events = l }) in
    subst Q events (subst P (all_stamps h true vs rows t)
    (runs_join sought end past
    ((time_line (10 * t) ∷ change_lines (clock_shown 0) 0 vs) ++ change_lines (shown_in (rows t)) 0 vs)
    (time_line (10 * t + 5) ∷ change_lines (clock_shown 1) 0 vs) two three
    (runs_join sought end past (time_line (10 * t) ∷ change_lines (clock_shown 0) 0 vs)
    (change_lines (shown_in (rows t)) 0 vs) one two
    (moment_run sought end past (10 * t) (clock_shown 0) vs ended (omega (arith, few)) (on_time t) (is_next t)
    (clock_may 0))
    (all_run sought end one (shown_in (rows t)) vs ended may))
    (moment_run sought end two (10 * t + 5) (clock_shown 1) vs ended (omega (arith, few)) (half_on (10 * t))
    (half_next (10 * t)) (clock_may 1))))
  where
    half_on : (m : ℕ) → nat_lt (m + 5) m ≡ false
    half_on m = grind (arith, nat_tests)

    half_next : (m : ℕ) → nat_lt m (m + 5) ≡ true
    half_next m = grind (arith, nat_tests)

    on_time : (t : ℕ) → is_earlier (last_stamp true t) (10 * t) ≡ false
    on_time zero = refl
    on_time (suc t) = step t where
      step : (t : ℕ) → nat_lt (10 * suc t) (10 * t + 5) ≡ false
      step t = grind (arith, nat_tests)

    is_next : (t : ℕ) → is_later (last_stamp true t) (10 * t) ≡ true
    is_next zero = refl
    is_next (suc t) = step t where
      step : (t : ℕ) → nat_lt (10 * t + 5) (10 * suc t) ≡ true
      step t = grind (arith, nat_tests)

-- ---- all cycles
pub record CanRun (sought : Sought) (h : Header) (vs : List Variable) (rows : ℕ → Row) (cycles : ℕ) : Type 0 where
  pub ended : h.ended ≡ true
  pub few : cycles ≤ 100000
  pub rows_may : (t : ℕ) → t < cycles → AllMay sought h (shown_in (rows t)) vs
  pub clock_may : (bit : ℕ) → AllMay sought h (clock_shown bit) vs

one_cycle : (sought : Sought) (end : ℕ) (h : Header) (clocked : Bool) (vs : List Variable) (rows : ℕ → Row)
    (cycles t : ℕ)
    → CanRun sought h vs rows cycles → t < cycles
    → Runs sought end (past_at h clocked vs rows t) (cycle_lines clocked vs (rows t) t)
    (past_at h clocked vs rows (suc t))
one_cycle sought end h false vs rows cycles t can within =
    let few = can.few in stamp_run sought end h vs rows t can.ended (omega (arith, few, within)) (can.rows_may t within)
one_cycle sought end h true vs rows cycles t can within =
    let few = can.few in stamps_run sought end h vs rows t can.ended (omega (arith, few, within))
    (can.rows_may t within) can.clock_may

pub cycles_run : (sought : Sought) (end : ℕ) (h : Header) (clocked : Bool) (vs : List Variable) (rows : ℕ → Row)
    (cycles t : ℕ)
    → CanRun sought h vs rows cycles → t ≤ cycles
    → Runs sought end (headed no_past h) (lines_of clocked vs rows t) (past_at h clocked vs rows t)
cycles_run sought end h clocked vs rows cycles zero can within = no_line
cycles_run sought end h clocked vs rows cycles (suc t) can within =
    runs_join sought end (headed no_past h) (lines_of clocked vs rows t) (cycle_lines clocked vs (rows t) t)
    (past_at h clocked vs rows t)
    (past_at h clocked vs rows (suc t)) (cycles_run sought end h clocked vs rows cycles t can (omega (arith, within)))
    (one_cycle sought end h clocked vs rows cycles t can (omega (arith, within)))

-- Sets of values tried one after another, and in pieces.
use Rattle.std.proofs.Common.{ℕ, zero, suc, ◌+◌, ◌*◌, ◌/◌, ◌≡◌, ◌<◌, ◌≤◌, List, [], ◌∷◌, length, refl, ap, sym, subst, ◌∙◌, arith, ◌⊎◌, inl, inr, Option, Some, None, Result, Ok, Err}
use Rattle.std.specs.Prelude.{slice_get, IfOk, All, min}
use Rattle.std.specs.Int.{div_ceil}
use Rattle.std.proofs.lemmas.Grind.{div_ceil_times}
use Rattle.std.proofs.lemmas.Bool.{cases_lt}
use Rattle.std.proofs.lemmas.Option.{slice_get_within, get_or_from_slice_get}
use Rattle.loc_base.specs.declared.memory.NoMemory.{NoMemory}
use Rattle.loc_base.proofs.ShelfOptions.{Some-same}
use Rattle.design_core.specs.declared.design.Design.{Design}
use Rattle.design_core.specs.declared.trace.Trace.{Trace}
use Rattle.design_core.specs.declared.values.SetWithValues.{SetWithValues}
use Rattle.cycle_sim.specs.declared.miss.Miss.{Miss}
use Rattle.design_core.specs.declared.values.Values.{Values}
use Rattle.cycle_sim.specs.Simulated.{IsSimulable}
use Rattle.cycle_sim.specs.Misses.{MeetAll, Replays, AreValuesFor, AllMeet, IsFirstToMiss, FirstToMiss}
use Rattle.parallel_replay.specs.Trials.{first_of, FoundFrom}
use Rattle.cycle_sim.proofs.Replayed.{times-rises}

-- no set
pub all-none : (d : Design) (traces : List Trace) (sets : List SetWithValues) (from : ℕ) → AllMeet d traces sets from from
all-none d traces sets from i set low high at = absurd (omega (arith, low, high))

-- one set more
pub all-next : (d : Design) (traces : List Trace) (sets : List SetWithValues) (from k : ℕ) (set : SetWithValues) → slice_get sets k ≡ Some set
    → AllMeet d traces sets from k → MeetAll d traces set.values → AllMeet d traces sets from (k + 1)
all-next d traces sets from k set at before meets i other low high is = by_place (cases_lt i k)
  where
    by_place : (i < k) ⊎ (k ≤ i) → MeetAll d traces other.values
    by_place (inl earlier) = before i other low earlier is
    by_place (inr last) =
        let same : k ≡ i = omega (arith, last, high) in
        subst (λ (s : SetWithValues). MeetAll d traces s.values) (Some-same (sym at ∙ ap (slice_get sets) same ∙ is)) meets

-- no set stands past the last one
pub all-past : (d : Design) (traces : List Trace) (sets : List SetWithValues) (from k to : ℕ) → length sets ≤ k → AllMeet d traces sets from k → AllMeet d traces sets from to
all-past d traces sets from k to past all i set low high at = all i set low (omega (arith, past, slice_get_within sets i set at)) at

-- the sets up to the last of a piece
pub all-ended : (d : Design) (traces : List Trace) (sets : List SetWithValues) (from k to : ℕ) → min (length sets) to ≤ k → AllMeet d traces sets from k → AllMeet d traces sets from to
all-ended d traces sets from k to past all i set low high at = all i set low (omega (arith, past, high, slice_get_within sets i set at)) at

-- two pieces, one behind the other
all-joined : (d : Design) (traces : List Trace) (sets : List SetWithValues) (from middle to : ℕ) → AllMeet d traces sets from middle → AllMeet d traces sets middle to → AllMeet d traces sets from to
all-joined d traces sets from middle to one other i set low high at = by_place (cases_lt i middle)
  where
    by_place : (i < middle) ⊎ (middle ≤ i) → MeetAll d traces set.values
    by_place (inl earlier) = one i set low earlier at
    by_place (inr later) = other i set later high at

-- the answer for a piece, where the pieces before it miss nowhere
found-joined : (d : Design) (traces : List Trace) (sets : List SetWithValues) (from middle to : ℕ) (found : Option (ℕ × Miss)) → AllMeet d traces sets from middle
    → FirstToMiss d traces sets middle to found → FirstToMiss d traces sets from to found
found-joined d traces sets from middle to None before all = all-joined d traces sets from middle to before all
found-joined d traces sets from middle to (Some (number, miss)) before is =
    record { set = is.set; is_set = is.is_set; misses = is.misses; first = all-joined d traces sets from middle number before is.first }

-- the answers of pieces of one length, from the piece of a number on
abbrev pub AreAnswers : Design → List Trace → List SetWithValues → ℕ → ℕ → List (Result (Option (ℕ × Miss)) NoMemory) → Type 0
AreAnswers d traces sets many n answers =
    (k : ℕ) (answer : Result (Option (ℕ × Miss)) NoMemory) → slice_get answers k ≡ Some answer
    → IfOk answer (FirstToMiss d traces sets ((n + k) * many) ((n + k) * many + many))

-- the first answer that isn't that nothing was found is that for all of them
pub first-of_all : (d : Design) (traces : List Trace) (sets : List SetWithValues) (many n : ℕ) (answers : List (Result (Option (ℕ × Miss)) NoMemory))
    → AreAnswers d traces sets many n answers → AllMeet d traces sets 0 (n * many) → length sets ≤ (n + length answers) * many
    → IfOk (first_of answers) (FirstToMiss d traces sets 0 (length sets))
first-of_all d traces sets many n [] are before past = all-past d traces sets 0 (n * many) (length sets) (omega (arith, past, none)) before
  where
    none : (n + 0) * many ≡ n * many
    none = ap (λ m. m * many) (omega arith)
first-of_all d traces sets many n (Err e ∷ rest) are before past = tt
first-of_all d traces sets many n (Ok (Some (number, miss)) ∷ rest) are before past =
    found-joined d traces sets 0 (n * many) (length sets) (Some (number, miss)) before (subst (λ m. IsFirstToMiss d traces sets m number miss) here (are 0 (Ok (Some (number, miss))) refl))
  where
    here : (n + 0) * many ≡ n * many
    here = ap (λ m. m * many) (omega arith)
first-of_all d traces sets many n (Ok None ∷ rest) are before past =
    first-of_all d traces sets many (n + 1) rest later (all-joined d traces sets 0 (n * many) ((n + 1) * many) before mine) (subst (λ m. length sets ≤ m * many) shifted past)
  where
    shifted : n + suc (length rest) ≡ n + 1 + length rest
    shifted = omega arith

    here : (n + 0) * many ≡ n * many
    here = ap (λ m. m * many) (omega arith)

    spread : n * many + many ≡ (n + 1) * many
    spread = omega arith

    mine : AllMeet d traces sets (n * many) ((n + 1) * many)
    mine = subst (λ m. AllMeet d traces sets (n * many) m) spread (subst (λ m. AllMeet d traces sets m (m + many)) here (are 0 (Ok None) refl))

    later : AreAnswers d traces sets many (n + 1) rest
    later k answer at = subst (λ m. IfOk answer (FirstToMiss d traces sets (m * many) (m * many + many))) (moved k) (are (suc k) answer at)
      where
        moved : (k : ℕ) → n + suc k ≡ n + 1 + k
        moved k = omega arith

-- the answer for a set, the design being known by another name
pub replied : (d other : Design) (order numbers : List ℕ) (traces : List Trace) (values : Values) (answer : Option Miss) → other ≡ d → numbers ≡ order
    → (IsSimulable other numbers → Replays other traces values answer) → IsSimulable d order → Replays d traces values answer
replied d other order numbers traces values answer same alike given k =
    subst (λ (D : Design). Replays D traces values answer) same
    (given (subst (λ (D : Design). IsSimulable D numbers) (sym same) (subst (λ (O : List ℕ). IsSimulable d O) (sym alike) k)))

-- the values of a set of a number fit
pub values-of : (d : Design) (traces : List Trace) (sets : List SetWithValues) (k : ℕ) (set : SetWithValues) → All (λ s. AreValuesFor d traces s.values) sets → slice_get sets k ≡ Some set
    → AreValuesFor d traces set.values
values-of d traces sets k set all at =
    subst (λ (s : SetWithValues). AreValuesFor d traces s.values) (get_or_from_slice_get sets k set set at) (all k set (slice_get_within sets k set at))

-- a piece's numbers stay within what is counted
pub piece-fits : (worker many : ℕ) → worker < 64 → many ≤ 4294967296 → worker * many + many < 18446744073709551616
piece-fits worker many below few = omega (arith, spread, times-rises (worker + 1) 64 many (omega (arith, below)), few)
  where
    spread : worker * many + many ≡ (worker + 1) * many
    spread = omega arith

-- what all pieces answer, under a premise, and what is answered of them
pub searched : (d : Design) (traces : List Trace) (sets : List SetWithValues) (many : ℕ) (answers : List (Result (Option (ℕ × Miss)) NoMemory)) (K : Type 0)
    → ((k : ℕ) (answer : Result (Option (ℕ × Miss)) NoMemory) → slice_get answers k ≡ Some answer → IfOk answer (λ found. K → FirstToMiss d traces sets (k * many) (k * many + many) found))
    → length sets ≤ length answers * many → (result : Result (Option (ℕ × Miss)) NoMemory) → result ≡ first_of answers
    → IfOk result (λ found. K → FirstToMiss d traces sets 0 (length sets) found)
searched d traces sets many answers K each past (Err e) is = tt
searched d traces sets many answers K each past (Ok found) is = λ holds. subst (λ (r : Result (Option (ℕ × Miss)) NoMemory). IfOk r (FirstToMiss d traces sets 0 (length sets))) (sym is) (all holds)
  where
    under : (k : ℕ) (answer : Result (Option (ℕ × Miss)) NoMemory) → K → IfOk answer (λ found. K → FirstToMiss d traces sets (k * many) (k * many + many) found)
        → IfOk answer (FirstToMiss d traces sets (k * many) (k * many + many))
    under k (Ok found) holds given = given holds
    under k (Err e) holds given = tt

    from : (k : ℕ) → k ≡ 0 + k
    from k = omega arith

    none : 0 ≡ 0 * many
    none = omega arith

    whole : length sets ≤ (0 + length answers) * many
    whole = subst (λ n. length sets ≤ n * many) (from (length answers)) past

    all : K → IfOk (first_of answers) (FirstToMiss d traces sets 0 (length sets))
    all holds = first-of_all d traces sets many 0 answers
        (λ k answer at. subst (λ n. IfOk answer (FirstToMiss d traces sets (n * many) (n * many + many))) (from k) (under k answer holds (each k answer at)))
        (subst (λ n. AllMeet d traces sets 0 n) none (all-none d traces sets 0)) whole

-- pieces of so many sets have each set
pub share-cover : (sets many : ℕ) → 0 < many → sets ≤ div_ceil sets many * many
share-cover sets many some = (div_ceil_times sets many some).0

-- and there are no more of them than workers
pub share-count : (sets workers many : ℕ) → 0 < workers → 0 < many → div_ceil sets workers ≤ many → div_ceil sets many ≤ workers
share-count sets workers many some any enough = by (cases_lt workers (div_ceil sets many))
  where
    dealt : sets ≤ workers * many
    dealt = omega (arith, (div_ceil_times sets workers some).0, times-rises (div_ceil sets workers) many workers enough)

    by : (workers < div_ceil sets many) ⊎ (div_ceil sets many ≤ workers) → div_ceil sets many ≤ workers
    by (inr few) = few
    by (inl more) = absurd (omega (arith, dealt, (div_ceil_times sets many any).1, times-rises (workers + 1) (div_ceil sets many) many (omega (arith, more))))

pub ruleset share_rules = (share-cover, share-count)

-- what holds of each design of a list of one
pub of-only : (P : Design → Type 0) (designs : List Design) (d : Design) → designs ≡ d ∷ [] → All P designs → P d
of-only P designs d is all = subst (All P) is all 0 d (omega arith)

pub only-has : (P : Design → Type 0) (designs : List Design) (d : Design) → designs ≡ d ∷ [] → P d → All P designs
only-has P designs d is holds = subst (All P) (sym is) one
  where
    one : All P (d ∷ [])
    one zero x low = holds
    one (suc i) x low = absurd (omega (arith, low))

-- what is found for the only design is found for each of the list
pub if-found : (designs : List Design) (d : Design) (order : List ℕ) (traces : List Trace) (sets : List SetWithValues) (from to : ℕ) → designs ≡ d ∷ []
    → (r : Result (Option (ℕ × Miss)) NoMemory) → IfOk r (λ found. IsSimulable d order → FirstToMiss d traces sets from to found)
    → IfOk r (FoundFrom designs order traces sets from to)
if-found designs d order traces sets from to is (Ok found) holds = only-has (λ (e : Design). IsSimulable e order → FirstToMiss e traces sets from to found) designs d is holds
if-found designs d order traces sets from to is (Err e) holds = tt

pub one-found : (designs : List Design) (d : Design) (order : List ℕ) (traces : List Trace) (sets : List SetWithValues) (from to : ℕ) → designs ≡ d ∷ []
    → (r : Result (Option (ℕ × Miss)) NoMemory) → IfOk r (FoundFrom designs order traces sets from to)
    → IfOk r (λ found. IsSimulable d order → FirstToMiss d traces sets from to found)
one-found designs d order traces sets from to is (Ok found) holds = of-only (λ (e : Design). IsSimulable e order → FirstToMiss e traces sets from to found) designs d is holds
one-found designs d order traces sets from to is (Err e) holds = tt

-- Changes of a later stamp leave what the stamps that have ended mean.
use Rattle.std.proofs.Common.{◌≡◌, ℕ, ◌+◌, Bool, true, false, not, ◌&&◌, ◌==◌, if◌then◌else◌, List, [], ◌∷◌, ◌++◌, map, refl, sym, ◌∙◌, ap, subst, inl, inr, arith, Option, Some, None, nat_lt, nat_le, bit_and}
use Rattle.std.specs.List.{list_all, find, filter}
use Rattle.std.specs.Option.{option_or}
use Rattle.std.proofs.lemmas.Bool.{cases_Bool, cond-true, cond-false, and_parts, and_from, false≢true}
use Rattle.std.proofs.lemmas.Bool.Decides.{nat_tests}
use Rattle.vcd_words.specs.declared.level.Level.{Level}
use Rattle.vcd_words.specs.Levels.{cut_level}
use Rattle.vcd_reading.specs.Events.{Event, level_before, level_after, is_before, is_up_to, is_low, is_high, rises}
use Rattle.vcd_traces.specs.Samples.{Watch, Watches, sample, is_unknown, known_bits, level_at, moments, needed, part_level, unknown_in, unknown_from}
use Rattle.vcd_traces.specs.Rows.{Kept, joined}
use Rattle.vcd_traces.specs.Kept.{row_at, rows_at, AreKept}
use Rattle.vcd_traces.specs.Plan.{have_ended}
use Rattle.vcd_traces.proofs.RunningLaws.{level_out}
use Rattle.vcd_traces.proofs.KeptLaws.{row_same}

-- whether a change at a time stands behind the stamp at another
abbrev pub is_after : Option ℕ → ℕ → Bool
is_after None stamp = false
is_after (Some time) stamp = nat_lt stamp time

pub all_after : (time : Option ℕ) (ended : List ℕ) → have_ended time ended → list_all (is_after time) ended ≡ true
all_after None ended none = ap (list_all (is_after None)) none
all_after (Some time) ended all = all

late_before : (time : Option ℕ) (stamp : ℕ) → is_after time stamp ≡ true → is_before stamp time ≡ false
late_before None stamp after = absurd (false≢true after)
late_before (Some time) stamp after = low stamp time after
  where
    low : (a b : ℕ) → nat_lt a b ≡ true → nat_lt b a ≡ false
    low a b e = grind (arith, nat_tests)

late_after : (time : Option ℕ) (stamp : ℕ) → is_after time stamp ≡ true → is_up_to stamp time ≡ false
late_after None stamp after = absurd (false≢true after)
late_after (Some time) stamp after = low stamp time after
  where
    low : (a b : ℕ) → nat_lt a b ≡ true → nat_le b a ≡ false
    low a b e = grind (arith, nat_tests)

before_stable : (code : List ℕ) (events : List Event) (event : Event) (stamp : ℕ) → is_after event.time stamp ≡ true
    → level_before stamp code (events ++ event ∷ []) ≡ level_before stamp code events
before_stable code events event stamp after = level_out (is_before stamp) code events event (late_before event.time stamp after)

after_stable : (code : List ℕ) (events : List Event) (event : Event) (stamp : ℕ) → is_after event.time stamp ≡ true
    → level_after stamp code (events ++ event ∷ []) ≡ level_after stamp code events
after_stable code events event stamp after = level_out (is_up_to stamp) code events event (late_after event.time stamp after)

level_stable : (clock : Option (List ℕ)) (code : List ℕ) (events : List Event) (event : Event) (stamp : ℕ) → is_after event.time stamp ≡ true
    → level_at clock code (events ++ event ∷ []) stamp ≡ level_at clock code events stamp
level_stable None code events event stamp after = after_stable code events event stamp after
level_stable (Some name) code events event stamp after = before_stable code events event stamp after

rises_stable : (code : List ℕ) (events : List Event) (event : Event) (stamp : ℕ) → is_after event.time stamp ≡ true
    → rises code (events ++ event ∷ []) stamp ≡ rises code events stamp
rises_stable code events event stamp after =
    ap (λ l. is_low l && is_high (level_after stamp code (events ++ event ∷ []))) (before_stable code events event stamp after)
    ∙ ap (λ l. is_low (level_before stamp code events) && is_high l) (after_stable code events event stamp after)

filter_stable : (p f g : ℕ → Bool) (xs : List ℕ) → list_all p xs ≡ true → ((x : ℕ) → p x ≡ true → f x ≡ g x) → filter f xs ≡ filter g xs
filter_stable p f g [] all agree = refl
filter_stable p f g (x ∷ xs) all agree =
    let parts = and_parts (p x) (list_all p xs) all in
    ap (λ b. if b then x ∷ filter f xs else filter f xs) (agree x parts.0)
    ∙ ap (λ l. if g x then x ∷ l else l) (filter_stable p f g xs parts.1 agree)

moments_stable : (clock : Option (List ℕ)) (events : List Event) (event : Event) (ended : List ℕ) → list_all (is_after event.time) ended ≡ true
    → moments clock (events ++ event ∷ []) ended ≡ moments clock events ended
moments_stable None events event ended all = refl
moments_stable (Some code) events event ended all =
    filter_stable (is_after event.time) (rises code (events ++ event ∷ [])) (rises code events) ended all (λ stamp after. rises_stable code events event stamp after)

all_filtered : (p f : ℕ → Bool) (xs : List ℕ) → list_all p xs ≡ true → list_all p (filter f xs) ≡ true
all_filtered p f [] all = refl
all_filtered p f (x ∷ xs) all =
    let parts = and_parts (p x) (list_all p xs) all in
    let P : List ℕ → Type 0 = λ l. list_all p l ≡ true in
    elim (cases_Bool (f x)) [
      | inl here ↦ subst P (sym (cond-true _ _ _ here)) (and_from _ _ parts.0 (all_filtered p f xs parts.1))
      | inr away ↦ subst P (sym (cond-false _ _ _ away)) (all_filtered p f xs parts.1)
    ]

moments_after : (clock : Option (List ℕ)) (events : List Event) (time : Option ℕ) (ended : List ℕ) → list_all (is_after time) ended ≡ true
    → list_all (is_after time) (moments clock events ended) ≡ true
moments_after None events time ended all = all
moments_after (Some code) events time ended all = all_filtered (is_after time) (rises code events) ended all

map_agrees : {X Y : Type 0} (f g : X → Y) (xs : List X) → ((x : X) → f x ≡ g x) → map f xs ≡ map g xs
map_agrees f g [] agree = refl
map_agrees f g (x ∷ xs) agree = let first = agree x in let rest = map_agrees f g xs agree in cc

find_agrees : {X : Type 0} (f g : X → Bool) (xs : List X) → ((x : X) → f x ≡ g x) → find f xs ≡ find g xs
find_agrees f g [] agree = refl
find_agrees f g (x ∷ xs) agree =
    ap (λ b. if b then Some x else find f xs) (agree x) ∙ ap (λ o. if g x then Some x else o) (find_agrees f g xs agree)

sample_stable : (w : Watches) (events : List Event) (event : Event) (stamp : ℕ) → is_after event.time stamp ≡ true → (watch : Watch)
    → sample w.clock (events ++ event ∷ []) stamp watch ≡ sample w.clock events stamp watch
sample_stable w events event stamp after watch = ap (λ l. cut_level watch.width (part_level watch.part l)) (level_stable w.clock watch.code events event stamp after)

row_stable : (w : Watches) (events : List Event) (event : Event) (stamp : ℕ) → is_after event.time stamp ≡ true
    → row_at w (events ++ event ∷ []) stamp ≡ row_at w events stamp
row_stable w events event stamp after =
    let same = sample_stable w events event stamp after in
    row_same _ _ _ _ _ _ _ _ _ _ _ _
    (map_agrees (λ watch. (sample w.clock (events ++ event ∷ []) stamp watch).ones) (λ watch. (sample w.clock events stamp watch).ones) w.inputs
    (λ watch. ap (λ (l : Level). l.ones) (same watch)))
    refl
    (map_agrees (λ (watch : Watch). known_bits watch.width (sample w.clock (events ++ event ∷ []) stamp watch)) (λ (watch : Watch). known_bits watch.width (sample w.clock events stamp watch)) w.outputs
    (λ watch. ap (known_bits watch.width) (same watch)))
    refl
    (map_agrees (λ (watch : Watch). bit_and (sample w.clock (events ++ event ∷ []) stamp watch).ones (known_bits watch.width (sample w.clock (events ++ event ∷ []) stamp watch))) (λ (watch : Watch). bit_and (sample w.clock events stamp watch).ones (known_bits watch.width (sample w.clock events stamp watch))) w.outputs
    (λ watch. ap (λ (l : Level). bit_and l.ones (known_bits watch.width l)) (same watch)))
    refl

rows_stable : (w : Watches) (events : List Event) (event : Event) (times : List ℕ) → list_all (is_after event.time) times ≡ true
    → rows_at w (events ++ event ∷ []) times ≡ rows_at w events times
rows_stable w events event [] all = refl
rows_stable w events event (time ∷ times) all =
    let parts = and_parts (is_after event.time time) (list_all (is_after event.time) times) all in
    ap (λ r. joined r (rows_at w (events ++ event ∷ []) times)) (row_stable w events event time parts.0)
    ∙ ap (joined (row_at w events time)) (rows_stable w events event times parts.1)

unknown_stable : (w : Watches) (events : List Event) (event : Event) (cycle : ℕ) (times : List ℕ) → list_all (is_after event.time) times ≡ true
    → unknown_from w (events ++ event ∷ []) cycle times ≡ unknown_from w events cycle times
unknown_stable w events event cycle [] all = refl
unknown_stable w events event cycle (time ∷ times) all =
    let parts = and_parts (is_after event.time time) (list_all (is_after event.time) times) all in
    ap (λ o. option_or (unknown_in cycle o) (unknown_from w (events ++ event ∷ []) (cycle + 1) times))
    (find_agrees (is_unknown w.clock (events ++ event ∷ []) time) (is_unknown w.clock events time) (needed w.zero_inputs w.inputs)
    (λ watch. ap (λ (l : Level). not (l.unknowns == 0)) (sample_stable w events event time parts.0 watch)))
    ∙ ap (option_or (unknown_in cycle (find (is_unknown w.clock events time) (needed w.zero_inputs w.inputs)))) (unknown_stable w events event (cycle + 1) times parts.1)

-- what is kept of the cycles stays what it is
pub kept_stable : (w : Watches) (events : List Event) (event : Event) (ended : List ℕ) (kept : Kept) → have_ended event.time ended
    → AreKept w events (moments w.clock events ended) kept → AreKept w (events ++ event ∷ []) (moments w.clock (events ++ event ∷ []) ended) kept
kept_stable w events event ended kept late are =
    let all = all_after event.time ended late in
    let times = moments_after w.clock events event.time ended all in
    let P : List ℕ → Type 0 = λ l. AreKept w (events ++ event ∷ []) l kept in
    subst P (sym (moments_stable w.clock events event ended all))
    (record {
      cycles = are.cycles;
      unknown = λ few. are.unknown few ∙ sym (unknown_stable w events event 0 (moments w.clock events ended) times);
      rows = λ few none. are.rows few none ∙ sym (rows_stable w events event (moments w.clock events ended) times);
    })

-- What is kept at the end of a stamp is what counts there.
use Rattle.std.proofs.Common.{◌≡◌, ℕ, ◌<◌, ◌==◌, IsTrue, Bool, true, false, not, ◌&&◌, if◌then◌else◌, List, [], ◌∷◌, ◌++◌, length, map, refl, sym, ◌∙◌, ap, subst, inl, inr, arith, Option, Some, None, is_some, unwrap_or, bit_and}
use Rattle.std.specs.Prelude.{slice_get}
use Rattle.std.specs.List.{list_all, find}
use Rattle.std.specs.Option.{option_map, option_map_or}
use Rattle.std.proofs.lemmas.Bool.{cases_Bool, cond-true, cond-false, and_parts, ltb-true}
use Rattle.std.proofs.lemmas.List.{append-nil}
use Rattle.std.proofs.lemmas.List.Elements.{filter-append}
use Rattle.loc_base.proofs.ShelfLists.{slice_get-some}
use Rattle.vcd_words.specs.declared.level.Level.{Level}
use Rattle.vcd_words.specs.Levels.{unknown_level, cut_level}
use Rattle.vcd_traces.specs.declared.moment as code
use Rattle.vcd_traces.specs.declared.running.Running.{Running}
use Rattle.vcd_traces.specs.declared.rows.Watched.{Watched}
use Rattle.vcd_reading.specs.Events.{Event, level_after, is_low, is_high, rises}
use Rattle.vcd_traces.specs.Samples.{Watch, Watches, sample, is_unknown, known_bits, level_at, moments, needed, part_level}
use Rattle.vcd_traces.specs.Running.{Follows, are_past, before_of}
use Rattle.vcd_traces.specs.Levels.{KeepsAll}
use Rattle.vcd_traces.specs.Moment.{kept_of, kept_level, kept_sample, has_unknown, kept_rises, kept_is_cycle}
use Rattle.vcd_traces.specs.Rows.{Row, Cycle, Kept, kept_rows, kept_row, pushed}
use Rattle.vcd_traces.specs.Kept.{row_at, cycle_at, AreKept}
use Rattle.vcd_traces.specs.Closing.{moment_of, closed_at}
use Rattle.vcd_traces.specs.Plan.{cell_code, watch_in, has_cell, IsWatched}
use Rattle.vcd_traces.proofs.RunningLaws.{after_last}
use Rattle.vcd_traces.proofs.KeptLaws.{row_same, kept_more}

-- lists through which two functions agree
pub map_through : {X Y Z : Type 0} (p : X → Bool) (f : X → Z) (h : X → Y) (g : Y → Z) (xs : List X) → list_all p xs ≡ true
    → ((x : X) → p x ≡ true → f x ≡ g (h x)) → map f xs ≡ map g (map h xs)
map_through p f h g [] all agree = refl
map_through p f h g (x ∷ xs) all agree =
    let parts = and_parts (p x) (list_all p xs) all in
    let first = agree x parts.0 in
    let rest = map_through p f h g xs parts.1 agree in cc

pub find_through : {X Y Z : Type 0} (p : X → Bool) (f : X → Bool) (h : X → Y) (g : Y → Bool) (one : X → Z) (other : Y → Z) (xs : List X)
    → list_all p xs ≡ true → ((x : X) → p x ≡ true → f x ≡ g (h x)) → ((x : X) → one x ≡ other (h x))
    → option_map one (find f xs) ≡ option_map other (find g (map h xs))
find_through p f h g one other [] all agree same = refl
find_through p f h g one other (x ∷ xs) all agree same =
    let parts = and_parts (p x) (list_all p xs) all in
    elim (cases_Bool (f x)) [
      | inl here ↦
          ap (option_map one) (cond-true _ _ _ here) ∙ ap Some (same x)
          ∙ sym (ap (option_map other) (cond-true _ _ _ (sym (agree x parts.0) ∙ here)))
      | inr away ↦
          ap (option_map one) (cond-false _ _ _ away) ∙ find_through p f h g one other xs parts.1 agree same
          ∙ sym (ap (option_map other) (cond-false _ _ _ (sym (agree x parts.0) ∙ away)))
    ]

-- the levels that are kept of a cell's variable
cell_follows : (cells : List (List ℕ)) (time : ℕ) (events : List Event) (running : List Running) (cell : ℕ) → length running ≡ length cells
    → KeepsAll cells (Some time) events running → cell < length cells
    → (r : Running) × (slice_get running cell ≡ Some r) × Follows (cell_code cells cell) (Some time) events r
cell_follows cells time events running cell count each within =
    let code = slice_get-some cells cell within in
    let within_running : cell < length running = omega (arith, count) in
    let r = slice_get-some running cell within_running in
    let F : List ℕ → Type 0 = λ q. Follows q (Some time) events r.0 in
    (r.0, r.1, subst F (sym (ap (λ o. unwrap_or o []) code.1)) (each cell code.0 r.0 code.1 r.1))

kept_level_of : (clock : Option (List ℕ)) (code : List ℕ) (time : ℕ) (events : List Event) (r : Running) → are_past (Some time) events ≡ true
    → Follows code (Some time) events r → kept_of (is_some clock) time r ≡ level_at clock code events time
kept_level_of None code time events r all f = f.level ∙ sym (after_last code time events all)
kept_level_of (Some name) code time events r all f = f.before time refl

pub kept_level_is : (clock : Option (List ℕ)) (cells : List (List ℕ)) (time : ℕ) (events : List Event) (running : List Running) (m : code.Moment.Moment) (cell : ℕ)
    → m.running.now ≡ running → m.clocked ≡ is_some clock → m.time ≡ time
    → are_past (Some time) events ≡ true → length running ≡ length cells → KeepsAll cells (Some time) events running → cell < length cells
    → kept_level m cell ≡ level_at clock (cell_code cells cell) events time
kept_level_is clock cells time events running m cell running_is clocked_is time_is all count each within =
    let found = cell_follows cells time events running cell count each within in
    ap (λ l. option_map_or (kept_of m.clocked m.time) (slice_get l cell) unknown_level) running_is
    ∙ ap (λ o. option_map_or (kept_of m.clocked m.time) o unknown_level) found.1
    ∙ ap (λ b. kept_of b m.time found.0) clocked_is ∙ ap (λ t. kept_of (is_some clock) t found.0) time_is
    ∙ kept_level_of clock (cell_code cells cell) time events found.0 all found.2

-- what is needed to take a stamp: what is kept of the variables at its end
pub record AtEnd (w : Watches) (cells : List (List ℕ)) (time : ℕ) (events : List Event) (running : List Running) (watched : Watched) : Type 0 where
  pub watches : IsWatched w cells watched
  pub past : are_past (Some time) events ≡ true
  pub count : length running ≡ length cells
  pub each : KeepsAll cells (Some time) events running

same_some : {A B : Type 0} (f : A → B) (o : Option A) → is_some (option_map f o) ≡ is_some o
same_some f None = refl
same_some f (Some x) = refl

sample_is : (w : Watches) (cells : List (List ℕ)) (time : ℕ) (events : List Event) (running : List Running) (watched : Watched) → AtEnd w cells time events running watched
    → (watch : code.Watch.Watch) → has_cell cells watch ≡ true
    → kept_sample (moment_of watched running time) watch ≡ sample w.clock events time (watch_in cells watch)
sample_is w cells time events running watched end watch within =
    ap (λ l. cut_level watch.width (part_level watch.part l))
    (kept_level_is w.clock cells time events running (moment_of watched running time) watch.cell refl
    (sym (ap is_some end.watches.clock ∙ same_some (cell_code cells) watched.clock)) refl end.past end.count end.each
    (ltb-true watch.cell (length cells) within))

-- of the inputs whose bits must be known
needed_all : {X : Type 0} (test : X → Bool) (zero : Bool) (xs : List X) → IsTrue (list_all test xs) → IsTrue (list_all test (needed zero xs))
needed_all test true xs all = refl
needed_all test false xs all = all

needed_map : {X Y : Type 0} (f : X → Y) (zero : Bool) (xs : List X) → map f (needed zero xs) ≡ needed zero (map f xs)
needed_map f true xs = refl
needed_map f false xs = refl

-- the cycle that is kept
pub cycle_is : (w : Watches) (cells : List (List ℕ)) (time : ℕ) (events : List Event) (running : List Running) (watched : Watched) → AtEnd w cells time events running watched
    → kept_row (moment_of watched running time) watched ≡ cycle_at w events time
cycle_is w cells time events running watched end =
    let m = moment_of watched running time in
    let ins = watched.inputs.items in
    let outs = watched.outputs.items in
    let is = sample_is w cells time events running watched end in
    let unknown_is : option_map (λ (watch : code.Watch.Watch). watch.signal) (find (has_unknown m) (needed watched.zero_inputs ins)) ≡ option_map (λ (watch : Watch). watch.signal) (find (is_unknown w.clock events time) (needed w.zero_inputs w.inputs)) =
    find_through (has_cell cells) (has_unknown m) (watch_in cells) (is_unknown w.clock events time) (λ (watch : code.Watch.Watch). watch.signal) (λ (watch : Watch). watch.signal) (needed watched.zero_inputs ins)
    (needed_all (has_cell cells) watched.zero_inputs ins end.watches.input_cells)
    (λ watch within. ap (λ (l : Level). not (l.unknowns == 0)) (is watch within)) (λ watch. refl)
    ∙ ap (λ l. option_map (λ (watch : Watch). watch.signal) (find (is_unknown w.clock events time) l))
    (needed_map (watch_in cells) watched.zero_inputs ins ∙ ap (λ z. needed z (map (watch_in cells) ins)) (sym end.watches.zero_inputs)
    ∙ ap (needed w.zero_inputs) (sym end.watches.inputs)) in
    let row_is : kept_rows m ins outs ≡ row_at w events time =
    row_same _ _ _ _ _ _ _ _ _ _ _ _
    (map_through (has_cell cells) (λ watch. (kept_sample m watch).ones) (watch_in cells) (λ watch. (sample w.clock events time watch).ones) ins end.watches.input_cells
    (λ watch within. ap (λ (l : Level). l.ones) (is watch within))
    ∙ ap (map (λ watch. (sample w.clock events time watch).ones)) (sym end.watches.inputs))
    (map_through (has_cell cells) (λ (watch : code.Watch.Watch). watch.width) (watch_in cells) (λ (watch : Watch). watch.width) ins end.watches.input_cells (λ watch within. refl)
    ∙ ap (map (λ (watch : Watch). watch.width)) (sym end.watches.inputs))
    (map_through (has_cell cells) (λ (watch : code.Watch.Watch). known_bits watch.width (kept_sample m watch)) (watch_in cells) (λ (watch : Watch). known_bits watch.width (sample w.clock events time watch)) outs end.watches.output_cells
    (λ watch within. ap (known_bits watch.width) (is watch within))
    ∙ ap (map (λ (watch : Watch). known_bits watch.width (sample w.clock events time watch))) (sym end.watches.outputs))
    (map_through (has_cell cells) (λ (watch : code.Watch.Watch). watch.width) (watch_in cells) (λ (watch : Watch). watch.width) outs end.watches.output_cells (λ watch within. refl)
    ∙ ap (map (λ (watch : Watch). watch.width)) (sym end.watches.outputs))
    (map_through (has_cell cells) (λ (watch : code.Watch.Watch). bit_and (kept_sample m watch).ones (known_bits watch.width (kept_sample m watch))) (watch_in cells) (λ (watch : Watch). bit_and (sample w.clock events time watch).ones (known_bits watch.width (sample w.clock events time watch))) outs end.watches.output_cells
    (λ watch within. ap (λ (l : Level). bit_and l.ones (known_bits watch.width l)) (is watch within))
    ∙ ap (map (λ (watch : Watch). bit_and (sample w.clock events time watch).ones (known_bits watch.width (sample w.clock events time watch)))) (sym end.watches.outputs))
    (map_through (has_cell cells) (λ (watch : code.Watch.Watch). watch.width) (watch_in cells) (λ (watch : Watch). watch.width) outs end.watches.output_cells (λ watch within. refl)
    ∙ ap (map (λ (watch : Watch). watch.width)) (sym end.watches.outputs)) in
    let C : Option ℕ → Row → Cycle = λ u r. record { unknown = u; row = r } in
    ap (λ u. C u (kept_rows m ins outs)) unknown_is ∙ ap (C (cycle_at w events time).unknown) row_is

-- whether the stamp is one: the stamps that are cycles, one more being taken
moments_more : (clock : Option (List ℕ)) (events : List Event) (stamps : List ℕ) (time : ℕ)
    → moments clock events (stamps ++ time ∷ []) ≡ moments clock events stamps ++ moments clock events (time ∷ [])
moments_more None events stamps time = refl
moments_more (Some code) events stamps time = filter-append (rises code events) stamps (time ∷ [])

cycle_or_not : (clock : Option ℕ) (w : Watches) (cells : List (List ℕ)) (time : ℕ) (events : List Event) (running : List Running) (watched : Watched)
    → AtEnd w cells time events running watched → watched.clock ≡ clock
    → moments w.clock events (time ∷ []) ≡ (if kept_is_cycle (moment_of watched running time) clock then time ∷ [] else [])
cycle_or_not None w cells time events running watched end is =
    ap (λ clock. moments clock events (time ∷ [])) (end.watches.clock ∙ ap (option_map (cell_code cells)) is)
cycle_or_not (Some cell) w cells time events running watched end is =
    let found = cell_follows cells time events running cell end.count end.each (end.watches.clock_cell cell is) in
    let code = cell_code cells cell in
    let up : rises code events time ≡ kept_rises time found.0 =
    ap (λ l. is_low l && is_high (level_after time code events)) (sym (found.2.before time refl))
    ∙ ap (λ l. is_low (before_of found.0 time) && is_high l) (after_last code time events end.past ∙ sym found.2.level) in
    ap (λ clock. moments clock events (time ∷ [])) (end.watches.clock ∙ ap (option_map (cell_code cells)) is)
    ∙ ap (λ b. if b then time ∷ [] else []) (up ∙ sym (ap (λ o. option_map_or (kept_rises time) o false) found.1))

-- the stamp at hand ends
pub closes_at : (w : Watches) (cells : List (List ℕ)) (time : ℕ) (events : List Event) (running : List Running) (watched : Watched) (ended : List ℕ) (kept : Kept)
    → AtEnd w cells time events running watched → AreKept w events (moments w.clock events ended) kept
    → AreKept w events (moments w.clock events (ended ++ time ∷ [])) (closed_at watched running (Some time) kept)
closes_at w cells time events running watched ended kept end are =
    let more = moments_more w.clock events ended time ∙ ap (λ l. moments w.clock events ended ++ l) (cycle_or_not watched.clock w cells time events running watched end refl) in
    let K : List ℕ → Kept → Type 0 = AreKept w events in
    let test = kept_is_cycle (moment_of watched running time) watched.clock in
    let taken = pushed kept (kept_row (moment_of watched running time) watched) in
    elim (cases_Bool test) [
      | inl here ↦
          let times : moments w.clock events (ended ++ time ∷ []) ≡ moments w.clock events ended ++ time ∷ [] =
          more ∙ ap (λ l. moments w.clock events ended ++ l) (cond-true _ _ _ here) in
          let P : List ℕ → Type 0 = λ l. K l (closed_at watched running (Some time) kept) in
          let Q : Kept → Type 0 = K (moments w.clock events ended ++ time ∷ []) in
          let R : Cycle → Type 0 = λ cycle. K (moments w.clock events ended ++ time ∷ []) (pushed kept cycle) in
          subst P (sym times)
          (subst Q (sym (cond-true _ _ _ here))
          (subst R (sym (cycle_is w cells time events running watched end)) (kept_more w events (moments w.clock events ended) time kept are)))
      | inr away ↦
          let times : moments w.clock events (ended ++ time ∷ []) ≡ moments w.clock events ended =
          more ∙ ap (λ l. moments w.clock events ended ++ l) (cond-false _ _ _ away) ∙ append-nil (moments w.clock events ended) in
          let P : List ℕ → Type 0 = λ l. K l (closed_at watched running (Some time) kept) in
          let Q : Kept → Type 0 = K (moments w.clock events ended) in
          subst P (sym times) (subst Q (sym (cond-false _ _ _ away)) are)
    ]

-- What is kept holds on, piece by piece.
use Rattle.std.proofs.Common.{◌≡◌, ℕ, ◌<◌, ◌≤◌, true, false, List, [], ◌∷◌, ◌++◌, length, refl, sym, ◌∙◌, ap, subst, arith, Option, Some, None, nat_lt, Ok, Err}
use Rattle.std.specs.List.{list_all}
use Rattle.std.specs.Option.{option_to_list}
use Rattle.std.proofs.lemmas.Bool.{cond-true, cond-false, and_parts, and_from, ltb-true}
use Rattle.std.proofs.lemmas.List.{append-nil}
use Rattle.std.proofs.lemmas.List.Folds.{list_all-append}
use Rattle.vcd_words.specs.declared.level.Level.{Level}
use Rattle.vcd_traces.specs.declared.changes.Levels.{Levels}
use Rattle.vcd_traces.specs.declared.reader.Reading.{Reading}
use Rattle.vcd_traces.specs.declared.running.Running.{Running}
use Rattle.vcd_traces.specs.declared.rows.Watched.{Watched}
use Rattle.vcd_reading.specs.Events.{Event}
use Rattle.vcd_reading.specs.Changes.{Past, is_later, is_earlier, timed, stamps_of, with_event}
use Rattle.vcd_traces.specs.Samples.{Watches, moments}
use Rattle.vcd_traces.specs.Running.{are_past}
use Rattle.vcd_traces.specs.Levels.{Keeps, KeepsAll}
use Rattle.vcd_traces.specs.Rows.{Kept, rows_of}
use Rattle.vcd_traces.specs.Kept.{AreKept}
use Rattle.vcd_traces.specs.Closing.{closed_at, closed}
use Rattle.vcd_traces.specs.Plan.{IsWatched, have_ended, Holds}
use Rattle.vcd_traces.proofs.RunningLaws.{follows_time, past_time, lt_from, not_less}
use Rattle.vcd_traces.proofs.MomentLaws.{closes_at}
use Rattle.vcd_traces.proofs.StableLaws.{kept_stable}

-- a change of the stamp at hand
pub holds_change : (w : Watches) (cells : List (List ℕ)) (past : Past) (old new : Reading) (code : List ℕ) (level : Level) → Holds w cells past old
    → new.rows ≡ old.rows → Keeps cells (with_event past code level) new.levels → Holds w cells (with_event past code level) new
holds_change w cells past old new code level holds rows keeps = record {
  levels = keeps;
  ended = holds.ended;
  rows =
      let event : Event = record { time = past.time; code = code; level = level } in
      let P : Kept → Type 0 = AreKept w (past.events ++ event ∷ []) (moments w.clock (past.events ++ event ∷ []) past.ended) in
      subst P (ap rows_of (sym rows)) (kept_stable w past.events event past.ended (rows_of old.rows) holds.ended holds.rows);
}

-- nothing changes
pub holds_still : (w : Watches) (cells : List (List ℕ)) (past : Past) (old new : Reading) → Holds w cells past old → new ≡ old → Holds w cells past new
holds_still w cells past old new holds same = let P : Reading → Type 0 = Holds w cells past in subst P (sym same) holds

ends_before : (last time : ℕ) (ended : List ℕ) → last < time → list_all (λ t. nat_lt t last) ended ≡ true → list_all (λ t. nat_lt t time) ended ≡ true
ends_before last time [] less all = refl
ends_before last time (t ∷ ended) less all =
    let parts = and_parts (nat_lt t last) (list_all (λ u. nat_lt u last) ended) all in
    let below : t < last = ltb-true t last parts.0 in
    and_from _ _ (lt_from t time (omega arith)) (ends_before last time ended less parts.1)

-- the stamp at hand has ended by a later time
ended_later : (last : Option ℕ) (time : ℕ) (ended : List ℕ) → is_later last time ≡ true → have_ended last ended
    → list_all (λ t. nat_lt t time) (ended ++ option_to_list last) ≡ true
ended_later None time ended later none = ap (λ l. list_all (λ t. nat_lt t time) (l ++ [])) none
ended_later (Some last) time ended later all =
    list_all-append (λ t. nat_lt t time) ended (last ∷ [])
    ∙ and_from _ _ (ends_before last time ended (ltb-true last time later) all) (and_from _ _ later refl)

-- and what is kept of the cycles takes it in
pub rows_later : (w : Watches) (cells : List (List ℕ)) (last : Option ℕ) (events : List Event) (running : List Running) (watched : Watched) (ended : List ℕ) (kept : Kept)
    → IsWatched w cells watched → are_past last events ≡ true → length running ≡ length cells → KeepsAll cells last events running
    → AreKept w events (moments w.clock events ended) kept
    → AreKept w events (moments w.clock events (ended ++ option_to_list last)) (closed_at watched running last kept)
rows_later w cells None events running watched ended kept watches past count each are =
    let P : List ℕ → Type 0 = λ l. AreKept w events (moments w.clock events l) kept in subst P (sym (append-nil ended)) are
rows_later w cells (Some last) events running watched ended kept watches past count each are =
    closes_at w cells last events running watched ended kept (record { watches = watches; past = past; count = count; each = each }) are

pub holds_later : (w : Watches) (cells : List (List ℕ)) (past : Past) (watched : Watched) (old new : Reading) (time : ℕ) → IsWatched w cells watched
    → Holds w cells past old → is_later past.time time ≡ true → new.levels ≡ record old.levels { time = Some time }
    → rows_of new.rows ≡ closed watched old.levels (rows_of old.rows)
    → Holds w cells (record past { time = Some time; ended = stamps_of past }) new
holds_later w cells past watched old new time watches holds later levels rows =
    let next : Past = record past { time = Some time; ended = stamps_of past } in
    let L : Levels → Type 0 = Keeps cells next in
    let K : Kept → Type 0 = AreKept w past.events (moments w.clock past.events (stamps_of past)) in
    record {
      levels = subst L (sym levels)
          (record {
            time = refl;
            count = holds.levels.count;
            events = past_time past.time time past.events later holds.levels.events;
            each = λ k code r at is. follows_time code past.time past.events r time later holds.levels.events (holds.levels.each k code r at is);
          });
      ended = ended_later past.time time past.ended later holds.ended;
      rows = subst K (sym (rows ∙ ap (λ t. closed_at watched old.levels.running.items t (rows_of old.rows)) holds.levels.time))
          (rows_later w cells past.time past.events old.levels.running.items watched past.ended (rows_of old.rows) watches holds.levels.events holds.levels.count
          holds.levels.each holds.rows);
    }

-- what a time does
pub timed_later : (past : Past) (time at : ℕ) → is_later past.time time ≡ true → timed past time at ≡ Ok (record past { time = Some time; ended = stamps_of past })
timed_later past time at later =
    cond-false _ _ _ (not_earlier past.time time later) ∙ ap Ok (cond-true _ _ _ later)
  where
    not_earlier : (last : Option ℕ) (time : ℕ) → is_later last time ≡ true → is_earlier last time ≡ false
    not_earlier None time later = refl
    not_earlier (Some last) time later = not_less time last (omega (arith, ltb-true last time later))

pub timed_same : (past : Past) (last time at : ℕ) → past.time ≡ Some last → time ≡ last → timed past time at ≡ Ok past
timed_same past last time at is same =
    let low : nat_lt time last ≡ false = not_less time last (omega arith) in
    let high : nat_lt last time ≡ false = not_less last time (omega arith) in
    cond-false _ _ _ (ap (λ t. is_earlier t time) is ∙ low) ∙ ap Ok (cond-false _ _ _ (ap (λ t. is_later t time) is ∙ high))

pub timed_early : (past : Past) (last time at : ℕ) → past.time ≡ Some last → time < last → timed past time at ≡ Err at
timed_early past last time at is less = cond-true _ _ _ (ap (λ t. is_earlier t time) is ∙ lt_from time last less)

-- a time that is none of the last ones is later
pub later_some : (t : Option ℕ) (last time : ℕ) → t ≡ Some last → last ≤ time → (time ≡ last → ⊥) → is_later t time ≡ true
later_some t last time is least other =
    let P : Option ℕ → Type 0 = λ o. is_later o time ≡ true in
    subst P (sym is) (lt_from last time (omega (arith, least, other)))

pub later_none : (t : Option ℕ) (time : ℕ) → t ≡ None → is_later t time ≡ true
later_none t time is = ap (λ o. is_later o time) is

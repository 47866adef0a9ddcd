-- What is kept of a variable follows its changes.
use Rattle.std.proofs.Common.{◌≡◌, ℕ, ◌<◌, ◌≤◌, ◌==◌, Bool, true, false, ◌&&◌, if◌then◌else◌, List, [], ◌∷◌, ◌++◌, refl, sym, ◌∙◌, ap, subst, inl, inr, arith, Option, Some, None, fold, nat_lt, nat_le}
use Rattle.std.specs.List.{list_all}
use Rattle.std.proofs.lemmas.Bool.{cases_Bool, cond-true, cond-false, and_parts, and_from, false≢true, ltb-true, leb-true}
use Rattle.std.proofs.lemmas.Bool.Decides.{nat_tests}
use Rattle.std.proofs.lemmas.List.Folds.{list_all-append}
use Rattle.loc_base.proofs.ShelfBools.{and-false}
use Rattle.vcd_words.specs.declared.level.Level.{Level}
use Rattle.vcd_words.specs.Levels.{unknown_level}
use Rattle.vcd_traces.specs.declared.running.Running.{Running}
use Rattle.vcd_reading.specs.Commands.{same_bytes}
use Rattle.vcd_reading.specs.Events.{Event, level_by, last_level, level_before, level_after, is_before, is_up_to}
use Rattle.vcd_reading.specs.Changes.{is_later}
use Rattle.vcd_traces.specs.Running.{same_time, first_running, changed_to, before_of, always, is_past, are_past, Follows}

pub lt_from : (a b : ℕ) → a < b → nat_lt a b ≡ true
lt_from a b below = grind (arith, nat_tests)

le_from : (a b : ℕ) → a ≤ b → nat_le a b ≡ true
le_from a b below = grind (arith, nat_tests)

not_equal : (a b : ℕ) → a < b → (a == b) ≡ false
not_equal a b below = grind (arith, nat_tests)

pub not_less : (a b : ℕ) → b ≤ a → nat_lt a b ≡ false
not_less a b above = grind (arith, nat_tests)

not_below : (a : ℕ) → nat_lt a a ≡ false
not_below a = grind (arith, nat_tests)

equal_here : (a : ℕ) → (a == a) ≡ true
equal_here a = grind (arith, nat_tests)

-- one more event
fold_more : (test : Option ℕ → Bool) (code : List ℕ) (level : Level) (events : List Event) (event : Event)
    → fold (level_by test code) level (events ++ event ∷ []) ≡ level_by test code (fold (level_by test code) level events) event
fold_more test code level [] event = refl
fold_more test code level (first ∷ events) event = fold_more test code (level_by test code level first) events event

pub last_more : (test : Option ℕ → Bool) (code : List ℕ) (events : List Event) (event : Event)
    → last_level test code (events ++ event ∷ []) ≡ level_by test code (last_level test code events) event
last_more test code events event = fold_more test code unknown_level events event

-- two tests that agree on the times of all events give one level
fold_agrees : (one other bound : Option ℕ → Bool) (code : List ℕ) → ((t : Option ℕ) → bound t ≡ true → one t ≡ other t)
    → (level : Level) (events : List Event) → list_all (λ (event : Event). bound event.time) events ≡ true
    → fold (level_by one code) level events ≡ fold (level_by other code) level events
fold_agrees one other bound code agree level [] all = refl
fold_agrees one other bound code agree level (event ∷ events) all =
    let parts = and_parts (bound event.time) (list_all (λ (e : Event). bound e.time) events) all in
    ap (λ b. fold (level_by one code) (if same_bytes event.code code && b then event.level else level) events) (agree event.time parts.0)
    ∙ fold_agrees one other bound code agree (level_by other code level event) events parts.1

pub last_agrees : (one other : Option ℕ → Bool) (last : Option ℕ) (code : List ℕ) (events : List Event)
    → ((t : Option ℕ) → is_past last t ≡ true → one t ≡ other t) → are_past last events ≡ true
    → last_level one code events ≡ last_level other code events
last_agrees one other last code events agree all = fold_agrees one other (is_past last) code agree unknown_level events all

-- all that is not after a time is before a later one
before_later : (last : Option ℕ) (time : ℕ) (t : Option ℕ) → is_later last time ≡ true → is_past last t ≡ true → is_before time t ≡ true
before_later last time None later past = refl
before_later None time (Some t) later past = absurd (false≢true past)
before_later (Some l) time (Some t) later past = lt_from t time (omega (arith, ltb-true l time later, leb-true t l past))

past_later : (last : Option ℕ) (time : ℕ) (t : Option ℕ) → is_later last time ≡ true → is_past last t ≡ true → is_past (Some time) t ≡ true
past_later last time None later past = refl
past_later None time (Some t) later past = absurd (false≢true past)
past_later (Some l) time (Some t) later past = le_from t time (omega (arith, ltb-true l time later, leb-true t l past))

-- and is another time
not_same : (last : Option ℕ) (time : ℕ) (t : Option ℕ) → is_later last time ≡ true → is_past last t ≡ true → same_time t (Some time) ≡ false
not_same last time None later past = refl
not_same None time (Some t) later past = absurd (false≢true past)
not_same (Some l) time (Some t) later past = not_equal t time (omega (arith, ltb-true l time later, leb-true t l past))

-- no event yet
pub follows_none : (code : List ℕ) → Follows code None [] first_running
follows_none code = record { level = refl; before = λ time e. refl; late = refl }

-- a later time
pub follows_time : (code : List ℕ) (last : Option ℕ) (events : List Event) (r : Running) (time : ℕ) → is_later last time ≡ true
    → are_past last events ≡ true → Follows code last events r → Follows code (Some time) events r
follows_time code last events r time later all f = record {
  level = f.level;
  before = λ t e.
      let P : ℕ → Type 0 = λ u. before_of r u ≡ level_before u code events in
      let same : time ≡ t = cc in
      subst P same
      (cond-false _ _ _ (not_same last time r.time later f.late) ∙ f.level
      ∙ last_agrees always (is_before time) last code events (λ u past. sym (before_later last time u later past)) all);
  late = past_later last time r.time later f.late;
}

-- a time is not after itself
past_itself : (last : Option ℕ) → is_past last last ≡ true
past_itself None = refl
past_itself (Some l) = le_from l l (omega arith)

-- the events of a stamp are not before it
not_before : (last : Option ℕ) (time : ℕ) → last ≡ Some time → is_before time last ≡ false
not_before None time e = cc
not_before (Some l) time e =
    let same : l ≡ time = cc in
    let P : ℕ → Type 0 = λ t. is_before time (Some t) ≡ false in
    subst P (sym same) (not_below time)

-- an event of another code changes nothing
level_other : (test : Option ℕ → Bool) (code : List ℕ) (events : List Event) (event : Event) → same_bytes event.code code ≡ false
    → last_level test code (events ++ event ∷ []) ≡ last_level test code events
level_other test code events event other =
    last_more test code events event ∙ cond-false _ _ _ (ap (λ b. b && test event.time) other)

-- nor does one whose time does not pass
pub level_out : (test : Option ℕ → Bool) (code : List ℕ) (events : List Event) (event : Event) → test event.time ≡ false
    → last_level test code (events ++ event ∷ []) ≡ last_level test code events
level_out test code events event out =
    last_more test code events event ∙ cond-false _ _ _ (ap (λ b. same_bytes event.code code && b) out ∙ and-false (same_bytes event.code code))

-- any other sets the level
level_set : (test : Option ℕ → Bool) (code : List ℕ) (events : List Event) (event : Event) → same_bytes event.code code ≡ true
    → test event.time ≡ true → last_level test code (events ++ event ∷ []) ≡ event.level
level_set test code events event same passes = last_more test code events event ∙ cond-true _ _ _ (and_from _ _ same passes)

-- a change of another variable
pub follows_other : (code : List ℕ) (last : Option ℕ) (events : List Event) (r : Running) (event : Event)
    → same_bytes event.code code ≡ false → Follows code last events r → Follows code last (events ++ event ∷ []) r
follows_other code last events r event other f = record {
  level = f.level ∙ sym (level_other always code events event other);
  before = λ time e. f.before time e ∙ sym (level_other (is_before time) code events event other);
  late = f.late;
}

same_before : (r : Running) (last : Option ℕ) (level : Level) (time : ℕ) → last ≡ Some time
    → before_of (changed_to r last level) time ≡ before_of r time
same_before r None level time e = cc
same_before r (Some l) level time e =
    let same : l ≡ time = cc in
    let P : ℕ → Type 0 = λ t. before_of (changed_to r (Some t) level) time ≡ before_of r time in
    subst P (sym same)
    (elim (cases_Bool (same_time r.time (Some time))) [
      | inl here ↦
          cond-true _ _ _ (ap (λ t. same_time t (Some time)) (cond-true _ _ _ here) ∙ here) ∙ cond-true _ _ _ here ∙ sym (cond-true _ _ _ here)
      | inr away ↦
          cond-true _ _ _ (ap (λ t. same_time t (Some time)) (cond-false _ _ _ away) ∙ equal_here time) ∙ cond-false _ _ _ away ∙ sym (cond-false _ _ _ away)
    ])

changed_past : (r : Running) (last : Option ℕ) (level : Level) → is_past last r.time ≡ true → is_past last (changed_to r last level).time ≡ true
changed_past r last level late =
    elim (cases_Bool (same_time r.time last)) [
      | inl here ↦ ap (is_past last) (cond-true _ _ _ here) ∙ late
      | inr away ↦ ap (is_past last) (cond-false _ _ _ away) ∙ past_itself last
    ]

same_itself : (code : List ℕ) → same_bytes code code ≡ true
same_itself [] = refl
same_itself (byte ∷ code) = and_from _ _ (equal_here byte) (same_itself code)

-- a change of the variable itself
pub follows_change : (code : List ℕ) (last : Option ℕ) (events : List Event) (r : Running) (level : Level) → Follows code last events r
    → Follows code last (events ++ (record { time = last; code = code; level = level }) ∷ []) (changed_to r last level)
follows_change code last events r level f =
    let event : Event = record { time = last; code = code; level = level } in
    record {
      level = sym (level_set always code events event (same_itself code) refl);
      before = λ time e.
          same_before r last level time e ∙ f.before time e ∙ sym (level_out (is_before time) code events event (not_before last time e));
      late = changed_past r last level f.late;
    }

-- no event is after the last time
pub past_more : (last : Option ℕ) (events : List Event) (code : List ℕ) (level : Level) → are_past last events ≡ true
    → are_past last (events ++ (record { time = last; code = code; level = level }) ∷ []) ≡ true
past_more last events code level all =
    let event : Event = record { time = last; code = code; level = level } in
    list_all-append (λ (e : Event). is_past last e.time) events (event ∷ []) ∙ and_from _ _ all (and_from _ _ (past_itself last) refl)

pub past_time : (last : Option ℕ) (time : ℕ) (events : List Event) → is_later last time ≡ true → are_past last events ≡ true → are_past (Some time) events ≡ true
past_time last time [] later all = refl
past_time last time (event ∷ events) later all =
    let parts = and_parts (is_past last event.time) (are_past last events) all in
    and_from _ _ (past_later last time event.time later parts.0) (past_time last time events later parts.1)

-- the level after the last stamp is the last one
pub after_last : (code : List ℕ) (time : ℕ) (events : List Event) → are_past (Some time) events ≡ true
    → level_after time code events ≡ last_level always code events
after_last code time events all = last_agrees (is_up_to time) always (Some time) code events (λ t past. past) all

-- The writes of a listing stand beside its checkpoints: log and report have other names, and waves end in other letters.
use Rattle.std.proofs.Common.{◌≡◌, ◌≢◌, ℕ, ◌+◌, Bool, true, false, ◌||◌, List, [], ◌∷◌, ◌++◌, take}
use Rattle.std.proofs.Common.{Option, Some, None, Result, Ok, Err, refl, ap, sym, ◌∙◌, subst, append_assoc, arith}
use Rattle.std.specs.Prelude.{codes, decimal}
use Rattle.std.specs.Str.{bytes_eq}
use Rattle.std.specs.Cmp.Lexicographic.{bytes_decides}
use Rattle.clause_base.specs.declared.log.Step.{Step}
use Rattle.design_core.specs.declared.trace.Trace.{Trace}
use Rattle.design_core.specs.declared.values.SetWithValues.{SetWithValues}
use Rattle.design_core.specs.declared.values.Values.{Values}
use Rattle.design_core.specs.Valuation.{Valuation}
use Rattle.report_doc.specs.declared.types.Ending.{Ending}
use Rattle.report_doc.specs.declared.types.Ending.TheVariants.{Complete, Budget, Sets, Earlier}
use Rattle.set_waves.specs.Names.{wave_name}
use Rattle.set_waves.specs.Waved.{Runs, Waved}
use Rattle.set_waves.specs.Writes.{set_writes as wave_writes, waves_of, waves_writes}
use Rattle.write_order.specs.Writes.{AreDone, Outputs, Write}
use Rattle.list_writer.specs.declared.pair.Pair.TheVariants.{First, Second}
use Rattle.list_writer.specs.declared.stop.Stop.{Stop}
use Rattle.list_writer.specs.declared.stop.Stop.TheVariants.{Failed, Memory}
use Rattle.list_writer.specs.Asked.{Asked}
use Rattle.list_writer.specs.CheckpointNames.{is_checkpoint, is_name, log_name, report_name}
use Rattle.list_writer.specs.Due.{first_writes, set_writes}
use Rattle.list_writer.specs.Found.{Portion}
use Rattle.list_writer.specs.Going.{CutsTurn, FailsTurn, GoesOn, IsTurn, OpenLeaves, Rests, Turn}
use Rattle.list_writer.specs.Going.{closing_writes, lines_writes, portion_of, searching, takes, turn_of, waits, writing}
use Rattle.list_writer.specs.Texts.{waved_for}
use Rattle.list_writer.proofs.Beside.{AreAside, IsNone, SomeAside, begun-moved, names-append, names-take, some-first, some-stopped, stops-moved}
use Rattle.debug_core.specs.Debugging.{DebugState}

-- ---- the last byte of a name
abbrev last_byte : List ℕ → ℕ
last_byte [] = 0
last_byte (x ∷ []) = x
last_byte (x ∷ y ∷ xs) = last_byte (y ∷ xs)

last-behind : (xs : List ℕ) (y : ℕ) (ys : List ℕ) → last_byte (xs ++ y ∷ ys) ≡ last_byte (y ∷ ys)
last-behind [] y ys = refl
last-behind (x ∷ []) y ys = refl
last-behind (x ∷ z ∷ xs) y ys = last-behind (z ∷ xs) y ys

-- a name that ends in another byte is another name
other-end : (name other : List ℕ) (a b : ℕ) → last_byte name ≡ a → last_byte other ≡ b → a ≢ b → bytes_eq name other ≡ false
other-end name other a b first second apart = at (bytes_eq name other) refl
  where
    at : (found : Bool) → bytes_eq name other ≡ found → found ≡ false
    at true e = absurd (apart (sym first ∙ ap last_byte ((bytes_decides name other).0 e) ∙ second))
    at false e = refl

none-of-four : (a b c d : Bool) → a ≡ false → b ≡ false → c ≡ false → d ≡ false → ((a || b) || (c || d)) ≡ false
none-of-four true b c d one two three four = absurd (cc)
none-of-four false true c d one two three four = absurd (cc)
none-of-four false false true d one two three four = absurd (cc)
none-of-four false false false true one two three four = absurd (cc)
none-of-four false false false false one two three four = refl

-- no name of a checkpoint begins otherwise
pub begins-otherwise : (prefix name : List ℕ) → ((rest : List ℕ) → name ≢ (prefix ++ codes "-") ++ rest) → is_name prefix name ≡ false
begins-otherwise prefix name own =
    none-of-four (bytes_eq name (log_name prefix First)) (bytes_eq name (report_name prefix First))
    (bytes_eq name (log_name prefix Second)) (bytes_eq name (report_name prefix Second))
    (unlike (log_name prefix First) (codes "1.log") (sym (append_assoc prefix (codes "-") (codes "1.log"))))
    (unlike (report_name prefix First) (codes "1.json") (sym (append_assoc prefix (codes "-") (codes "1.json"))))
    (unlike (log_name prefix Second) (codes "2.log") (sym (append_assoc prefix (codes "-") (codes "2.log"))))
    (unlike (report_name prefix Second) (codes "2.json") (sym (append_assoc prefix (codes "-") (codes "2.json"))))
  where
    unlike : (other rest : List ℕ) → other ≡ (prefix ++ codes "-") ++ rest → bytes_eq name other ≡ false
    unlike other rest is = at (bytes_eq name other) refl
      where
        at : (b : Bool) → bytes_eq name other ≡ b → b ≡ false
        at true e = absurd (own rest ((bytes_decides name other).0 e ∙ is))
        at false e = refl

-- a wave's name ends in `d`, a log's in `g` and a report's in `n`
wave-aside : (checkpoints : Option (List ℕ)) (prefix : List ℕ) (set trace : ℕ) → is_checkpoint checkpoints (wave_name prefix set trace) ≡ false
wave-aside None prefix set trace = refl
wave-aside (Some names) prefix set trace =
    none-of-four (bytes_eq name (log_name names First)) (bytes_eq name (report_name names First))
    (bytes_eq name (log_name names Second)) (bytes_eq name (report_name names Second))
    (other-end name (log_name names First) 100 103 wave (last-behind names 45 (codes "1.log")) (λ e. omega (arith, e)))
    (other-end name (report_name names First) 100 110 wave (last-behind names 45 (codes "1.json")) (λ e. omega (arith, e)))
    (other-end name (log_name names Second) 100 103 wave (last-behind names 45 (codes "2.log")) (λ e. omega (arith, e)))
    (other-end name (report_name names Second) 100 110 wave (last-behind names 45 (codes "2.json")) (λ e. omega (arith, e)))
  where
    name : List ℕ
    name = wave_name prefix set trace

    wave : last_byte name ≡ 100
    wave = last-behind (prefix ++ codes "-" ++ decimal set ++ codes "-" ++ decimal trace) 46 (codes "vcd")

-- ---- the writes of a listing
module _ (asked : Asked) (log : is_checkpoint asked.checkpoints asked.log ≡ false) where
  lines-aside : (sets : List SetWithValues) → AreAside asked.checkpoints (lines_writes asked sets)
  lines-aside [] = tt
  lines-aside (set ∷ sets) = (tt, lines-aside sets)

  pub first-aside : AreAside asked.checkpoints (first_writes asked)
  first-aside = (log, (log, lines-aside asked.session.sets))

  pub set-aside : (portion : Portion) → AreAside asked.checkpoints (set_writes asked portion)
  set-aside portion = (log, (tt, tt))

  -- ---- of a turn, where each list of writes that is carried out there is carried out elsewhere
  module _ (old new : DebugState) (found now_found : List SetWithValues) (steps now_steps left now_left : ℕ) (o now : Outputs) (told : Bool) where
    abbrev turn : Outputs → Turn
    turn there = turn_of asked old new (record { found = found; steps = steps; left = left })
        (record { found = now_found; steps = now_steps; left = now_left }) there told

    module _ (move : told ≡ true → (writes : List Write) → AreAside asked.checkpoints writes → AreDone writes o → AreDone writes now) where
      rests-moved : Rests (turn o) → Rests (turn now)
      rests-moved t = record { kept = t.kept; steps_are = t.steps_are; done = λ tells. move tells [] tt (t.done tells) }

      goes-moved : GoesOn (turn o) → GoesOn (turn now)
      goes-moved (takes t) = takes (record {
        set = t.set;
        finds = t.finds;
        kept = t.kept;
        steps_are = t.steps_are;
        done = λ tells. move tells (set_writes asked (portion_of (turn o) t.set)) (set-aside (portion_of (turn o) t.set)) (t.done tells);
      })
      goes-moved (waits t) = waits (record { finds = t.finds; fewer = t.fewer; rests = rests-moved t.rests })

      cuts-moved : CutsTurn (turn o) → CutsTurn (turn now)
      cuts-moved (searching nothing done) = searching nothing (λ tells. move tells [] tt (done tells))
      cuts-moved (writing set finds begun) = writing set finds (λ tells.
          begun-moved asked.checkpoints o now (move tells) (set_writes asked (portion_of (turn o) set)) (set-aside (portion_of (turn o) set))
          (begun tells))

      pub turn-moved : (r : Result (Option Ending) Stop) → IsTurn (turn o) r → IsTurn (turn now) r
      turn-moved (Ok None) t = record { holds = t.holds; searches = t.searches; answer = goes-moved t.answer }
      turn-moved (Ok (Some Complete)) t =
          record { holds = t.holds; searches = t.searches; answer = (t.answer.0, rests-moved t.answer.1) }
      turn-moved (Ok (Some Budget)) t =
          record { holds = t.holds; searches = t.searches; answer = (t.answer.0, t.answer.1, rests-moved t.answer.2) }
      turn-moved (Ok (Some Sets)) t = absurd t.answer
      turn-moved (Ok (Some Earlier)) t = absurd t.answer
      turn-moved (Err Failed) t = record { holds = t.holds; searches = t.searches; answer = failed t.answer }
        where
          failed : FailsTurn (turn o) → FailsTurn (turn now)
          failed f = record {
            set = f.set;
            finds = f.finds;
            stops = λ tells.
                stops-moved asked.checkpoints o now (move tells) (set_writes asked (portion_of (turn o) f.set)) (set-aside (portion_of (turn o) f.set))
                (f.stops tells);
          }
      turn-moved (Err (Memory sets)) t = record { holds = t.holds; searches = t.searches; answer = (t.answer.0, cuts-moved t.answer.1) }

  -- and what was carried out
  module _ (t : Turn) (of : t.asked ≡ asked) where
    some-done : (writes : List Write) → AreAside asked.checkpoints writes → AreDone writes t.o → SomeAside asked.checkpoints t.o
    some-done writes aside done = record { writes = writes; aside = aside; done = done }

    abbrev its : SetWithValues → List Write
    its set = set_writes t.asked (portion_of t set)

    its-aside : (set : SetWithValues) → AreAside asked.checkpoints (its set)
    its-aside set = subst (λ (a : Asked). AreAside asked.checkpoints (set_writes a (portion_of t set))) (sym of) (set-aside (portion_of t set))

    rests-aside : t.told ≡ true → Rests t → SomeAside asked.checkpoints t.o
    rests-aside tells r = some-done [] tt (r.done tells)

    pub turn-aside : t.told ≡ true → (r : Result (Option Ending) Stop) → IsTurn t r → SomeAside asked.checkpoints t.o
    turn-aside tells (Ok None) is = at is.answer
      where
        at : GoesOn t → SomeAside asked.checkpoints t.o
        at (takes s) = some-done (its s.set) (its-aside s.set) (s.done tells)
        at (waits w) = rests-aside tells w.rests
    turn-aside tells (Ok (Some Complete)) is = rests-aside tells is.answer.1
    turn-aside tells (Ok (Some Budget)) is = rests-aside tells is.answer.2
    turn-aside tells (Ok (Some Sets)) is = absurd is.answer
    turn-aside tells (Ok (Some Earlier)) is = absurd is.answer
    turn-aside tells (Err Failed) is = at is.answer
      where
        at : FailsTurn t → SomeAside asked.checkpoints t.o
        at f = some-stopped asked.checkpoints t.o (its f.set) (its-aside f.set) (f.stops tells)
    turn-aside tells (Err (Memory sets)) is = at is.answer.1
      where
        at : CutsTurn t → SomeAside asked.checkpoints t.o
        at (searching nothing done) = some-done [] tt (done tells)
        at (writing set finds begun) =
            let b = begun tells in some-first asked.checkpoints t.o (its set) (its-aside set) b.count b.done

  -- ---- before the search
  pub open-moved : (o now : Outputs) → ((writes : List Write) → AreAside asked.checkpoints writes → AreDone writes o → AreDone writes now)
      → (r : Result (Unit {0}) Stop) → OpenLeaves (first_writes asked) o r → OpenLeaves (first_writes asked) now r
  open-moved o now move (Ok x) left = move (first_writes asked) first-aside left
  open-moved o now move (Err Failed) left = stops-moved asked.checkpoints o now move (first_writes asked) first-aside left
  open-moved o now move (Err (Memory sets)) left = record {
    count = left.count;
    within = left.within;
    sets_are = left.sets_are;
    done = move (take left.count (first_writes asked)) (names-take (IsNone asked.checkpoints) left.count (first_writes asked) first-aside) left.done;
  }

  pub open-aside : (o : Outputs) (r : Result (Unit {0}) Stop) → OpenLeaves (first_writes asked) o r → SomeAside asked.checkpoints o
  open-aside o (Ok x) left = record { writes = first_writes asked; aside = first-aside; done = left }
  open-aside o (Err Failed) left = some-stopped asked.checkpoints o (first_writes asked) first-aside left
  open-aside o (Err (Memory sets)) left = some-first asked.checkpoints o (first_writes asked) first-aside left.count left.done

  -- ---- behind the search
  waved-aside : (w : Waved) (prefix : List ℕ) (number : ℕ) (values : Values) (runs : ℕ → List Valuation) (j : ℕ) (traces : List Trace)
      → AreAside asked.checkpoints (wave_writes w prefix number values runs j traces)
  waved-aside w prefix number values runs j [] = tt
  waved-aside w prefix number values runs j (trace ∷ traces) =
      let aside = wave-aside asked.checkpoints prefix number (j + 1) in
      (aside, (aside, waved-aside w prefix number values runs (j + 1) traces))

  all-waved-aside : (w : Waved) (prefix : List ℕ) (runs : Runs) (s : ℕ) (sets : List SetWithValues)
      → AreAside asked.checkpoints (waves_writes w prefix runs s sets)
  all-waved-aside w prefix runs s [] = tt
  all-waved-aside w prefix runs s (set ∷ sets) =
      names-append (IsNone asked.checkpoints) (wave_writes w prefix (s + 1) set.values (runs s) 0 w.traces) (waves_writes w prefix runs (s + 1) sets)
      (waved-aside w prefix (s + 1) set.values (runs s) 0 w.traces) (all-waved-aside w prefix runs (s + 1) sets)

  waves-aside : (prefix : Option (List ℕ)) (w : Waved) (runs : Runs) (sets : List SetWithValues)
      → AreAside asked.checkpoints (waves_of prefix w runs sets)
  waves-aside None w runs sets = tt
  waves-aside (Some prefix) w runs sets = all-waved-aside w prefix runs 0 sets

  pub closing-aside : is_checkpoint asked.checkpoints asked.report ≡ false → (found : List SetWithValues) (rest : List Step) (ending : Ending) (runs : Runs)
      → AreAside asked.checkpoints (closing_writes asked found rest ending runs)
  closing-aside report found rest ending runs = (
    log,
    (
      report,
      (
        report,
        names-append (IsNone asked.checkpoints) (waves_of asked.waves (waved_for asked) runs found) _
            (waves-aside asked.waves (waved_for asked) runs found) (tt, tt),
      ),
    ),
  )

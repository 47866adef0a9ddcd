-- A listing writes under the names of the log, the report and its waves alone.
use Rattle.std.proofs.Common.{◌≡◌, ◌≢◌, ◌⊎◌, inl, inr, ℕ, zero, suc, ◌+◌, ◌<◌, ◌≤◌, Bool, true, false, List, [], ◌∷◌, ◌++◌, length, take}
use Rattle.std.proofs.Common.{Option, Some, None, refl, sym, ◌∙◌, subst, cond, arith}
use Rattle.clause_base.specs.declared.log.Step.{Step}
use Rattle.design_core.specs.declared.trace.Trace.{Trace}
use Rattle.design_core.specs.declared.values.SetWithValues.{SetWithValues}
use Rattle.design_core.specs.declared.values.Values.{Values}
use Rattle.design_core.specs.Valuation.{Valuation}
use Rattle.report_doc.specs.declared.types.Ending.{Ending}
use Rattle.set_waves.specs.Names.{IsWave, IsWaveName, wave_name}
use Rattle.set_waves.specs.Waved.{Runs}
use Rattle.set_waves.specs.Writes.{set_writes, waves_of, waves_writes}
use Rattle.std.specs.Prelude.{slice_get}
use Rattle.std.specs.Str.{bytes_eq}
use Rattle.std.specs.Cmp.Lexicographic.{bytes_decides}
use Rattle.clause_base.specs.declared.literal.Lit.{Lit}
use Rattle.write_order.specs.Writes.{AreDone, IsPartOf, Outputs, Write}
use Rattle.write_order.specs.Writes.{begin_text, print_piece, put_piece, text_after, text_behind}
use Rattle.list_writer.specs.declared.outcome.Outcome.{Outcome}
use Rattle.list_writer.specs.declared.outcome.Outcome.TheVariants as outcome
use Rattle.list_writer.specs.Asked.{Asked, most_sets}
use Rattle.list_writer.specs.Found.{IsEnded, Portion, found_of, log_of}
use Rattle.list_writer.specs.Texts.{waved_for}
use Rattle.list_writer.proofs.Ended.{few-sets-of}
use Rattle.list_writer.specs.Lines.{ending_line, memory_line}
use Rattle.list_writer.specs.Due.{IsBody, IsDue, ended, going_on}
use Rattle.list_writer.specs.Due.{opening, sets_in, short, so_far, texts, wanting, whole}
use Rattle.list_writer.specs.Going.{lines_writes, sets_writes}
use Rattle.list_writer.specs.Outcomes.{Leaves}

-- a write that names nothing but the log, the report and waves
abbrev IsOwnName : Asked → List ℕ → Type 0
IsOwnName asked name =
    (name ≡ asked.log) ⊎ ((name ≡ asked.report) ⊎ IsWave asked.waves (most_sets asked) (length asked.problem.traces) name)

abbrev IsOwn : Asked → Write → Type 0
IsOwn asked (begin_text name) = IsOwnName asked name
IsOwn asked (put_piece name piece) = IsOwnName asked name
IsOwn asked (print_piece piece) = Unit {0}

-- the waves of the sets from one on
abbrev waves_from : Asked → Option (List ℕ) → Runs → ℕ → List SetWithValues → List Write
waves_from asked None runs s sets = []
waves_from asked (Some prefix) runs s sets = waves_writes (waved_for asked) prefix runs s sets

abbrev AreOwn : Asked → List Write → Type 0
AreOwn asked [] = Unit {0}
AreOwn asked (write ∷ writes) = IsOwn asked write × AreOwn asked writes

module _ (asked : Asked) where
  own-append : (one next : List Write) → AreOwn asked one → AreOwn asked next → AreOwn asked (one ++ next)
  own-append [] next own there = there
  own-append (w ∷ one) next own there = (own.0, own-append one next own.1 there)

  own-take : (n : ℕ) (writes : List Write) → AreOwn asked writes → AreOwn asked (take n writes)
  own-take zero writes own = tt
  own-take (suc n) [] own = tt
  own-take (suc n) (w ∷ writes) own = (own.0, own-take n writes own.1)

  own-at : (writes : List Write) (n : ℕ) (w : Write) → slice_get writes n ≡ Some w → AreOwn asked writes → IsOwn asked w
  own-at [] n w at own = absurd (cc)
  own-at (v ∷ writes) zero w at own = subst (IsOwn asked) (cc) own.0
  own-at (v ∷ writes) (suc n) w at own = own-at writes n w at own.1

  own-part : (w : Write) (part : List Write) → IsPartOf w part → IsOwn asked w → AreOwn asked part
  own-part (begin_text name) part (inl none) own = subst (AreOwn asked) (sym none) tt
  own-part (begin_text name) part (inr all) own = subst (AreOwn asked) (sym all) (own, tt)
  own-part (put_piece name piece) part (count, is) own = subst (AreOwn asked) (sym is) (own, tt)
  own-part (print_piece piece) part (count, is) own = subst (AreOwn asked) (sym is) (tt, tt)

  own-sets : (portions : List Portion) → AreOwn asked (sets_writes asked portions)
  own-sets [] = tt
  own-sets (portion ∷ portions) = (inl refl, (tt, own-sets portions))

  own-lines : (sets : List SetWithValues) → AreOwn asked (lines_writes asked sets)
  own-lines [] = tt
  own-lines (set ∷ sets) = (tt, own-lines sets)

  own-opening : (portions : List Portion) → AreOwn asked (opening asked portions)
  own-opening portions = (
    inl refl,
    (
      inl refl,
      own-append (lines_writes asked asked.session.sets) (sets_writes asked portions) (own-lines asked.session.sets)
          (own-sets portions),
    ),
  )

  -- the waves
  own-set : (prefix : List ℕ) → asked.waves ≡ Some prefix → (s : ℕ) → s < most_sets asked → (values : Values) (runs : ℕ → List Valuation)
      (j : ℕ) (traces : List Trace) → j + length traces ≤ length asked.problem.traces
      → AreOwn asked (set_writes (waved_for asked) prefix (s + 1) values runs j traces)
  own-set prefix is s few values runs j [] within = tt
  own-set prefix is s few values runs j (trace ∷ traces) within =
      let own : IsOwnName asked (wave_name prefix (s + 1) (j + 1)) =
      inr (inr (subst (λ (p : Option (List ℕ)). IsWave p (most_sets asked) (length asked.problem.traces) (wave_name prefix (s + 1) (j + 1)))
      (sym is) (named s j few (omega (arith, within))))) in
      (own, (own, own-set prefix is s few values runs (j + 1) traces (omega (arith, within))))
    where
      named : (s j : ℕ) → s < most_sets asked → j < length asked.problem.traces
          → IsWaveName prefix (most_sets asked) (length asked.problem.traces) (wave_name prefix (s + 1) (j + 1))
      named s j few low = record {
        set = s + 1;
        trace = j + 1;
        from_set = omega arith;
        to_set = omega (arith, few);
        from_trace = omega arith;
        to_trace = omega (arith, low);
        is = refl;
      }

  own-waves : (prefix : Option (List ℕ)) → asked.waves ≡ prefix → (runs : Runs) (s : ℕ) (sets : List SetWithValues)
      → s + length sets ≤ most_sets asked → AreOwn asked (waves_from asked prefix runs s sets)
  own-waves None is runs s sets few = tt
  own-waves (Some prefix) is runs s [] few = tt
  own-waves (Some prefix) is runs s (set ∷ sets) few =
      own-append (set_writes (waved_for asked) prefix (s + 1) set.values (runs s) 0 asked.problem.traces)
      (waves_writes (waved_for asked) prefix runs (s + 1) sets)
      (own-set prefix is s (omega (arith, few)) set.values (runs s) 0 asked.problem.traces (omega arith))
      (own-waves (Some prefix) is runs (s + 1) sets (omega (arith, few)))

  own-texts : (form : List (List Lit)) (portions : List Portion) (rest : List Step) (ending : Ending) (runs : Runs)
      → IsEnded asked form portions rest ending → AreOwn asked (texts asked portions rest ending runs)
  own-texts form portions rest ending runs is =
      let few : length (found_of asked portions) ≤ most_sets asked =
      few-sets-of asked portions (log_of asked portions ++ rest) ending is.ends in (
        inl refl,
        (
          inr (inl refl),
          (
            inr (inl refl),
            waves-own asked.waves refl (own-waves asked.waves refl runs 0 (found_of asked portions) (omega (arith, few))),
          ),
        ),
      )
    where
      waves-own : (prefix : Option (List ℕ)) → asked.waves ≡ prefix → AreOwn asked (waves_from asked prefix runs 0 (found_of asked portions))
          → AreOwn asked (waves_of prefix (waved_for asked) runs (found_of asked portions))
      waves-own None is own = own
      waves-own (Some prefix) is own = own

  own-body : (form : List (List Lit)) (body : List Write) → IsBody asked form body → AreOwn asked body
  own-body form body (going_on portions found) = own-opening portions
  own-body form body (ended portions rest ending runs is are) =
      own-append (opening asked portions) (texts asked portions rest ending runs) (own-opening portions)
      (own-texts form portions rest ending runs is)

  own-due : (form : List (List Lit)) (due : List Write) → IsDue asked form due → AreOwn asked due
  own-due form due (so_far portions found) = own-opening portions
  own-due form due (whole portions rest ending runs is are) =
      own-append (opening asked portions ++ texts asked portions rest ending runs) (print_piece (ending_line ending (length (found_of asked portions))) ∷ [])
      (own-append (opening asked portions) (texts asked portions rest ending runs) (own-opening portions)
      (own-texts form portions rest ending runs is)) (tt, tt)
  own-due form due (wanting body count is few) =
      own-append (take count body) (print_piece (memory_line (sets_in (take count body))) ∷ []) (own-take count body
      (own-body form body is)) (tt, tt)

  module _ (name : List ℕ) (no_log : name ≢ asked.log) (no_report : name ≢ asked.report)
      (no_wave : ¬ IsWave asked.waves (most_sets asked) (length asked.problem.traces) name) where
    another : (other : List ℕ) → IsOwnName asked other → name ≢ other
    another other (inl log) same = no_log (same ∙ log)
    another other (inr (inl report)) same = no_report (same ∙ report)
    another other (inr (inr wave)) same =
        no_wave (subst (IsWave asked.waves (most_sets asked) (length asked.problem.traces)) (sym same) wave)

    differs : (other : List ℕ) → name ≢ other → bytes_eq name other ≡ false
    differs other apart = at (bytes_eq name other) refl
      where
        at : (b : Bool) → bytes_eq name other ≡ b → b ≡ false
        at true e = absurd (apart ((bytes_decides name other).0 e))
        at false e = refl

    stays-at : (other : List ℕ) (b : Bool) (new text : Option (List ℕ)) → b ≡ false → cond b new text ≡ text
    stays-at other true new text e = absurd (cc)
    stays-at other false new text e = refl

    one-stays : (w : Write) (text : Option (List ℕ)) → IsOwn asked w → text_after name w text ≡ text
    one-stays (begin_text other) text own = stays-at other (bytes_eq name other) _ text (differs other (another other own))
    one-stays (put_piece other piece) text own = stays-at other (bytes_eq name other) _ text (differs other (another other own))
    one-stays (print_piece piece) text own = refl

    stays : (writes : List Write) (text : Option (List ℕ)) → AreOwn asked writes → text_behind name writes text ≡ text
    stays [] text own = refl
    stays (w ∷ writes) text own = stays writes (text_after name w text) own.1 ∙ one-stays w text own.0

    done-stays : (writes : List Write) (o : Outputs) → AreOwn asked writes → AreDone writes o → o.now_written name ≡ o.written name
    done-stays writes o own done = done.texts name ∙ stays writes (o.written name) own

    -- the texts under other names stay
    pub others-stay : (o : Outputs) (r : Outcome) → Leaves asked o r → o.now_written name ≡ o.written name
    others-stay o (outcome.Ended ending) is =
        let l = is.listed in
        done-stays (opening asked l.portions ++ texts asked l.portions l.rest l.ending l.runs ++ print_piece (ending_line l.ending
        (length (found_of asked l.portions))) ∷ [])
        o (own-due l.form _ (whole l.portions l.rest l.ending l.runs l.is_ended l.are_runs)) l.done
    others-stay o outcome.Failed is =
        done-stays (take is.stops.count is.due ++ is.stops.part) o
        (own-append (take is.stops.count is.due) is.stops.part (own-take is.stops.count is.due (own-due is.form is.due is.is_due))
        (own-part is.stops.failed is.stops.part is.stops.is_part (own-at is.due is.stops.count is.stops.failed is.stops.at
        (own-due is.form is.due is.is_due))))
        is.stops.done
    others-stay o outcome.Memory is = at is.done
      where
        at : AreDone (short is.count is.body) o ⊎ AreDone (take is.count is.body) o → o.now_written name ≡ o.written name
        at (inl line) = done-stays (short is.count is.body) o (own-due is.form _ (wanting is.body is.count is.is_body is.within)) line
        at (inr none) = done-stays (take is.count is.body) o (own-take is.count is.body (own-body is.form is.body is.is_body)) none

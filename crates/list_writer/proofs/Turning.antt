-- The turns of a search: what is known behind each of them, and where it ends.
use Rattle.std.proofs.Common.{◌≡◌, inl, inr, ℕ, zero, suc, ◌+◌, ◌<◌, ◌≤◌, Bool, true, false, List, [], ◌∷◌, ◌++◌, length, take, drop}
use Rattle.std.proofs.Common.{Option, Some, None, refl, ap, sym, ◌∙◌, subst, arith}
use Rattle.std.specs.Prelude.{All, cond, count_by, Ok, Err}
use Rattle.std.proofs.lemmas.List.{append-nil, length-append, length_push, take_all}
use Rattle.std.proofs.lemmas.List.Sums.{sum_by-append}
use Rattle.std.proofs.Math.Seq.{take-append-add}
use Rattle.design_core.specs.declared.values.SetWithValues.{SetWithValues}
use Rattle.sat_core.specs.Outcome.{is_learned}
use Rattle.sat_core.specs.SolverState.{blocks_of}
use Rattle.report_doc.specs.declared.types.Ending.{Ending}
use Rattle.report_doc.specs.declared.types.Ending.TheVariants.{Complete, Budget, Sets, Earlier}
use Rattle.write_order.specs.Writes.{AreBegun, AreDone, Outputs, StopsIn, Write, put_piece, print_piece}
use Rattle.write_order.proofs.Carried.{done-then, stops-then}
use Rattle.debug_core.specs.Debugging.{DebugState, FindsEnd, FindsNothing, FindsSet}
use Rattle.debug_core.specs.Debugging.{HasRoom, IsDebugger, Searches}
use Rattle.debug_core.proofs.Rooms.{has-room}
use Rattle.list_writer.specs.declared.stop.Stop.{Stop}
use Rattle.list_writer.specs.declared.stop.Stop.TheVariants.{Failed, Memory}
use Rattle.list_writer.specs.Asked.{Asked, most_sets}
use Rattle.list_writer.specs.Found.{IsShown, Portion}
use Rattle.list_writer.specs.Jobs.{GoesWith}
use Rattle.log_portions.specs.Portions.{steps_text}
use Rattle.list_writer.specs.Texts.{lines_of}
use Rattle.list_writer.specs.Due.{prints, set_writes}
use Rattle.list_writer.specs.Lines.{ending_status}
use Rattle.list_writer.specs.Saving.{StopsBehind}
use Rattle.list_writer.specs.Going.{AreCut, CutsTurn, FailsTurn, GoesOn, HasEnded, IsGoing, IsSearched, IsTurn}
use Rattle.list_writer.specs.Going.{EndsTurn, Rests, SearchCut, SearchEnds, SearchFails, SearchGoes, TakesSet, Turn, Turns, WaitsTurn}
use Rattle.list_writer.specs.Going.{outputs, searched_of, sets_writes, turn_of, searching, takes, waits, writing}
use Rattle.list_writer.proofs.SoFar.{drop-whole, enough, found-in-new, grown, has-ended, is-spent, is-whole, listed-first, log-first, many, many-sets}
use Rattle.list_writer.proofs.SoFar.{none-own, nothing-found, one-more, own-learned, prints-sets, waited}

-- ---- a turn
-- what stands under names
abbrev Texts : Type 0
Texts = List ℕ → Option (List ℕ)

-- before a turn, and a turn
module _ (asked : Asked) (old new : DebugState) (found now_found : List SetWithValues) (steps now_steps left now_left : ℕ)
    (was mid is : Texts) (printed mid_printed now_printed : List ℕ) (told now_told : Bool) (same : now_told ≡ told)
    (before : SearchGoes asked old found steps left (outputs was mid printed mid_printed) told) where
  abbrev turn : Turn
  turn = turn_of asked old new (record { found = found; steps = steps; left = left })
      (record { found = now_found; steps = now_steps; left = now_left }) (outputs mid is mid_printed now_printed) now_told

  going : IsGoing asked old found steps left before.portions
  going = before.going

  -- with a set that was found
  module _ (holds : IsDebugger new) (searches : Searches old new left now_left) (set : SetWithValues) (finds : FindsSet old new set) where
    more-going : IsGoing asked new (found ++ set ∷ []) (length new.log) now_left
        (before.portions ++ record { steps = drop steps new.log; set = set } ∷ [])
    more-going = grown asked old found steps left before.portions before.going new now_left holds searches set finds

  taken-on : (holds : IsDebugger new) (searches : Searches old new left now_left) → TakesSet turn
      → SearchGoes asked new now_found now_steps now_left (outputs was is printed now_printed) told
  taken-on holds searches t =
      let portion : Portion = record { steps = drop steps new.log; set = t.set } in
      record {
        portions = before.portions ++ portion ∷ [];
        going = subst (λ (n : ℕ). IsGoing asked new now_found n now_left (before.portions ++ portion ∷ [])) (sym t.steps_are)
            (subst (λ (f : List SetWithValues). IsGoing asked new f (length new.log) now_left (before.portions ++ portion ∷ []))
            (sym t.kept)
            (more-going holds searches t.set t.finds));
        done = λ tells.
            subst (λ (ws : List Write). AreDone ws (outputs was is printed now_printed)) (sym (one-more asked before.portions portion))
            (done-then (sets_writes asked before.portions) (set_writes asked portion) was mid is printed mid_printed now_printed
            (before.done tells) (t.done (same ∙ tells)));
      }

  -- nothing more was written
  rests-done : (t : Rests turn) → told ≡ true → AreDone (sets_writes asked before.portions) (outputs was is printed now_printed)
  rests-done t tells =
      subst (λ (ws : List Write). AreDone ws (outputs was is printed now_printed)) (append-nil (sets_writes asked before.portions))
      (done-then (sets_writes asked before.portions) [] was mid is printed mid_printed now_printed (before.done tells) (t.done (same
      ∙ tells)))

  waited-on : (holds : IsDebugger new) (searches : Searches old new left now_left) → WaitsTurn turn
      → SearchGoes asked new now_found now_steps now_left (outputs was is printed now_printed) told
  waited-on holds searches t = record {
    portions = before.portions;
    going = subst (λ (n : ℕ). IsGoing asked new now_found n now_left before.portions) (sym t.rests.steps_are)
        (subst (λ (f : List SetWithValues). IsGoing asked new f steps now_left before.portions) (sym t.rests.kept)
        (waited asked old found steps left before.portions before.going new now_left holds searches t.finds.listed t.finds.goes_on));
    done = rests-done t.rests;
  }

  pub goes-on : IsTurn turn (Ok None) → SearchGoes asked new now_found now_steps now_left (outputs was is printed now_printed) told
  goes-on t = at t.answer
    where
      at : GoesOn turn → SearchGoes asked new now_found now_steps now_left (outputs was is printed now_printed) told
      at (takes set) = taken-on t.holds t.searches set
      at (waits nothing) = waited-on t.holds t.searches nothing

  -- the search ended
  rests-ended : (ending : Ending) (t : Rests turn) → HasEnded asked new found steps ending before.portions
      → SearchEnds (searched_of asked new now_found now_steps (outputs was is printed now_printed) told) ending
  rests-ended ending t ended = record {
    portions = before.portions;
    ended = subst (λ (n : ℕ). HasEnded asked new now_found n ending before.portions) (sym t.steps_are)
        (subst (λ (f : List SetWithValues). HasEnded asked new f steps ending before.portions) (sym t.kept) ended);
    done = rests-done t;
  }

  pub ends : (ending : Ending) → length found < most_sets asked → IsTurn turn (Ok (Some ending))
      → SearchEnds (searched_of asked new now_found now_steps (outputs was is printed now_printed) told) ending
  ends Complete few t =
      let says : FindsEnd old new × Rests turn = t.answer in
      rests-ended Complete says.1 (has-ended asked old found steps left before.portions before.going new now_left t.holds t.searches
      says.0.listed Complete
      (is-whole asked old found steps left before.portions before.going new now_left t.holds t.searches says.0.listed says.0.ended few))
  ends Budget few t =
      let says : (now_left ≡ 0) × FindsNothing old new × Rests turn = t.answer in
      rests-ended Budget says.2 (has-ended asked old found steps left before.portions before.going new now_left t.holds t.searches
      says.1.listed Budget
      (is-spent asked old found steps left before.portions before.going new now_left t.holds t.searches says.1.listed says.0 few))
  ends Sets few t = absurd t.answer
  ends Earlier few t = absurd t.answer

  pub fails : IsTurn turn (Err Failed) → SearchFails (searched_of asked new now_found now_steps (outputs was is printed now_printed) told)
  fails t =
      let failed : FailsTurn turn = t.answer in
      let portion : Portion = record { steps = drop steps new.log; set = failed.set } in
      record {
        portions = before.portions ++ portion ∷ [];
        found = (more-going t.holds t.searches failed.set failed.finds).so_far;
        stops = λ tells.
            subst (λ (ws : List Write). StopsIn ws (outputs was is printed now_printed)) (sym (one-more asked before.portions portion))
            (stops-then (sets_writes asked before.portions) (set_writes asked portion) was mid is printed mid_printed now_printed
            (before.done tells) (failed.stops (same ∙ tells)));
      }

  add-nothing : (n : ℕ) → n + 0 ≡ n
  add-nothing n = omega arith

  -- the first writes of a set print nothing
  none-printed : (log : List ℕ) (text lines : List ℕ) (c : ℕ) → c < 2 → count_by prints (take c
      (put_piece log text ∷ print_piece lines ∷ [])) ≡ 0
  none-printed log text lines zero few = refl
  none-printed log text lines (suc zero) few = refl
  none-printed log text lines (suc (suc c)) few = absurd (omega (arith, few))

  count-before : length asked.session.sets + length before.portions ≡ length found
  count-before = many asked old found steps left before.portions before.going

  abbrev writes : List Write
  writes = sets_writes asked before.portions

  -- the sets of the session
  abbrev before-them : ℕ
  before-them = length asked.session.sets

  pub cut : (sets : Option ℕ) → IsTurn turn (Err (Memory sets))
      → SearchCut (searched_of asked new now_found now_steps (outputs was is printed now_printed) told) sets
  cut sets t = at t.answer.1
    where
      nothing-more : AreDone [] (outputs mid is mid_printed now_printed) → AreDone writes (outputs was mid printed mid_printed)
          → AreCut before-them writes sets (outputs was is printed now_printed)
      nothing-more rests done = record {
        count = length writes;
        within = omega arith;
        sets_are = t.answer.0
            ∙ ap Some (sym (ap (λ (n : ℕ). before-them + n) (ap (count_by prints) (take_all (length writes) writes (omega arith))
            ∙ prints-sets asked before.portions) ∙ count-before));
        done = subst (λ (ws : List Write). AreDone ws (outputs was is printed now_printed))
            (append-nil writes ∙ sym (take_all (length writes) writes (omega arith)))
            (done-then writes [] was mid is printed mid_printed now_printed done rests);
      }

      some-more : (portion : Portion) → AreBegun (set_writes asked portion) (outputs mid is mid_printed now_printed)
          → AreDone writes (outputs was mid printed mid_printed)
          → AreCut before-them (sets_writes asked (before.portions ++ portion ∷ [])) sets (outputs was is printed now_printed)
      some-more portion part done =
          subst (λ (ws : List Write). AreCut before-them ws sets (outputs was is printed now_printed)) (sym (one-more asked before.portions portion))
          (record {
            count = length writes + part.count;
            within = omega (arith, length-append writes (set_writes asked portion), part.within);
            sets_are = t.answer.0 ∙ ap Some (sym (ap (λ (n : ℕ). before-them + n) (
                ap (count_by prints) (take-append-add writes (set_writes asked portion) part.count)
                ∙ sum_by-append (λ w. cond (prints w) 1 0) writes (take part.count (set_writes asked portion))
                ∙ ap (λ (n : ℕ). count_by prints writes + n)
                (none-printed asked.log (steps_text portion.steps) (lines_of asked portion.set) part.count part.within)
                ∙ add-nothing (count_by prints writes) ∙ prints-sets asked before.portions) ∙ count-before));
            done = subst (λ (ws : List Write). AreDone ws (outputs was is printed now_printed))
                (sym (take-append-add writes (set_writes asked portion) part.count))
                (done-then writes (take part.count (set_writes asked portion)) was mid is printed mid_printed now_printed done part.done);
          })

      at : CutsTurn turn → SearchCut (searched_of asked new now_found now_steps (outputs was is printed now_printed) told) sets
      at (searching nothing done) = record {
        portions = before.portions;
        found = found-in-new asked old found steps left before.portions before.going new now_left t.holds t.searches;
        cut = λ tells. nothing-more (done (same ∙ tells)) (before.done tells);
      }
      at (writing set finds begun) = record {
        portions = before.portions ++ record { steps = drop steps new.log; set = set } ∷ [];
        found = (more-going t.holds t.searches set finds).so_far;
        cut = λ tells. some-more (record { steps = drop steps new.log; set = set }) (begun (same ∙ tells)) (before.done tells);
      }

  pub errs : (why : Stop) → IsTurn turn (Err why)
      → IsSearched (searched_of asked new now_found now_steps (outputs was is printed now_printed) told) (Err why)
  errs Failed t = record { holds = t.holds; problem = t.searches.problem ∙ before.going.problem; answer = inl (fails t) }
  errs (Memory sets) t = record { holds = t.holds; problem = t.searches.problem ∙ before.going.problem; answer = cut sets t }

  pub ends-searched : (ending : Ending) → length found < most_sets asked → IsTurn turn (Ok (Some ending))
      → IsSearched (searched_of asked new now_found now_steps (outputs was is printed now_printed) told) (Ok ending)
  ends-searched ending few t = record { holds = t.holds; problem = t.searches.problem ∙ before.going.problem; answer = ends ending few t }

  -- one set more is kept, or as many, and with each turn there is a set more or a unit less
  pub one-kept : IsTurn turn (Ok None) → (length now_found ≤ length found + 1) × (length found + now_left < length now_found + left)
  one-kept t = at t.answer
    where
      at : GoesOn turn → (length now_found ≤ length found + 1) × (length found + now_left < length now_found + left)
      at (takes set) =
          let kept : length now_found ≡ length found + 1 = ap length set.kept ∙ length_push found set.set in
          (omega (arith, kept), omega (arith, kept, t.searches.units))
      at (waits nothing) =
          let kept : length now_found ≡ length found = ap length nothing.rests.kept in
          (omega (arith, kept), omega (arith, kept, nothing.fewer))

-- where the search ends before the list is whole, it isn't at its end
pub ends-open : (t : Turn) (o : Option Ending) (ending : Ending) → o ≡ Some ending → Turns t (Ok o) → ending_status ending ≡ 1
    → t.new.ended ≡ false
ends-open t None ending is answer front = cc
ends-open t (Some how) ending is answer front = at how answer (ap ending_status (inner is) ∙ front)
  where
    inner : Some how ≡ Some ending → how ≡ ending
    inner e = cc

    at : (e : Ending) → EndsTurn t e → ending_status e ≡ 1 → t.new.ended ≡ false
    at Complete says one = absurd (omega (arith, one))
    at Budget says one = says.1.goes_on
    at Sets says one = absurd says
    at Earlier says one = absurd says

-- ---- the first turn and the last
module _ (asked : Asked) (s : DebugState) (found : List SetWithValues) (steps left : ℕ) where
  pub starts : IsDebugger s → GoesWith asked.problem asked.session s → All (IsShown asked.problem) asked.session.sets
      → found ≡ asked.session.sets → steps ≡ length s.log → left ≡ asked.budget
      → (written : Texts) (printed : List ℕ) (told : Bool) → SearchGoes asked s found steps left
      (outputs written written printed printed) told
  starts holds goes shown same first units written printed told = record {
    portions = [];
    going = record {
      holds = holds;
      problem = goes.problem;
      found_are = same ∙ sym (append-nil asked.session.sets);
      listed = listed-first asked s goes;
      within = omega (arith, first);
      written = ap (λ (n : ℕ). take n s.log) first ∙ take_all (length s.log) s.log (omega arith) ∙ log-first asked s goes;
      no_block = ap (λ (n : ℕ). blocks_of (drop n s.log)) first ∙ ap blocks_of (drop-whole s.log);
      shown = subst (All (IsShown asked.problem)) (sym same) shown;
      so_far = nothing-found asked s goes holds shown;
      units = omega (arith, ap (count_by is_learned) (none-own asked s goes), units);
      goes_on = goes.goes_on;
      unfinished = goes.unfinished;
      imported = goes.imported;
    };
    done = λ tells. record { texts = λ name. refl; printed = sym (append-nil printed) };
  }

  module _ (o : Outputs) (told : Bool) (goes : SearchGoes asked s found steps left o told) where
    pub room : length asked.session.log + length asked.session.sets + asked.budget + asked.sets ≤ 4000000000
        → length found ≤ most_sets asked → HasRoom s left
    room few low =
        has-room s goes.going.holds goes.going.unfinished left (omega (
          arith,
          few,
          low,
          goes.going.units,
          own-learned asked s goes.going.imported,
          goes.going.imported,
          ap length goes.going.listed,
          many-sets asked s found steps left goes.portions goes.going,
        ))

    pub exits : most_sets asked ≤ length found → length found ≤ most_sets asked
        → IsSearched (searched_of asked s found steps o told) (Ok Sets)
    exits low high = record {
      holds = goes.going.holds;
      problem = goes.going.problem;
      answer = record {
        portions = goes.portions;
        ended = enough asked s found steps left goes.portions goes.going low high;
        done = goes.done;
      };
    }

    -- a checkpoint failed, or memory was wanted for it
    save-cut : (sets : Option ℕ) → (told ≡ true → sets ≡ Some (length found)) → SearchCut (searched_of asked s found steps o told) sets
    save-cut sets same =
        let writes : List Write = sets_writes asked goes.portions in
        let all : take (length writes) writes ≡ writes = take_all (length writes) writes (omega arith) in
        record {
          portions = goes.portions;
          found = goes.going.so_far;
          cut = λ tells. record {
            count = length writes;
            within = omega arith;
            sets_are = same tells ∙ ap Some (sym (ap (λ (n : ℕ). length asked.session.sets + n) (ap (count_by prints) all
                ∙ prints-sets asked goes.portions) ∙ many asked s found steps left goes.portions goes.going));
            done = subst (λ (ws : List Write). AreDone ws o) (sym all) (goes.done tells);
          };
        }

    pub save-errs : (why : Stop) → (told ≡ true → StopsBehind (length found) why)
        → IsSearched (searched_of asked s found steps o told) (Err why)
    save-errs Failed short = record {
      holds = goes.going.holds;
      problem = goes.going.problem;
      answer = inr (record { portions = goes.portions; found = goes.going.so_far; done = goes.done });
    }
    save-errs (Memory sets) short = record { holds = goes.going.holds; problem = goes.going.problem; answer = save-cut sets short }

-- the same where what is written stays
pub goes-still : (asked : Asked) (s : DebugState) (found : List SetWithValues) (steps left : ℕ) (was mid is : Texts) (printed now_printed : List ℕ)
    (told : Bool) → SearchGoes asked s found steps left (outputs was mid printed now_printed) told
    → (told ≡ true → (name : List ℕ) → is name ≡ mid name) → SearchGoes asked s found steps left (outputs was is printed now_printed) told
goes-still asked s found steps left was mid is printed now_printed told goes same = record {
  portions = goes.portions;
  going = goes.going;
  done = λ tells. record { texts = λ name. same tells name ∙ (goes.done tells).texts name; printed = (goes.done tells).printed };
}

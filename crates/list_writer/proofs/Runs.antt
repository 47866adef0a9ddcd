-- A listing as a whole: what stands where one of its writes fails, where memory is wanted, and at its end.
use Rattle.std.proofs.Common.{◌≡◌, ◌⊎◌, inl, inr, ℕ, ◌+◌, ◌<◌, ◌≤◌, ◌^◌}
use Rattle.std.proofs.Common.{Bool, true, List, [], ◌∷◌, ◌++◌, length, take, drop}
use Rattle.std.proofs.Common.{Option, Some, Result, Ok, Err, refl, ap, sym, ◌∙◌, subst, arith, append_assoc}
use Rattle.std.specs.Prelude.{OnOk, cond, count_by}
use Rattle.std.proofs.lemmas.List.{append-nil, length-append, take-append-le, take_all}
use Rattle.std.proofs.lemmas.List.Sums.{sum_by-append}
use Rattle.std.proofs.Math.Seq.{take-append-add}
use Rattle.clause_base.specs.declared.log.Step.{Step}
use Rattle.design_core.specs.declared.values.SetWithValues.{SetWithValues}
use Rattle.report_doc.specs.declared.types.Ending.{Ending}
use Rattle.report_doc.specs.declared.types.Ending.TheVariants.{Budget}
use Rattle.report_doc.specs.Shape.{IsReport}
use Rattle.write_order.specs.declared.write.WriteErr.{WriteErr}
use Rattle.write_order.specs.declared.write.WriteErr.TheVariants as write
use Rattle.command_contract.specs.Contract.{Counts, NoneRose}
use Rattle.io_ports.specs.Faults.{FaultCounts}
use Rattle.write_order.specs.Writes.{AreBegun, AreDone, Leaves, Outputs, StopsIn, Write, WriteCause, print_piece}
use Rattle.write_order.proofs.Carried.{done-then, stops-then}
use Rattle.debug_core.specs.Debugging.{DebugState, IsDebugger}
use Rattle.debug_core.specs.Problems.{IsFormFor, Problem}
use Rattle.list_writer.specs.declared.outcome.Outcome.{Outcome}
use Rattle.list_writer.specs.declared.outcome.Outcome.TheVariants as outcome
use Rattle.list_writer.specs.declared.stop.Stop.{Stop}
use Rattle.list_writer.specs.declared.stop.Stop.TheVariants.{Failed, Memory}
use Rattle.list_writer.specs.Asked.{Asked}
use Rattle.list_writer.specs.Found.{EndsAs, IsEnded, Portion, found_of}
use Rattle.list_writer.specs.Lines.{ending_line, memory_line}
use Rattle.list_writer.specs.Due.{IsCut, IsListedTo, IsStopped, ended, going_on}
use Rattle.list_writer.specs.Due.{first_writes, opening, prints, sets_in, so_far, texts, wanting, whole}
use Rattle.list_writer.specs.Going.{AreCut, HasEnded, IsSearched, RunLeaves, SaveFails, SearchCut, SearchEnds}
use Rattle.list_writer.specs.Going.{SearchFails, Searched, StopCauses, StopsShort, TellsMemory, WriteCauses}
use Rattle.list_writer.specs.Going.{closing_writes, outputs, searched_of, sets_writes}
use Rattle.list_writer.specs.Outcomes.{Leaves as Ends}
use Rattle.list_writer.specs.Stops.{stopped}
use Rattle.list_writer.specs.Texts.{report_for, waved_for}
use Rattle.list_writer.proofs.Ended.{runs-of}
use Rattle.list_writer.proofs.Opening.{first-print}
use Rattle.list_writer.proofs.Silent.{AreSilent, silent-print, waves-silent}
use Rattle.list_writer.proofs.SoFar.{found-long, own-learned, prints-sets}
use Rattle.set_waves.specs.Waved.{AreRuns, Runs}

abbrev Texts : Type 0
Texts = List ℕ → Option (List ℕ)

-- ---- the search, and what stands behind it
module _ (asked : Asked) (s : DebugState) (found : List SetWithValues) (steps : ℕ) (holds : IsDebugger s)
    (problem : s.problem ≡ asked.problem)
    (was mid is : Texts) (printed mid_printed now_printed : List ℕ) (told : Bool) (tells : told ≡ true)
    (before : AreDone (first_writes asked) (outputs was mid printed mid_printed)) where
  is-form-here : IsFormFor asked.problem s.vars s.form
  is-form-here = subst (λ (p : Problem). IsFormFor p s.vars s.form) problem holds.form

  abbrev e : Searched
  e = searched_of asked s found steps (outputs mid is mid_printed now_printed) told

  -- where a checkpoint failed, it is as where the next write fails before any of it is written
  not-begun : (piece : List ℕ) → StopsIn (print_piece piece ∷ []) (outputs is is now_printed now_printed)
  not-begun piece = record {
    count = 0;
    failed = print_piece piece;
    at = refl;
    part = print_piece [] ∷ [];
    is_part = (0, refl);
    done = record { texts = λ name. refl; printed = sym (append-nil now_printed) };
  }

  save-stops : SaveFails e → IsStopped asked (outputs was is printed now_printed)
  save-stops failed =
      let body : List Write = opening asked failed.portions in
      let all : take (length body) body ≡ body = take_all (length body) body (omega arith) in
      let line : List ℕ = memory_line (sets_in (take (length body) body)) in
      record {
        vars = s.vars;
        form = s.form;
        is_form = is-form-here;
        due = take (length body) body ++ print_piece line ∷ [];
        is_due = wanting body (length body) (going_on failed.portions failed.found) (omega arith);
        stops = stops-then (take (length body) body) (print_piece line ∷ []) was is is printed now_printed now_printed
            (subst (λ (ws : List Write). AreDone ws (outputs was is printed now_printed)) (sym all)
            (done-then (first_writes asked) (sets_writes asked failed.portions) was mid is printed mid_printed now_printed before
            (failed.done tells)))
            (not-begun line);
      }

  pub search-stops : SearchFails e ⊎ SaveFails e → IsStopped asked (outputs was is printed now_printed)
  search-stops (inr failed) = save-stops failed
  search-stops (inl failed) = record {
    vars = s.vars;
    form = s.form;
    is_form = is-form-here;
    due = opening asked failed.portions;
    is_due = so_far failed.portions failed.found;
    stops = stops-then (first_writes asked) (sets_writes asked failed.portions) was mid is printed mid_printed now_printed before
        (failed.stops tells);
  }

  pub search-short : (sets : Option ℕ) → SearchCut e sets → StopsShort asked sets (outputs was is printed now_printed)
  search-short sets short = at (short.cut tells)
    where
      at : AreCut (length asked.session.sets) (sets_writes asked short.portions) sets (outputs mid is mid_printed now_printed) → StopsShort asked sets
          (outputs was is printed now_printed)
      at cut = record {
        vars = s.vars;
        form = s.form;
        is_form = is-form-here;
        body = opening asked short.portions;
        is_body = going_on short.portions short.found;
        count = length (first_writes asked) + cut.count;
        within = omega (arith, length-append (first_writes asked) (sets_writes asked short.portions), cut.within);
        sets_are = cut.sets_are ∙ ap Some (sym (first-print asked (take cut.count (sets_writes asked short.portions))))
            ∙ ap sets_in (sym (take-append-add (first_writes asked) (sets_writes asked short.portions) cut.count));
        done = subst (λ (ws : List Write). AreDone ws (outputs was is printed now_printed)) (sym (take-append-add (first_writes asked)
            (sets_writes asked short.portions) cut.count))
            (done-then (first_writes asked) (take cut.count
            (sets_writes asked short.portions)) was mid is printed mid_printed now_printed before cut.done);
      }

  -- all sets are written
  pub search-done : (ending : Ending) (ends : SearchEnds e ending) → AreDone (opening asked ends.portions)
      (outputs was is printed now_printed)
  search-done ending ends = done-then (first_writes asked)
      (sets_writes asked ends.portions) was mid is printed mid_printed now_printed before (ends.done tells)

module _ (asked : Asked) (s : DebugState) (found : List SetWithValues) (steps : ℕ) (ending : Ending) (portions : List Portion)
    (has : HasEnded asked s found steps ending portions) where
  is-form-there : IsFormFor asked.problem s.vars s.form
  is-form-there = subst (λ (p : Problem). IsFormFor p s.vars s.form) has.problem has.holds.form

  many-there : length asked.session.sets + length portions ≡ length found
  many-there = sym (ap length has.found_are ∙ found-long asked portions)

  opening-prints : count_by prints (opening asked portions) ≡ length found
  opening-prints =
      first-print asked (sets_writes asked portions)
      ∙ ap (λ (n : ℕ). length asked.session.sets + n) (prints-sets asked portions) ∙ many-there

  -- memory was wanted for the check of the log
  pub check-short : (o : Outputs) → AreDone (opening asked portions) o → StopsShort asked (Some (length found)) o
  check-short o done = record {
    vars = s.vars;
    form = s.form;
    is_form = is-form-there;
    body = opening asked portions;
    is_body = going_on portions has.so_far;
    count = length (opening asked portions);
    within = omega arith;
    sets_are = ap Some (sym opening-prints) ∙ ap sets_in (sym (take_all (length (opening asked portions)) (opening asked portions)
        (omega arith)));
    done = subst (λ (ws : List Write). AreDone ws o) (sym (take_all (length (opening asked portions)) (opening asked portions)
        (omega arith))) done;
  }

  module _ (is-ended : IsEnded asked s.form portions (drop steps s.log) ending) (runs : Runs)
      (are : AreRuns (waved_for asked) (found_of asked portions) runs) where
    abbrev rest : List Step
    rest = drop steps s.log

    abbrev last : List Write
    last = print_piece (ending_line ending (length (found_of asked portions))) ∷ []

    closing-is : closing_writes asked found rest ending runs ≡ texts asked portions rest ending runs ++ last
    closing-is = ap (λ (f : List SetWithValues). closing_writes asked f rest ending runs) has.found_are

    module _ (was mid is : Texts) (printed mid_printed now_printed : List ℕ)
        (before : AreDone (opening asked portions) (outputs was mid printed mid_printed)) where
      abbrev o : Outputs
      o = outputs was is printed now_printed

      all-written : opening asked portions ++ closing_writes asked found rest ending runs ≡
          (opening asked portions ++ texts asked portions rest ending runs) ++ last
      all-written =
          ap (λ (ws : List Write). opening asked portions ++ ws) closing-is
          ∙ sym (append_assoc (opening asked portions) (texts asked portions rest ending runs) last)

      is-spent : ending ≡ Budget → asked.budget < 3 ^ s.vars
      is-spent same =
          let spent : EndsAs asked portions s.log Budget = subst (EndsAs asked portions s.log) same has.ends in
          subst (λ (n : ℕ). n < 3 ^ s.vars) (own-learned asked s has.imported ∙ spent.0) has.holds.few_learned

      pub close-done : IsReport (report_for asked (found_of asked portions) ending)
          → AreDone (closing_writes asked found rest ending runs) (outputs mid is mid_printed now_printed) → IsListedTo asked o ending
      close-done report done = record {
        listed = record {
          vars = s.vars;
          form = s.form;
          is_form = is-form-there;
          portions = portions;
          rest = rest;
          ending = ending;
          is_ended = is-ended;
          has_status = refl;
          is_spent = is-spent;
          is_report = report;
          runs = runs;
          are_runs = are;
          done = subst (λ (ws : List Write). AreDone ws o) all-written
              (done-then (opening asked portions)
              (closing_writes asked found rest ending runs) was mid is printed mid_printed now_printed before done);
        };
        is = refl;
      }

      pub close-stops : StopsIn (closing_writes asked found rest ending runs) (outputs mid is mid_printed now_printed) → IsStopped asked o
      close-stops stop = record {
        vars = s.vars;
        form = s.form;
        is_form = is-form-there;
        due = (opening asked portions ++ texts asked portions rest ending runs) ++ last;
        is_due = whole portions rest ending runs is-ended are;
        stops = subst (λ (ws : List Write). StopsIn ws o) all-written
            (stops-then (opening asked portions)
            (closing_writes asked found rest ending runs) was mid is printed mid_printed now_printed before stop);
      }

      -- the writes behind the search that stand before the last line print nothing
      texts-silent : AreSilent (texts asked portions rest ending runs)
      texts-silent = (refl, (refl, (refl, waves-silent asked (found_of asked portions) runs)))

      pub close-short : AreBegun (closing_writes asked found rest ending runs) (outputs mid is mid_printed now_printed)
          → StopsShort asked (Some (length found)) o
      close-short begun = at begun.count (omega (arith, begun.within, few-writes)) begun.done
        where
          few-writes : length (closing_writes asked found rest ending runs) ≡ length (texts asked portions rest ending runs) + 1
          few-writes = ap length closing-is ∙ length-append (texts asked portions rest ending runs) last

          at : (c : ℕ) → c ≤ length (texts asked portions rest ending runs)
              → AreDone (take c (closing_writes asked found rest ending runs)) (outputs mid is mid_printed now_printed)
              → StopsShort asked (Some (length found)) o
          at c few done = record {
            vars = s.vars;
            form = s.form;
            is_form = is-form-there;
            body = opening asked portions ++ texts asked portions rest ending runs;
            is_body = ended portions rest ending runs is-ended are;
            count = length (opening asked portions) + c;
            within = omega (arith, length-append (opening asked portions) (texts asked portions rest ending runs), few);
            sets_are = ap Some (sym (
                sum_by-append (λ w. cond (prints w) 1 0) (opening asked portions) (take c (texts asked portions rest ending runs))
                ∙ ap (λ (n : ℕ). count_by prints (opening asked portions) + n)
                (silent-print (texts asked portions rest ending runs) texts-silent c)
                ∙ plus-nothing (count_by prints (opening asked portions)) ∙ opening-prints))
                ∙ ap sets_in (sym (take-append-add (opening asked portions) (texts asked portions rest ending runs) c));
            done = subst (λ (ws : List Write). AreDone ws o) (sym (take-append-add (opening asked portions)
                (texts asked portions rest ending runs) c))
                (done-then (opening asked portions) (take c
                (texts asked portions rest ending runs)) was mid is printed mid_printed now_printed before
                (subst (λ (ws : List Write). AreDone ws (outputs mid is mid_printed now_printed))
                (ap (take c) closing-is ∙ take-append-le c (texts asked portions rest ending runs) last few) done));
          }
            where
              plus-nothing : (n : ℕ) → n + 0 ≡ n
              plus-nothing n = omega arith

-- ---- the line that says that memory was wanted
module _ (asked : Asked) (sets : Option ℕ) (was mid : Texts) (printed mid_printed now_printed : List ℕ)
    (short : StopsShort asked sets (outputs was mid printed mid_printed)) where
  abbrev writes : List Write
  writes = take short.count short.body

  line-same : writes ++ print_piece (memory_line sets) ∷ [] ≡ writes ++ print_piece (memory_line (sets_in writes)) ∷ []
  line-same = ap (λ (n : Option ℕ). writes ++ print_piece (memory_line n) ∷ []) short.sets_are

  pub memory-ends : (r : Outcome) → TellsMemory sets (outputs mid mid mid_printed now_printed) r → Ends asked
      (outputs was mid printed now_printed) r
  memory-ends (outcome.Ended ending) says = absurd says
  memory-ends outcome.Failed stop = record {
    vars = short.vars;
    form = short.form;
    is_form = short.is_form;
    due = writes ++ print_piece (memory_line (sets_in writes)) ∷ [];
    is_due = wanting short.body short.count short.is_body short.within;
    stops = subst (λ (ws : List Write). StopsIn ws (outputs was mid printed now_printed)) line-same
        (stops-then writes (print_piece (memory_line sets) ∷ []) was mid mid printed mid_printed now_printed short.done stop);
  }
  memory-ends outcome.Memory says = at says
    where
      cut-by : AreDone (writes ++ print_piece (memory_line (sets_in writes)) ∷ []) (outputs was mid printed now_printed)
          ⊎ AreDone writes (outputs was mid printed now_printed) → IsCut asked (outputs was mid printed now_printed)
      cut-by done = record {
        vars = short.vars;
        form = short.form;
        is_form = short.is_form;
        body = short.body;
        is_body = short.is_body;
        count = short.count;
        within = short.within;
        done = done;
      }

      at : AreDone (print_piece (memory_line sets) ∷ []) (outputs mid mid mid_printed now_printed) ⊎ AreDone []
          (outputs mid mid mid_printed now_printed)
          → IsCut asked (outputs was mid printed now_printed)
      at (inl line) = cut-by (inl (subst (λ (ws : List Write). AreDone ws (outputs was mid printed now_printed)) line-same
          (done-then writes (print_piece (memory_line sets) ∷ []) was mid mid printed mid_printed now_printed short.done line)))
      at (inr nothing) = cut-by (inr (subst (λ (ws : List Write). AreDone ws (outputs was mid printed now_printed)) (append-nil writes)
          (done-then writes [] was mid mid printed mid_printed now_printed short.done nothing)))

-- ---- what writes come to
stopped-failed : (asked : Asked) (o : Outputs) (why : Stop) → ◌≡◌ {A = Result (Unit {0}) Stop} (Err Failed) (Err why)
    → IsStopped asked o → RunLeaves asked o (Err why)
stopped-failed asked o Failed same is = is
stopped-failed asked o (Memory sets) same is = absurd (cc)

stopped-short : (asked : Asked) (o : Outputs) (sets : Option ℕ) (why : Stop)
    → ◌≡◌ {A = Result (Unit {0}) Stop} (Err (Memory sets)) (Err why) → StopsShort asked sets o → RunLeaves asked o (Err why)
stopped-short asked o sets Failed same is = absurd (cc)
stopped-short asked o sets (Memory more) same is = subst (λ n. StopsShort asked n o) (cc) is

pub stopped-ok : (writes : List Write) (o : Outputs) (r : Result (Unit {0}) WriteErr) (sets : Option ℕ) (x : Unit {0})
    → stopped r sets ≡ Ok x
    → Leaves writes o r → AreDone writes o
stopped-ok writes o (Ok y) sets x same left = left
stopped-ok writes o (Err write.Failed) sets x same left = absurd (cc)
stopped-ok writes o (Err write.NoMemory) sets x same left = absurd (cc)

pub stopped-on_ok : (P : Type 0) (r : Result (Unit {0}) WriteErr) (sets : Option ℕ) (x : Unit {0}) → stopped r sets ≡ Ok x → OnOk r P → P
stopped-on_ok P (Ok y) sets x same is = is
stopped-on_ok P (Err write.Failed) sets x same is = absurd (cc)
stopped-on_ok P (Err write.NoMemory) sets x same is = absurd (cc)

-- the counts of faults
pub stopped-same : (old new : FaultCounts) (r : Result (Unit {0}) WriteErr) (sets : Option ℕ) (x : Unit {0}) → stopped r sets ≡ Ok x
    → WriteCause old new r → new ≡ old
stopped-same old new (Ok y) sets x same cause = cause
stopped-same old new (Err write.Failed) sets x same cause = absurd (cc)
stopped-same old new (Err write.NoMemory) sets x same cause = absurd (cc)

pub stopped-none : (counts : Counts) (r : Result (Unit {0}) WriteErr) (sets : Option ℕ) (x : Unit {0}) → stopped r sets ≡ Ok x
    → WriteCauses counts r → NoneRose counts
stopped-none counts (Ok y) sets x same causes = causes
stopped-none counts (Err write.Failed) sets x same causes = absurd (cc)
stopped-none counts (Err write.NoMemory) sets x same causes = absurd (cc)

pub stopped-causes : (counts : Counts) (r : Result (Unit {0}) WriteErr) (sets : Option ℕ) (why : Stop) → stopped r sets ≡ Err why
    → WriteCauses counts r → StopCauses {X = Unit {0}} counts (Err why)
stopped-causes counts (Ok y) sets why same causes = absurd (cc)
stopped-causes counts (Err write.Failed) sets Failed same causes = causes
stopped-causes counts (Err write.Failed) sets (Memory n) same causes = absurd (cc)
stopped-causes counts (Err write.NoMemory) sets Failed same causes = absurd (cc)
stopped-causes counts (Err write.NoMemory) sets (Memory n) same causes = causes

-- the search stopped
pub search-stopped : (asked : Asked) (s : DebugState) (found : List SetWithValues) (steps : ℕ) (was mid is : Texts)
    (printed mid_printed now_printed : List ℕ)
    (told : Bool) → told ≡ true → AreDone (first_writes asked) (outputs was mid printed mid_printed) → (why : Stop)
    → IsSearched (searched_of asked s found steps (outputs mid is mid_printed now_printed) told) (Err why)
    → RunLeaves asked (outputs was is printed now_printed) (Err why)
search-stopped asked s found steps was mid is printed mid_printed now_printed told tells before Failed searched =
    search-stops asked s found steps searched.holds searched.problem was mid is printed mid_printed now_printed told tells before
    searched.answer
search-stopped asked s found steps was mid is printed mid_printed now_printed told tells before (Memory sets) searched =
    search-short asked s found steps searched.holds searched.problem was mid is printed mid_printed now_printed told tells before
    sets searched.answer

-- what stands behind the search was written, or not
module _ (asked : Asked) (s : DebugState) (found : List SetWithValues) (steps : ℕ) (ending : Ending) (portions : List Portion)
    (has : HasEnded asked s found steps ending portions) (is-ended : IsEnded asked s.form portions (drop steps s.log) ending)
    (runs : Runs) (are : AreRuns (waved_for asked) (found_of asked portions) runs)
    (was mid is : Texts) (printed mid_printed now_printed : List ℕ) (before : AreDone (opening asked portions)
    (outputs was mid printed mid_printed)) where
  pub close-stopped : (r : Result (Unit {0}) WriteErr) (why : Stop) → stopped r (Some (length found)) ≡ Err why
      → Leaves (closing_writes asked found (drop steps s.log) ending runs) (outputs mid is mid_printed now_printed) r
      → RunLeaves asked (outputs was is printed now_printed) (Err why)
  close-stopped (Ok x) why same left = absurd (cc)
  close-stopped (Err write.Failed) why same left =
      stopped-failed asked (outputs was is printed now_printed) why same
      (close-stops asked s found steps ending portions has is-ended runs are was mid is printed mid_printed now_printed before left)
  close-stopped (Err write.NoMemory) why same left =
      stopped-short asked (outputs was is printed now_printed) (Some (length found)) why same
      (close-short asked s found steps ending portions has is-ended runs are was mid is printed mid_printed now_printed before left)

-- ---- the end
module _ (asked : Asked) (s : DebugState) (found : List SetWithValues) (steps : ℕ) (ending : Ending) (portions : List Portion)
    (has : HasEnded asked s found steps ending portions) (is : IsEnded asked s.form portions (drop steps s.log) ending)
    (was mid now : Texts) (printed mid_printed now_printed : List ℕ)
    (before : AreDone (opening asked portions) (outputs was mid printed mid_printed)) (r : Result (Unit {0}) WriteErr)
    (left : (runs : Runs) → AreRuns (waved_for asked) found runs
    → Leaves (closing_writes asked found (drop steps s.log) ending runs) (outputs mid now mid_printed now_printed) r) where
  some : (runs : Runs) × AreRuns (waved_for asked) (found_of asked portions) runs
  some = runs-of asked s found steps ending portions has

  here : Leaves (closing_writes asked found (drop steps s.log) ending some.0) (outputs mid now mid_printed now_printed) r
  here = left some.0 (subst (λ (sets : List SetWithValues). AreRuns (waved_for asked) sets some.0) (sym has.found_are) some.1)

  -- a write behind the search failed, or memory was wanted for it
  pub closing-stopped : (why : Stop) → stopped r (Some (length found)) ≡ Err why
      → RunLeaves asked (outputs was now printed now_printed) (Err why)
  closing-stopped why same =
      close-stopped asked s found steps ending portions has is some.0 some.1 was mid now printed mid_printed now_printed before r why same here

  -- all are carried out
  pub closing-done : OnOk r (IsReport (report_for asked found ending)) → (x : Unit {0}) → stopped r (Some (length found)) ≡ Ok x
      → IsListedTo asked (outputs was now printed now_printed) ending
  closing-done report x same =
      close-done asked s found steps ending portions has is some.0 some.1 was mid now printed mid_printed now_printed before
      (subst (λ (sets : List SetWithValues). IsReport (report_for asked sets ending)) has.found_are
      (stopped-on_ok (IsReport (report_for asked found ending)) r (Some (length found)) x same report))
      (stopped-ok (closing_writes asked found (drop steps s.log) ending some.0) (outputs mid now mid_printed now_printed) r
      (Some (length found)) x same here)

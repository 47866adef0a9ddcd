-- What the steps of the last set's certificate leave of a listing that ended before its list was whole.
use Rattle.std.proofs.Common.{◌≡◌, ℕ, zero, suc, ◌+◌, ◌≤◌, Bool, false, cond, List, [], ◌∷◌, ◌++◌, length, map, take, drop}
use Rattle.std.proofs.Common.{Some, Ok, Err, Result, refl, ap, sym, ◌∙◌, subst, arith, append_assoc}
use Rattle.std.specs.Prelude.{All, OnOk, count_by, filter}
use Rattle.std.proofs.lemmas.List.{drop-append-le, length-append, length-take, take_all}
use Rattle.std.proofs.lemmas.List.Elements.{All-head, All-tail}
use Rattle.std.proofs.lemmas.List.Sums.{sum_by-append, sum_by-cons}
use Rattle.clause_base.specs.declared.log.Step.{Step}
use Rattle.clause_base.specs.declared.log.StepKind.TheVariants.{Derived}
use Rattle.clause_base.specs.Acceptance.{is_block, is_block_kind}
use Rattle.design_core.specs.declared.values.SetWithValues.{SetWithValues}
use Rattle.sat_core.specs.Outcome.{is_learned, is_learned_kind}
use Rattle.sat_core.specs.SolverState.{blocks_of}
use Rattle.report_doc.specs.declared.types.Ending.{Ending}
use Rattle.report_doc.specs.declared.types.Ending.TheVariants.{Complete, Budget, Sets, Earlier}
use Rattle.write_order.specs.Writes.{AreDone, Outputs, Write}
use Rattle.debug_core.specs.Debugging.{DebugState, FinishedSome, HasCountedLog, IsDebugger, with_appended}
use Rattle.debug_core.specs.Problems.{suspect_count}
use Rattle.debug_core.proofs.Counting.{few-certificate}
use Rattle.debug_core.proofs.Rooms.{few-steps}
use Rattle.list_writer.specs.declared.stop.Stop.TheVariants.{Memory}
use Rattle.list_writer.specs.Asked.{Asked}
use Rattle.list_writer.specs.Due.{prints}
use Rattle.list_writer.specs.Found.{AreFound, EndsAs, Portion, log_of, own_steps}
use Rattle.list_writer.specs.Going.{HasEnded, IsSearched, SearchEnds, searched_of, sets_writes}
use Rattle.list_writer.specs.Lines.{ending_status}
use Rattle.list_writer.proofs.SoFar.{found-long, own-learned, prints-sets}
use Rattle.list_writer.proofs.Steps.{blocks_of-append}

-- the first of some derived steps are no blocks, and none is learned
abbrev pub IsDerived : Step → Type 0
IsDerived step = step.kind ≡ Derived

pub derived-take : (steps : List Step) (count : ℕ) → All IsDerived steps → (blocks_of (take count steps) ≡ []) × (count_by is_learned (take count steps) ≡ 0)
derived-take [] zero derived = (refl, refl)
derived-take [] (suc count) derived = (refl, refl)
derived-take (step ∷ steps) zero derived = (refl, refl)
derived-take (step ∷ steps) (suc count) derived =
    let kind : step.kind ≡ Derived = All-head IsDerived step steps derived in
    let rest = derived-take steps count (All-tail IsDerived step steps derived) in
    let more : List Step = take count steps in (
      ap (λ (b : Bool). map (λ (s : Step). s.clause) (cond b (step ∷ filter is_block more) (filter is_block more))) (ap is_block_kind kind) ∙ rest.0,
      omega (arith, sum_by-cons (λ (s : Step). cond (is_learned s) 1 0) step more, ap {B = ℕ} (λ b. cond b 1 0) (ap is_learned_kind kind), rest.1),
    )

-- so many of the steps are appended
module _ (asked : Asked) (s new : DebugState) (found : List SetWithValues) (steps : ℕ) (ending : Ending) (portions : List Portion)
    (has : HasEnded asked s found steps ending portions) (count : ℕ) (within : count ≤ length s.certificate) (is : new ≡ with_appended s count) where
  abbrev more : List Step
  more = take count s.certificate

  log-is : new.log ≡ s.log ++ more
  log-is = ap (λ (d : DebugState). d.log) is

  none : (blocks_of more ≡ []) × (count_by is_learned more ≡ 0)
  none = derived-take s.certificate count (λ i d low. (has.holds.certified.kept i d low).derived.kind)

  session-before : length asked.session.log ≤ length s.log
  session-before = omega (arith, has.holds.session_within, has.imported)

  own-behind : own_steps asked new.log ≡ own_steps asked s.log ++ more
  own-behind = ap (own_steps asked) log-is ∙ drop-append-le (length asked.session.log) s.log more session-before

  learned : count_by is_learned (own_steps asked new.log) ≡ count_by is_learned (own_steps asked s.log)
  learned = omega (
    arith,
    ap (count_by is_learned) own-behind,
    sum_by-append (λ (x : Step). cond (is_learned x) 1 0) (own_steps asked s.log) more,
    none.1,
  )

  found-still : AreFound asked new.form portions
  found-still = subst (λ form. AreFound asked form portions) (sym (ap (λ (d : DebugState). d.form) is)) has.so_far

  problem-still : new.problem ≡ asked.problem
  problem-still = ap (λ (d : DebugState). d.problem) is ∙ has.problem

  listed-still : new.listed ≡ s.listed
  listed-still = ap (λ (d : DebugState). d.listed) is

  behind : drop steps new.log ≡ drop steps s.log ++ more
  behind = ap (drop steps) log-is ∙ drop-append-le steps s.log more has.within

  joined : log_of asked portions ++ drop steps new.log ≡ new.log
  joined =
      ap (λ (log : List Step). log_of asked portions ++ log) behind ∙ sym (append_assoc (log_of asked portions) (drop steps s.log) more)
      ∙ ap (λ (log : List Step). log ++ more) has.joined ∙ sym log-is

  no-block : blocks_of (drop steps new.log) ≡ []
  no-block =
      ap blocks_of behind ∙ blocks_of-append (drop steps s.log) more ∙ ap (λ bs. bs ++ blocks_of more) has.no_block ∙ none.0

  ends-still : (how : Ending) → ending_status how ≡ 1 → EndsAs asked portions s.log how → EndsAs asked portions new.log how
  ends-still Complete one ends = absurd (omega (arith, one))
  ends-still Budget one ends = (learned ∙ ends.0, ends.1)
  ends-still Sets one ends = ends
  ends-still Earlier one ends = ends

  longer : length new.log ≡ length s.log + length more
  longer = ap length log-is ∙ length-append s.log more

  few-more : length more ≤ suspect_count s.problem
  few-more = omega (arith, length-take count s.certificate, few-certificate s has.holds)

  module _ (unfinished : s.finished ≡ false) (front : ending_status ending ≡ 1) (holds : IsDebugger new) (counted : HasCountedLog new) where
    pub finished-ended : HasEnded asked new found steps ending portions
    finished-ended = record {
      holds = holds;
      problem = problem-still;
      found_are = has.found_are;
      listed = listed-still ∙ has.listed;
      shown = has.shown;
      so_far = found-still;
      within = omega (arith, has.within, longer);
      joined = joined;
      no_block = no-block;
      counted = counted;
      few = omega (
        arith,
        longer,
        few-more,
        few-steps s has.holds unfinished,
        own-learned asked s has.imported,
        has.imported,
        learned,
        ap length listed-still,
        ap (λ (d : DebugState). suspect_count d.problem) is,
      );
      within_budget = omega (arith, learned, has.within_budget);
      ends = ends-still ending front has.ends;
      imported = ap (λ (d : DebugState). d.imported) is ∙ has.imported;
    }

-- ---- what the search answers then
module _ (asked : Asked) (s new : DebugState) (found : List SetWithValues) (steps : ℕ) (ending : Ending) (o : Outputs) (told : Bool)
    (ends : SearchEnds (searched_of asked s found steps o told) ending) (holds : IsDebugger new) where
  -- the log is finished
  pub finished-searched : new ≡ with_appended s (length s.certificate) → s.finished ≡ false → ending_status ending ≡ 1
      → (s.finished ≡ false → HasCountedLog new) → IsSearched (searched_of asked new found steps o told) (Ok ending)
  finished-searched is unfinished front counted = record {
    holds = holds;
    problem = problem-still asked s new found steps ending ends.portions ends.ended (length s.certificate) (omega arith) is;
    answer = record {
      portions = ends.portions;
      ended = finished-ended asked s new found steps ending ends.portions ends.ended (length s.certificate) (omega arith) is unfinished front
          holds (counted unfinished);
      done = ends.done;
    };
  }

  abbrev before-them : ℕ
  before-them = length asked.session.sets

  many : before-them + length ends.portions ≡ length found
  many = sym (ap length ends.ended.found_are ∙ found-long asked ends.portions)

  abbrev writes : List Write
  writes = sets_writes asked ends.portions

  -- memory was wanted
  pub finished-cut : FinishedSome s new → IsSearched (searched_of asked new found steps o told) (Err (Memory (Some (length found))))
  finished-cut some = record {
    holds = holds;
    problem = problem-still asked s new found steps ending ends.portions ends.ended some.count some.within some.is;
    answer = record {
      portions = ends.portions;
      found = found-still asked s new found steps ending ends.portions ends.ended some.count some.within some.is;
      cut = λ tells. record {
        count = length writes;
        within = omega arith;
        sets_are = ap Some (sym (ap (λ (n : ℕ). before-them + n) (ap (count_by prints) (take_all (length writes) writes (omega arith))
            ∙ prints-sets asked ends.portions) ∙ many));
        done = subst (λ (ws : List Write). AreDone ws o) (sym (take_all (length writes) writes (omega arith))) (ends.done tells);
      };
    };
  }

-- what holds whatever is answered
pub on-ok : {X Y : Type 0} (P : Type 0) (r : Result X Y) → P → OnOk r P
on-ok P (Ok x) holds = holds
on-ok P (Err e) holds = tt

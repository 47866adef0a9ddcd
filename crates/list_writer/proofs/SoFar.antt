-- What is found so far, and what is known behind a call of the search.
use Rattle.std.proofs.Common.{◌≡◌, ℕ, ◌+◌, ◌<◌, ◌≤◌, true, false, List, [], ◌∷◌, ◌++◌, length, map, take, drop}
use Rattle.std.proofs.Common.{refl, ap, sym, ◌∙◌, subst, arith, append_assoc}
use Rattle.std.specs.List.{flat_map}
use Rattle.std.specs.Prelude.{All, cond, count_by}
use Rattle.std.proofs.lemmas.List.{append-nil, length-append, length-map, length-take, map-append, take-append-drop, take-take, take_all}
use Rattle.std.proofs.lemmas.List.Elements.{All-append, All-cons, All-nil}
use Rattle.std.proofs.lemmas.List.Sums.{sum_by-cons}
use Rattle.std.proofs.lemmas.Grind.{flat_map-append}
use Rattle.clause_base.specs.declared.literal.Lit.{Lit}
use Rattle.clause_base.specs.declared.log.Step.{Step}
use Rattle.clause_base.specs.Acceptance.{IsAccepted}
use Rattle.clause_base.specs.Progress.{IsClosing}
use Rattle.design_core.specs.declared.values.SetWithValues.{SetWithValues}
use Rattle.sat_core.specs.Outcome.{is_learned}
use Rattle.sat_core.specs.SolverState.{blocks_of}
use Rattle.set_enum.specs.Bounds.{bound_of}
use Rattle.set_enum.specs.Sets.{block_of}
use Rattle.report_doc.specs.declared.types.Ending.{Ending}
use Rattle.report_doc.specs.declared.types.Ending.TheVariants.{Complete, Budget, Sets}
use Rattle.write_order.specs.Writes.{put_piece, print_piece}
use Rattle.debug_core.specs.Debugging.{DebugState, FindsSet}
use Rattle.debug_core.specs.Debugging.{IsDebugger, IsFrontOf, IsListOf, Searches}
use Rattle.debug_core.specs.Problems.{Problem, suspect_count}
use Rattle.debug_core.proofs.Counting.{counted-unfinished}
use Rattle.debug_core.proofs.Logs.{count-behind}
use Rattle.debug_core.proofs.Rooms.{few-steps}
use Rattle.list_writer.specs.Asked.{Asked, most_sets}
use Rattle.list_writer.specs.Found.{AreFound, EndsAs, HasItsBlock, IsShown, Portion, found_of, log_of, own_steps, sets_of}
use Rattle.list_writer.specs.Jobs.{GoesWith}
use Rattle.log_portions.specs.Portions.{steps_text}
use Rattle.list_writer.specs.Texts.{lines_of}
use Rattle.list_writer.specs.Due.{prints, set_writes}
use Rattle.list_writer.specs.Going.{HasEnded, IsGoing}
use Rattle.list_writer.specs.Going.{sets_writes}
use Rattle.list_writer.proofs.Steps.{append-cancel, append-nothing, blocks_of-append}

-- ---- counts
-- the sets that are listed are those of the session and of the portions
pub found-long : (asked : Asked) (portions : List Portion) → length (found_of asked portions) ≡ length asked.session.sets + length portions
found-long asked portions =
    length-append asked.session.sets (map (λ (portion : Portion). portion.set) portions)
    ∙ ap (λ (n : ℕ). length asked.session.sets + n) (length-map portions (λ portion. portion.set))

pub prints-sets : (asked : Asked) (portions : List Portion) → count_by prints (sets_writes asked portions) ≡ length portions
prints-sets asked [] = refl
prints-sets asked (portion ∷ portions) = omega (
  arith,
  sum_by-cons (λ w. cond (prints w) 1 0) (put_piece asked.log (steps_text portion.steps))
      (print_piece (lines_of asked portion.set) ∷ sets_writes asked portions),
  sum_by-cons (λ w. cond (prints w) 1 0) (print_piece (lines_of asked portion.set)) (sets_writes asked portions),
  prints-sets asked portions,
)

pub one-more : (asked : Asked) (portions : List Portion) (portion : Portion)
    → sets_writes asked (portions ++ portion ∷ []) ≡ sets_writes asked portions ++ set_writes asked portion
one-more asked portions portion = flat_map-append (set_writes asked) portions (portion ∷ [])

pub drop-whole : (log : List Step) → drop (length log) log ≡ []
drop-whole [] = refl
drop-whole (s ∷ log) = drop-whole log

-- the steps that were learned behind those of the session
pub own-learned : (asked : Asked) (s : DebugState) → s.imported ≡ length asked.session.log
    → count_by is_learned (drop s.imported s.log) ≡ count_by is_learned (own_steps asked s.log)
own-learned asked s imported = ap (λ (n : ℕ). count_by is_learned (drop n s.log)) imported

-- ---- what is found
-- where the log is that of the portions
pub are-found : (asked : Asked) (s : DebugState) (found : List SetWithValues) (portions : List Portion) → IsDebugger s
    → s.problem ≡ asked.problem → s.listed ≡ sets_of asked portions → s.log ≡ log_of asked portions → found ≡ found_of asked portions
    → All (IsShown asked.problem) found → All HasItsBlock portions → AreFound asked s.form portions
are-found asked s found portions holds problem listed written found_are shown blocks = record {
  front = subst (IsFrontOf asked.problem) listed (subst (λ (p : Problem). IsFrontOf p s.listed) problem holds.front);
  shown = subst (All (IsShown asked.problem)) found_are shown;
  blocks = blocks;
  accepted = subst (IsAccepted s.form (map block_of (sets_of asked portions))) written
      (subst (λ (sets : List (List ℕ)). IsAccepted s.form (map block_of sets) s.log) listed holds.accepted);
}

-- before a search: the sets of the session, with its log
module _ (asked : Asked) (s : DebugState) (goes : GoesWith asked.problem asked.session s) where
  pub listed-first : s.listed ≡ sets_of asked []
  listed-first = goes.listed ∙ ap (map (λ (set : SetWithValues). set.members)) (sym (append-nil asked.session.sets))

  pub log-first : s.log ≡ log_of asked []
  log-first = goes.log_is ∙ sym (append-nil asked.session.log)

  pub none-own : own_steps asked s.log ≡ []
  none-own = ap (λ (n : ℕ). drop n s.log) (sym (ap length goes.log_is)) ∙ drop-whole s.log

  pub nothing-found : IsDebugger s → All (IsShown asked.problem) asked.session.sets → AreFound asked s.form []
  nothing-found holds shown =
      are-found asked s asked.session.sets [] holds goes.problem listed-first log-first (sym (append-nil asked.session.sets)) shown
      (All-nil HasItsBlock)

module _ (asked : Asked) (s : DebugState) (found : List SetWithValues) (steps left : ℕ) (portions : List Portion)
    (going : IsGoing asked s found steps left portions) where
  pub many : length asked.session.sets + length portions ≡ length found
  many = sym (ap length going.found_are ∙ found-long asked portions)

  pub many-sets : length (sets_of asked portions) ≡ length found
  many-sets = length-map (found_of asked portions) (λ (set : SetWithValues). set.members) ∙ sym (ap length going.found_are)

  joined-here : log_of asked portions ++ drop steps s.log ≡ s.log
  joined-here = ap (λ (log : List Step). log ++ drop steps s.log) (sym going.written) ∙ take-append-drop steps s.log

  -- a call of the search
  module _ (new : DebugState) (now_left : ℕ) (holds : IsDebugger new) (searches : Searches s new left now_left) where
    same-problem : new.problem ≡ asked.problem
    same-problem = searches.problem ∙ going.problem

    abbrev rest : List Step
    rest = drop steps new.log

    longer : length s.log ≤ length new.log
    longer = omega (arith, sym (ap length searches.prefix) ∙ length-take (length s.log) new.log)

    written-still : take steps new.log ≡ log_of asked portions
    written-still = sym (take-take steps (length s.log) new.log going.within) ∙ ap (take steps) searches.prefix ∙ going.written

    joined : log_of asked portions ++ rest ≡ new.log
    joined = ap (λ (log : List Step). log ++ rest) (sym written-still) ∙ take-append-drop steps new.log

    session-before : length asked.session.log ≤ length s.log
    session-before = omega (arith, going.holds.session_within, going.imported)

    units : count_by is_learned (own_steps asked new.log) + now_left ≡ asked.budget
    units = omega (
      arith,
      count-behind s.log new.log searches.prefix is_learned (length asked.session.log) session-before,
      searches.units,
      going.units,
    )

    -- the blocks of what is written, and those of the steps that aren't
    blocks-written : map block_of s.listed ≡ blocks_of (log_of asked portions)
    blocks-written =
        sym going.holds.blocks ∙ sym (ap blocks_of joined-here) ∙ blocks_of-append (log_of asked portions) (drop steps s.log)
        ∙ ap (λ (bs : List (List Lit)). blocks_of (log_of asked portions) ++ bs) going.no_block ∙ append-nil (blocks_of (log_of asked portions))

    blocks-joined : map block_of s.listed ++ blocks_of rest ≡ map block_of new.listed
    blocks-joined =
        ap (λ (bs : List (List Lit)). bs ++ blocks_of rest) blocks-written
        ∙ sym (blocks_of-append (log_of asked portions) rest) ∙ ap blocks_of joined ∙ holds.blocks

    still-unfinished : new.finished ≡ false
    still-unfinished = searches.finished ∙ going.unfinished

    still-imported : new.imported ≡ length asked.session.log
    still-imported = searches.imported ∙ going.imported

    pub found-in-new : AreFound asked new.form portions
    found-in-new = subst (λ (form : List (List Lit)). AreFound asked form portions) (sym searches.form) going.so_far

    -- a set was found
    module _ (set : SetWithValues) (finds : FindsSet s new set) where
      abbrev pub portion : Portion
      portion = record { steps = rest; set = set }

      has-its-block : HasItsBlock portion
      has-its-block =
          append-cancel (map block_of s.listed) (blocks_of rest) (block_of set.members ∷ [])
          (blocks-joined ∙ ap (map block_of) finds.listed ∙ map-append block_of s.listed (set.members ∷ []))

      is-shown : IsShown asked.problem set
      is-shown = subst (λ (p : Problem). IsShown p set) going.problem (record { rows = finds.values; explains = finds.explains })

      abbrev more : List Portion
      more = portions ++ portion ∷ []

      pushed : found_of asked portions ++ set ∷ [] ≡ found_of asked more
      pushed =
          append_assoc asked.session.sets (map (λ (p : Portion). p.set) portions) (set ∷ [])
          ∙ ap (λ (f : List SetWithValues). asked.session.sets ++ f) (sym (map-append (λ (p : Portion). p.set) portions (portion ∷ [])))

      found-more : found ++ set ∷ [] ≡ found_of asked more
      found-more = ap (λ (f : List SetWithValues). f ++ set ∷ []) going.found_are ∙ pushed

      listed-more : new.listed ≡ sets_of asked more
      listed-more = finds.listed ∙ ap (λ (sets : List (List ℕ)). sets ++ set.members ∷ []) going.listed
          ∙ sym (map-append (λ (one : SetWithValues). one.members) (found_of asked portions) (set ∷ []))
          ∙ ap (map (λ (one : SetWithValues). one.members)) pushed

      written-more : new.log ≡ log_of asked more
      written-more =
          let own : List Step = flat_map (λ (p : Portion). p.steps) portions in
          sym joined ∙ append_assoc asked.session.log own rest
          ∙ ap (λ (log : List Step). asked.session.log ++ log) (ap (λ (log : List Step). own ++ log) (sym (append-nil rest))
          ∙ sym (flat_map-append (λ (p : Portion). p.steps) portions (portion ∷ [])))

      shown-more : All (IsShown asked.problem) (found ++ set ∷ [])
      shown-more = All-append (IsShown asked.problem) found (set ∷ []) going.shown
          (All-cons (IsShown asked.problem) set [] is-shown (All-nil (IsShown asked.problem)))

      blocks-more : All HasItsBlock more
      blocks-more = All-append HasItsBlock portions (portion ∷ []) going.so_far.blocks
          (All-cons HasItsBlock portion [] has-its-block (All-nil HasItsBlock))

      pub grown : IsGoing asked new (found ++ set ∷ []) (length new.log) now_left more
      grown = record {
        holds = holds;
        problem = same-problem;
        found_are = found-more;
        listed = listed-more;
        within = omega arith;
        written = take_all (length new.log) new.log (omega arith) ∙ written-more;
        no_block = ap blocks_of (drop-whole new.log);
        shown = shown-more;
        so_far = are-found asked new (found ++ set ∷ []) more holds same-problem listed-more written-more found-more shown-more
            blocks-more;
        units = units;
        goes_on = finds.goes_on;
        unfinished = still-unfinished;
        imported = still-imported;
      }

    -- no set was found
    module _ (same : new.listed ≡ s.listed) where
      listed-here : new.listed ≡ sets_of asked portions
      listed-here = same ∙ going.listed

      no-block : blocks_of rest ≡ []
      no-block = append-nothing (map block_of s.listed) (blocks_of rest) (blocks-joined ∙ ap (map block_of) same)

      -- and the search goes on
      pub waited : new.ended ≡ false → IsGoing asked new found steps now_left portions
      waited goes_on = record {
        holds = holds;
        problem = same-problem;
        found_are = going.found_are;
        listed = listed-here;
        within = omega (arith, going.within, longer);
        written = written-still;
        no_block = no-block;
        shown = going.shown;
        so_far = found-in-new;
        units = units;
        goes_on = goes_on;
        unfinished = still-unfinished;
        imported = still-imported;
      }

      pub has-ended : (ending : Ending) → EndsAs asked portions new.log ending → HasEnded asked new found steps ending portions
      has-ended ending ends = record {
        holds = holds;
        problem = same-problem;
        found_are = going.found_are;
        listed = listed-here;
        shown = going.shown;
        so_far = found-in-new;
        within = omega (arith, going.within, longer);
        joined = joined;
        no_block = no-block;
        counted = counted-unfinished new holds still-unfinished;
        few = omega (arith, few-steps new holds still-unfinished, own-learned asked new still-imported, still-imported);
        within_budget = omega (arith, units);
        ends = ends;
        imported = still-imported;
      }

      pub is-whole : new.ended ≡ true → length found < most_sets asked → EndsAs asked portions new.log Complete
      is-whole ended few = (
        subst (IsListOf asked.problem) listed-here (subst (λ (p : Problem). IsListOf p new.listed) same-problem (holds.whole ended)),
        subst (λ (p : Problem). IsClosing (bound_of (suspect_count p) p.k p.k) new.log) same-problem (holds.closing ended),
        omega (arith, few, many),
      )

      pub is-spent : now_left ≡ 0 → length found < most_sets asked → EndsAs asked portions new.log Budget
      is-spent none few = (omega (arith, none, units), omega (arith, few, many))

  -- as many sets were found as were asked for
  pub enough : most_sets asked ≤ length found → length found ≤ most_sets asked → HasEnded asked s found steps Sets portions
  enough low high = record {
    holds = going.holds;
    problem = going.problem;
    found_are = going.found_are;
    listed = going.listed;
    shown = going.shown;
    so_far = going.so_far;
    within = going.within;
    joined = joined-here;
    no_block = going.no_block;
    counted = counted-unfinished s going.holds going.unfinished;
    few = omega (arith, few-steps s going.holds going.unfinished, own-learned asked s going.imported, going.imported);
    within_budget = omega (arith, going.units);
    ends = omega (arith, low, high, many);
    imported = going.imported;
  }

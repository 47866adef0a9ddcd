-- What is found of a problem's list, with the log that shows it: so far, and when the listing has ended. Both begin with those of the
-- session that the listing goes on from.
use Rattle.std.specs.Prelude.{ℕ, ◌≡◌, ◌+◌, ◌<◌, ◌≤◌, List, [], ◌∷◌, ◌++◌, All, length, map, drop, count_by}
use Rattle.std.specs.List.{flat_map}
use Rattle.design_core.specs.declared.values.SetWithValues.{SetWithValues}
use Rattle.design_core.specs.Explained.{AreValuesOf, Explains}
use Rattle.clause_base.specs.declared.literal.Lit.{Lit}
use Rattle.clause_base.specs.declared.log.Step.{Step}
use Rattle.clause_base.specs.Acceptance.{IsAccepted}
use Rattle.clause_base.specs.Counted.{IsCounted}
use Rattle.clause_base.specs.Progress.{IsClosing}
use Rattle.proof_check.specs.Text.{IsLogText}
use Rattle.sat_core.specs.Outcome.{is_learned}
use Rattle.sat_core.specs.SolverState.{blocks_of}
use Rattle.set_enum.specs.Bounds.{bound_of, bounds_of}
use Rattle.set_enum.specs.Sets.{block_of}
use Rattle.report_doc.specs.declared.types.Ending.{Ending}
use Rattle.report_doc.specs.declared.types.Ending.TheVariants.{Complete, Budget, Sets, Earlier}
use Rattle.card_counter.specs.Shows.{Shows, last_of}
use Rattle.debug_core.specs.Problems.{Problem, suspect_count, suspects_of}
use Rattle.debug_core.specs.Debugging.{IsFrontOf, IsListOf}
use Rattle.list_writer.specs.Asked.{Asked}
use Rattle.list_writer.specs.Lines.{ending_status}

-- ---- a set
-- a set that was found, with the steps that the log grew by from the set before it on
pub record Portion : Type 0 where
  pub steps : List Step
  pub set : SetWithValues

-- the sets of the session, and these
abbrev pub found_of : Asked → List Portion → List SetWithValues
found_of asked portions = asked.session.sets ++ map (λ portion. portion.set) portions

abbrev pub sets_of : Asked → List Portion → List (List ℕ)
sets_of asked portions = map (λ (set : SetWithValues). set.members) (found_of asked portions)

-- the log of the session, with the portions of these sets
abbrev pub log_of : Asked → List Portion → List Step
log_of asked portions = asked.session.log ++ flat_map (λ portion. portion.steps) portions

-- the steps of a log behind those of the session
abbrev pub own_steps : Asked → List Step → List Step
own_steps asked log = drop (length asked.session.log) log

-- the values of a set are those of its places, a row of them for each cycle of the traces, and with them each trace is right
pub record IsShown (p : Problem) (set : SetWithValues) : Type 0 where
  pub rows : AreValuesOf p.design p.traces (suspects_of p) set.members set.values
  pub explains : Explains p.design p.traces (suspects_of p) set.members set.values

-- a set's portion has its block, and no other
abbrev pub HasItsBlock : Portion → Type 0
HasItsBlock portion = blocks_of portion.steps ≡ block_of portion.set.members ∷ []

-- ---- so far
-- sets of a front of the problem's list, with values, and a log that is accepted after the form, with their blocks
pub record AreFound (asked : Asked) (form : List (List Lit)) (portions : List Portion) : Type 0 where
  pub front : IsFrontOf asked.problem (sets_of asked portions)
  pub shown : All (IsShown asked.problem) (found_of asked portions)
  pub blocks : All HasItsBlock portions
  pub accepted : IsAccepted form (map block_of (sets_of asked portions)) (log_of asked portions)

-- ---- at the end
-- behind the session's steps the learned steps of a log of the problem are fresh, and its derived steps are few
abbrev pub IsCountedFor : Asked → List (List Lit) → List (List ℕ) → List Step → Type 0
IsCountedFor asked form sets log =
    let p = asked.problem in
    let n = suspect_count p in
    IsCounted form (bounds_of n p.k) (p.k + 1) n (last_of sets) (bound_of n p.k (length (last_of sets))) log (length asked.session.log)

-- the list is whole and the log closing; or the budget is spent on learned steps, to the last unit; or as many sets were found as
-- were asked for. Neither steps nor sets of the session count
abbrev pub EndsAs : Asked → List Portion → List Step → Ending → Type 0
EndsAs asked portions log Complete =
    IsListOf asked.problem (sets_of asked portions)
    × IsClosing (bound_of (suspect_count asked.problem) asked.problem.k asked.problem.k) log
    × (length portions < asked.sets)
EndsAs asked portions log Budget = (count_by is_learned (own_steps asked log) ≡ asked.budget) × (length portions < asked.sets)
EndsAs asked portions log Sets = length portions ≡ asked.sets
EndsAs asked portions log Earlier = ⊥

-- a listing that ended: what was found, and the steps behind the last set, `rest`
pub record IsEnded (asked : Asked) (form : List (List Lit)) (portions : List Portion) (rest : List Step) (ending : Ending) : Type 0 where
  pub found : AreFound asked form portions
  pub no_block : blocks_of rest ≡ []
  pub accepted : IsAccepted form (map block_of (sets_of asked portions)) (log_of asked portions ++ rest)
  pub counted : IsCountedFor asked form (sets_of asked portions) (log_of asked portions ++ rest)
  pub within_budget : count_by is_learned (own_steps asked (log_of asked portions ++ rest)) ≤ asked.budget
  pub ends : EndsAs asked portions (log_of asked portions ++ rest) ending
  -- where the list isn't whole, the log shows that no set is missing before the last one
  pub shows : ending_status ending ≡ 1
      → Shows (suspect_count asked.problem) asked.problem.k (last_of (sets_of asked portions)) (log_of asked portions ++ rest)
  -- the text of the log stands for this log alone
  pub readable : IsLogText (record { inputs = asked.inputs; log = log_of asked portions ++ rest })

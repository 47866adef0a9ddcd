-- What a debugger knows between two calls, and what a call of `next` answers.
use Rattle.std.specs.Prelude.{ℕ, ◌≡◌, ◌+◌, ◌≤◌, ◌<◌, ◌^◌, ◌⊎◌, ◌||◌, nat_lt, Bool, true, false, List, [], ◌∷◌, ◌++◌, length, map, take, drop}
use Rattle.std.specs.Prelude.{All, count_by, Result, Ok}
use Rattle.std.specs.List.{AllZip}
use Rattle.std.specs.List.Sorted.{IsStrictlyIncreasing}
use Rattle.loc_base.specs.declared.memory.NoMemory.{NoMemory}
use Rattle.design_core.specs.declared.values.SetWithValues.{SetWithValues}
use Rattle.design_core.specs.Explained.{AreValuesOf, Explains}
use Rattle.design_core.specs.Listing.{IsFront, IsList}
use Rattle.clause_base.specs.declared.literal.Lit.{Lit}
use Rattle.clause_base.specs.declared.log.Step.{Step}
use Rattle.clause_base.specs.declared.log.StepKind.TheVariants.{Derived}
use Rattle.clause_base.specs.Literal.{AllDistinct, AreWithin, IsWithin}
use Rattle.clause_base.specs.Steps.{step_at}
use Rattle.clause_base.specs.Acceptance.{IsAccepted}
use Rattle.clause_base.specs.Counted.{EndsASize, IsCounted, IsPassedOver, ShowsAbsent}
use Rattle.clause_base.specs.Progress.{IsClosing, LearnedAreFresh}
use Rattle.card_counter.specs.Shows.{Shows, last_of}
use Rattle.front_cert.specs.Certificates.{IsDerivedAfter}
use Rattle.sat_core.specs.Outcome.{added, is_derived, is_learned}
use Rattle.sat_core.specs.SolverState.{blocks_of}
use Rattle.set_enum.specs.Sets.{block_of}
use Rattle.set_enum.specs.Bounds.{bound_of, bounds_of}
use Rattle.set_enum.specs.EnumState.{AreChainless}
use Rattle.debug_core.specs.declared.found.Found.{Found}
use Rattle.debug_core.specs.declared.found.Found.TheVariants as found
use Rattle.debug_core.specs.Problems.{Problem, IsFormFor, IsProblem, suspect_count, suspects_of}

-- what contracts see of a debugger: its problem, the form and its log, the sets listed so far, whether it has answered that there is no
-- other, what isn't in the log yet of the last set's certificate, whether the log has any step of a certificate behind a session's, and how
-- many of its first steps are those of the session that it goes on from: none where it goes on from none
pub record DebugState : Type 0 where
  pub problem : Problem
  pub vars : ℕ
  pub form : List (List Lit)
  pub log : List Step
  pub listed : List (List ℕ)
  pub ended : Bool
  pub certificate : List Step
  pub finished : Bool
  pub imported : ℕ

-- the step is derived from form and log, over the variables
pub record IsKept (vars : ℕ) (form : List (List Lit)) (log : List Step) (step : Step) : Type 0 where
  pub derived : IsDerivedAfter form log step
  pub within : IsWithin vars step.clause

-- each step shows a suspect absent that the members pass over, in ascending order of the suspects
pub record ShowEach (n k : ℕ) (members : List ℕ) (steps : List Step) : Type 0 where
  pub passed : List ℕ
  pub ascending : IsStrictlyIncreasing passed
  pub are : All (IsPassedOver members) passed
  pub shown : AllZip (λ x step. ShowsAbsent members (bound_of n k (length members)) x step.clause) passed steps

-- the steps that are kept may stand behind the log, which shows with them that no set is missing before the last one that was listed; where
-- none was listed, there is nothing to show. Each of them shows another suspect absent
pub record IsCertified (s : DebugState) : Type 0 where
  pub kept : All (IsKept s.vars s.form s.log) s.certificate
  pub shows : Shows (suspect_count s.problem) s.problem.k (last_of s.listed) (s.log ++ s.certificate)
  pub each : ShowEach (suspect_count s.problem) s.problem.k (last_of s.listed) s.certificate

-- some sets are a front of the problem's list
abbrev pub IsFrontOf : Problem → List (List ℕ) → Type 0
IsFrontOf p sets = IsFront p.design p.traces (suspects_of p) p.k sets

-- or the whole list
abbrev pub IsListOf : Problem → List (List ℕ) → Type 0
IsListOf p sets = IsList p.design p.traces (suspects_of p) p.k sets

-- what holds of each debugger
pub record IsDebugger (s : DebugState) : Type 0 where
  pub problem : IsProblem s.problem
  pub form : IsFormFor s.problem s.vars s.form
  -- the log is accepted after the form, with the blocks of the sets listed so far, in their order
  pub accepted : IsAccepted s.form (map block_of s.listed) s.log
  pub blocks : blocks_of s.log ≡ map block_of s.listed
  -- form and log are over the form's variables, of which the first are the suspects'; the clauses of the log's steps are of distinct
  -- variables, and no block has a chain
  pub form_within : AreWithin s.vars s.form
  pub few_suspects : suspect_count s.problem ≤ s.vars
  pub log_within : AreWithin s.vars (map (λ step. step.clause) s.log)
  pub distinct : AllDistinct (map (λ step. step.clause) s.log)
  pub chainless : AreChainless s.log
  -- behind the steps of a session its learned steps are fresh, so that they are fewer than 3^V; until some step of a certificate is there,
  -- the derived steps are at most k + 1, and each ends a size
  pub session_within : s.imported ≤ length s.log
  pub fresh : LearnedAreFresh s.form s.log s.imported
  pub few_learned : count_by is_learned (drop s.imported s.log) < 3 ^ s.vars
  pub few_derived : s.finished ≡ false → count_by is_derived (drop s.imported s.log) ≤ s.problem.k + 1
  pub ends : s.finished ≡ false → (place : ℕ) → s.imported ≤ place → place < length s.log → (step_at s.log place).kind ≡ Derived
      → EndsASize (bounds_of (suspect_count s.problem) s.problem.k) (step_at s.log place).clause
  -- the sets are a front of the problem's list; after the end they are the whole list, and the log is closing
  pub front : IsFrontOf s.problem s.listed
  pub whole : s.ended ≡ true → IsListOf s.problem s.listed
  pub closing : s.ended ≡ true → IsClosing (bound_of (suspect_count s.problem) s.problem.k s.problem.k) s.log
  pub certified : IsCertified s

-- what a debugger begins with
pub record Begins (p : Problem) (s : DebugState) : Type 0 where
  pub problem : s.problem ≡ p
  pub no_step : s.log ≡ []
  pub no_set : s.listed ≡ []
  pub goes_on : s.ended ≡ false
  pub no_certificate : s.certificate ≡ []
  pub unfinished : s.finished ≡ false
  pub by_itself : s.imported ≡ 0

-- the debugger with so many steps of the certificate, from the first on, behind its log
abbrev pub with_appended : DebugState → ℕ → DebugState
with_appended s count = record {
  problem = s.problem;
  vars = s.vars;
  form = s.form;
  log = s.log ++ take count s.certificate;
  listed = s.listed;
  ended = s.ended;
  certificate = drop count s.certificate;
  finished = s.finished || nat_lt 0 count;
  imported = s.imported;
}

-- some steps of the certificate were appended, from the first on
pub record FinishedSome (old new : DebugState) : Type 0 where
  pub count : ℕ
  pub within : count ≤ length old.certificate
  pub is : new ≡ with_appended old count

-- behind the steps of a session the log's learned steps are fresh; its derived steps are at most k + 1, each of which ends a size, and behind
-- all others those by which it shows suspects absent that the last set passes over, another one each
abbrev pub HasCountedLog : DebugState → Type 0
HasCountedLog s =
    let n = suspect_count s.problem in
    IsCounted s.form (bounds_of n s.problem.k) (s.problem.k + 1) n (last_of s.listed) (bound_of n s.problem.k (length (last_of s.listed)))
    s.log s.imported

-- the clauses, the steps, the units, the suspects and 16 more are together fewer than 2^32
abbrev pub HasRoom : DebugState → ℕ → Type 0
HasRoom s budget = length s.form + length s.log + budget + suspect_count s.problem + 16 < 2 ^ 32

-- what a call of `next` keeps and adds, whatever it answers: problem and form stay, the log grows by as many learned steps as units
-- were taken, and each of them is fresh
pub record Searches (old new : DebugState) (budget left : ℕ) : Type 0 where
  pub problem : new.problem ≡ old.problem
  pub vars : new.vars ≡ old.vars
  pub form : new.form ≡ old.form
  pub prefix : take (length old.log) new.log ≡ old.log
  pub units : count_by is_learned (added old.log new.log) + left ≡ budget
  pub fresh : LearnedAreFresh old.form new.log (length old.log)
  pub finished : new.finished ≡ old.finished
  pub imported : new.imported ≡ old.imported

-- a set was found, with its values: it is the next of the list
pub record FindsSet (old new : DebugState) (set : SetWithValues) : Type 0 where
  pub listed : new.listed ≡ old.listed ++ set.members ∷ []
  pub goes_on : new.ended ≡ false
  pub values : AreValuesOf old.problem.design old.problem.traces (suspects_of old.problem) set.members set.values
  pub explains : Explains old.problem.design old.problem.traces (suspects_of old.problem) set.members set.values

-- nothing was found, and the search isn't at its end
pub record FindsNothing (old new : DebugState) : Type 0 where
  pub listed : new.listed ≡ old.listed
  pub goes_on : new.ended ≡ false

-- the list is whole
pub record FindsEnd (old new : DebugState) : Type 0 where
  pub listed : new.listed ≡ old.listed
  pub ended : new.ended ≡ true

-- what an answer says
abbrev pub Gives : DebugState → DebugState → ℕ → Found → Type 0
Gives old new left (found.Set set) = (0 < left) × FindsSet old new set
Gives old new left found.End = ((old.ended ≡ true) ⊎ (0 < left)) × FindsEnd old new
Gives old new left found.Spent = (left ≡ 0) × FindsNothing old new

-- after the end nothing changes any more, and each answer says so
abbrev pub StaysEnded : DebugState → DebugState → Result Found NoMemory → Type 0
StaysEnded old new result = old.ended ≡ true → (result ≡ Ok found.End) × (new ≡ old)

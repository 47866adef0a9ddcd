-- Sessions: a list of sets that a search left, with its log, from which another search goes on; and what that begins with.
use Rattle.std.specs.Prelude.{ℕ, ◌≡◌, false, List, [], length, map}
use Rattle.clause_base.specs.declared.literal.Lit.{Lit}
use Rattle.clause_base.specs.declared.log.Step.{Step}
use Rattle.clause_base.specs.Acceptance.{IsAccepted}
use Rattle.card_counter.specs.Shows.{Shows, last_of}
use Rattle.set_enum.specs.EnumState.{AreChainless}
use Rattle.set_enum.specs.Sets.{block_of}
use Rattle.debug_core.specs.Debugging.{Begins, DebugState}
use Rattle.debug_core.specs.Listed.{AreGiven, Listed}
use Rattle.debug_core.specs.Problems.{Problem, suspect_count, suspects_of}

-- the sets, as they are listed from the clauses of a problem's form
abbrev pub listed_of : Problem → List (List Lit) → List (List ℕ) → Listed
listed_of p form sets = record {
  design = p.design;
  traces = p.traces;
  groups = suspects_of p;
  k = p.k;
  clauses = form;
  listed = sets;
}

-- the sets have at most k suspects each; they work, stand in order, and none is within another; the log is accepted after the form, with
-- their blocks in their order, none of which has a chain; and it shows that no set is missing before the last one
pub record IsSession (p : Problem) (form : List (List Lit)) (sets : List (List ℕ)) (log : List Step) : Type 0 where
  pub given : AreGiven (listed_of p form sets)
  pub accepted : IsAccepted form (map block_of sets) log
  pub chainless : AreChainless log
  pub shows : Shows (suspect_count p) p.k (last_of sets) log

-- the debugger may go on from the log: it has just begun, and the log is that of a session, with some sets
pub record MayGoOn (s : DebugState) (log : List Step) : Type 0 where
  pub begins : Begins s.problem s
  pub sets : List (List ℕ)
  pub session : IsSession s.problem s.form sets log

-- the debugger goes on from the log: problem and form stay, the log is the session's, and its sets are listed; nothing was searched yet
pub record GoesOnFrom (old : DebugState) (log : List Step) (new : DebugState) : Type 0 where
  pub problem : new.problem ≡ old.problem
  pub vars : new.vars ≡ old.vars
  pub form : new.form ≡ old.form
  pub log_is : new.log ≡ log
  pub imported : new.imported ≡ length log
  pub listed : (sets : List (List ℕ)) → IsSession old.problem old.form sets log → new.listed ≡ sets
  pub goes_on : new.ended ≡ false
  pub no_certificate : new.certificate ≡ []
  pub unfinished : new.finished ≡ false

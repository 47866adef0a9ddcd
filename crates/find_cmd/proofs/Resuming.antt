-- A search that goes on from a session; and the promises of a run that has none because the session is refused.
use Rattle.std.proofs.Common.{ℕ, ◌≡◌, ◌≤◌, true, List, Some, length, map, sym, subst, arith}
use Rattle.loc_base.specs.declared.digest.Digest.{Digest}
use Rattle.clause_base.specs.declared.literal.Lit.{Lit}
use Rattle.clause_base.specs.declared.log.Step.{Step}
use Rattle.command_contract.specs.Contract.{Keeps, Run}
use Rattle.design_core.specs.declared.values.SetWithValues.{SetWithValues}
use Rattle.debug_core.specs.Debugging.{Begins, DebugState, IsDebugger}
use Rattle.debug_core.specs.Problems.{IsFormFor, Problem}
use Rattle.debug_core.specs.Sessions.{GoesOnFrom, IsSession, MayGoOn}
use Rattle.front_end.specs.Means.{Meaning, Refusing}
use Rattle.list_session.proofs.OneForm.{form-same}
use Rattle.list_writer.specs.Asked.{Session}
use Rattle.list_writer.specs.Jobs.{GoesWith, session_of}
use Rattle.list_writer.proofs.Sessions.{goes-on-with, goes-with-own, own-session}
use Rattle.load_problem.specs.declared.inputs.Inputs.{Inputs}
use Rattle.load_problem.specs.Inputs.{HaveNumbers, problem_in}
use Rattle.load_problem.specs.Means.{IsDigestOf, Means, Suspecting}
use Rattle.refusal.specs.declared.last_line.LastLine.{LastLine}
use Rattle.refusal.specs.Ends.{HasCause, HasStatus, IsSpared, PrintCounts, Prints, RefusalCounts, line_of, status_of}
use Rattle.refusal.proofs.Keeping.{refused-keeps}
use Rattle.requests.specs.Asked.{FindAsked, SessionNames, wanted_for}
use Rattle.find_cmd.specs.Finding.{finding}
use Rattle.find_cmd.specs.Parts.{CanBeTaken, HasFew, HasResumed, IsTaken, NotTaken, most_kept}
use Rattle.find_cmd.specs.Refusals.{Refused}
use Rattle.find_cmd.proofs.Refused.{ends-by_lines}
use Rattle.find_cmd.proofs.Taking.{ready-taken, whole-taken}

-- the members of each
abbrev members_in : List SetWithValues → List (List ℕ)
members_in sets = map (λ (set : SetWithValues). set.members) sets

-- what is taken up is a session by the form of a debugger of the problem
session-by : (p : Problem) (s : DebugState) (session : Session) → s.problem ≡ p → IsDebugger s → IsTaken p session
    → IsSession s.problem s.form (members_in session.sets) session.log
session-by p s session same holds taken =
    let form : IsFormFor p s.vars s.form = subst (λ (q : Problem). IsFormFor q s.vars s.form) same holds.form in
    subst (λ (q : Problem). IsSession q s.form (members_in session.sets) session.log) (sym same)
    (subst (λ (f : List (List Lit)). IsSession p f (members_in session.sets) session.log)
    (form-same p taken.vars s.vars taken.form s.form taken.is_form form) taken.is_session)

pub may-go-on : (p : Problem) (s : DebugState) (session : Session) → Begins p s → IsDebugger s → IsTaken p session
    → MayGoOn s session.log
may-go-on p s session begins holds taken = record {
  begins = subst (λ (q : Problem). Begins q s) (sym begins.problem) begins;
  sets = members_in session.sets;
  session = session-by p s session begins.problem holds taken;
}

pub has-resumed : (p : Problem) (old new : DebugState) (session : Session) → Begins p old → IsDebugger old → IsTaken p session
    → GoesOnFrom old session.log new → IsDebugger new → HasResumed p session.sets new
has-resumed p old new session begins holds taken goes is =
    let goes_with : GoesWith p session new =
    goes-on-with p old new session begins.problem goes (session-by p old session begins.problem holds taken) in
    record {
      goes = goes-with-own p session new goes_with;
      holds = is;
      shown = taken.shown;
      few_sets = taken.few_sets;
      few_steps = subst (λ (steps : List Step). length steps ≤ most_kept) (sym goes.log_is) taken.few_steps;
    }

pub same-session : (session : Session) (old new : DebugState) → GoesOnFrom old session.log new → session_of session.sets new ≡ session
same-session session old new goes = own-session session new goes.log_is

-- there are numbers for the traces and the outputs of what was read
pub few-in : (inputs : Inputs) (size : ℕ) → HaveNumbers inputs → HasFew (problem_in inputs size)
few-in inputs size have = record { traces = omega (arith, have.traces); outputs = have.outputs }

-- ---- a run that prints why nothing is gone on from
module _ (M : Meaning) (R : Refusing) (S : Suspecting) (asked : FindAsked) (run : Run) (names : SessionNames) (p : Problem)
    (inputs : Digest) where
  pub unresumed-keeps : (refusal : LastLine) (status : ℕ) → asked.resume ≡ Some names
      → (run.told ≡ true → Means M S (wanted_for asked) run.texts p)
      → (run.told ≡ true → IsDigestOf (wanted_for asked) run.texts inputs)
      → HasStatus refusal → RefusalCounts run.counts.shelf run.counts.now_shelf refusal → run.now_written ≡ run.written
      → (run.told ≡ true → HasCause (NotTaken names run.texts p inputs) refusal)
      → (run.told ≡ true → CanBeTaken names run.texts p inputs → IsSpared refusal)
      → (run.told ≡ true → Prints (line_of refusal) (status_of refusal) run.printed run.now_printed status)
      → PrintCounts (status_of refusal) run.counts.sink run.counts.now_sink status
      → Keeps (finding M R S asked) run status
  unresumed-keeps refusal status is means digest has shelf nothing refused only prints sink =
      refused-keeps (finding M R S asked) run (ends-by_lines M S asked (Refused M R S asked) run) refusal status
      (record {
        has_status = has;
        cause = λ told. whole-taken M R S asked run.texts names p inputs refusal is (means told) (digest told) (refused told);
        nothing = nothing;
        prints = prints;
        shelf = shelf;
        sink = sink;
        spared = λ told ready. only told (ready-taken M R S asked run.texts names p inputs is (means told) (digest told) ready);
      })

-- What was read, and the promises of a run that goes on from there.
use Rattle.std.proofs.Common.{ℕ, ◌≡◌, Bool, true, List, subst, sym, ◌∙◌, Result, Ok, Err}
use Rattle.std.specs.Prelude.{IfOk, IfErr}
use Rattle.io_ports.specs.Faults.{FaultCounts}
use Rattle.command_contract.specs.Contract.{Case, Counts, Keeps, Run, Texts, run_of}
use Rattle.front_end.specs.Means.{Meaning, Refusing}
use Rattle.debug_core.specs.declared.error.DebugErr.{DebugErr}
use Rattle.debug_core.specs.Problems.{IsRefused}
use Rattle.load_problem.specs.declared.inputs.Inputs.{Inputs}
use Rattle.refusal.specs.declared.last_line.LastLine.{LastLine}
use Rattle.refusal.specs.declared.last_line.LastLine.TheVariants.{Line, Memory}
use Rattle.requests.specs.Asked.{WantedAsked}
use Rattle.refusal.specs.Ends.{CountsOf, HasCause, HasStatus, IsSpared, PrintCounts, Prints, RefusalCounts, Says, line_of}
use Rattle.load_problem.specs.Inputs.{problem_in}
use Rattle.refusal.specs.Ends.{status_of}
use Rattle.load_problem.specs.Means.{IsDigestOf, Means, Suspecting}
use Rattle.load_problem.specs.Refusals.{IsReady, Refused, problem_line, problem_status}
use Rattle.load_problem.proofs.Causes.{problem-cause, problem-counts, problem-spared}
use Rattle.refusal.proofs.Keeping.{refused-keeps}
use Rattle.requests.specs.Asked.{FindAsked, wanted_for}
use Rattle.find_cmd.specs.Finding.{Causing, finding_by}
use Rattle.find_cmd.specs.Reading.{IsDueOf, IsRead, IsReadFault}
use Rattle.find_cmd.proofs.Faults.{refusal-other}
use Rattle.find_cmd.proofs.Refused.{ends-by_lines}

-- ---- at its answer
pub at-ok : (P : Inputs → Type 0) (read : Result Inputs LastLine) (inputs : Inputs) → read ≡ Ok inputs → IfOk read P → P inputs
at-ok P read inputs is holds = let Q : Result Inputs LastLine → Type 0 = λ r. IfOk r P in subst Q is holds

pub at-err : (P : LastLine → Type 0) (read : Result Inputs LastLine) (refusal : LastLine) → read ≡ Err refusal → IfErr read P → P refusal
at-err P read refusal is holds = let Q : Result Inputs LastLine → Type 0 = λ r. IfErr r P in subst Q is holds

pub counts-ok : (old new : FaultCounts) (read : Result Inputs LastLine) (inputs : Inputs) → read ≡ Ok inputs → CountsOf old new read
    → new ≡ old
counts-ok old new read inputs is counts =
    let Q : Result Inputs LastLine → Type 0 = λ r. CountsOf old new r in subst Q is counts

pub counts-err : (old new : FaultCounts) (read : Result Inputs LastLine) (refusal : LastLine) → read ≡ Err refusal → CountsOf old new read
    → RefusalCounts old new refusal
counts-err old new read refusal is counts =
    let Q : Result Inputs LastLine → Type 0 = λ r. CountsOf old new r in subst Q is counts

-- ---- a run that prints why nothing was read, or why there is no form of the problem
module _ (M : Meaning) (R : Refusing) (S : Suspecting) (asked : FindAsked) (run : Run) (shelf : FaultCounts)
    (read : Result Inputs LastLine) where
  abbrev Reads : Type 0
  Reads = IsRead M R S asked run.told run.texts run.counts.shelf shelf read

  abbrev IsDue : Causing
  IsDue = IsDueOf M R S asked read

  unread-cause : (refusal : LastLine) → read ≡ Err refusal → HasCause (Refused M R S (wanted_for asked) run.texts) refusal
      → HasCause (IsDue run.texts) refusal
  unread-cause (Line status line) is cause = (cause, λ five. subst IsReadFault (sym is) five)
  unread-cause Memory is cause = tt

  unformed-cause : (fault : DebugErr) (refusal : LastLine) → Says refusal (problem_status fault) (problem_line fault)
      → HasCause (Refused M R S (wanted_for asked) run.texts) refusal → HasCause (IsDue run.texts) refusal
  unformed-cause fault (Line status line) says cause = (cause, λ five. absurd (refusal-other fault (Line status line) says five))
  unformed-cause fault Memory says cause = tt

  pub unread-keeps : (refusal : LastLine) (status : ℕ) → read ≡ Err refusal → Reads → IfErr read HasStatus
      → shelf ≡ run.counts.now_shelf → run.now_written ≡ run.written
      → (run.told ≡ true → Prints (line_of refusal) (status_of refusal) run.printed run.now_printed status)
      → PrintCounts (status_of refusal) run.counts.sink run.counts.now_sink status
      → Keeps (finding_by M S asked IsDue) run status
  unread-keeps refusal status is reads has same nothing prints sink =
      refused-keeps (finding_by M S asked IsDue) run (ends-by_lines M S asked IsDue run) refusal status
      (record {
        has_status = at-err HasStatus read refusal is has;
        cause = λ told.
            unread-cause refusal is
            (at-err (HasCause (Refused M R S (wanted_for asked) run.texts)) read refusal is (reads.refused told));
        nothing = nothing;
        prints = prints;
        shelf = subst (λ n. RefusalCounts run.counts.shelf n refusal) same (counts-err _ _ read refusal is reads.counts);
        sink = sink;
        spared = λ told ready. at-err IsSpared read refusal is (reads.only told ready.inputs);
      })

  pub unformed-keeps : (inputs : Inputs) (fault : DebugErr) (refusal : LastLine) (status : ℕ) → read ≡ Ok inputs → Reads
      → IsRefused (problem_in inputs asked.listing.size) fault → HasStatus refusal
      → Says refusal (problem_status fault) (problem_line fault)
      → shelf ≡ run.counts.now_shelf → run.now_written ≡ run.written
      → (run.told ≡ true → Prints (line_of refusal) (status_of refusal) run.printed run.now_printed status)
      → PrintCounts (status_of refusal) run.counts.sink run.counts.now_sink status
      → Keeps (finding_by M S asked IsDue) run status
  unformed-keeps inputs fault refusal status is reads refused has says same nothing prints sink =
      let problem = problem_in inputs asked.listing.size in
      let means : run.told ≡ true → Means M S (wanted_for asked) run.texts problem =
      λ told. at-ok (λ i. Means M S (wanted_for asked) run.texts (problem_in i asked.listing.size)) read inputs is (reads.means told) in
      refused-keeps (finding_by M S asked IsDue) run (ends-by_lines M S asked IsDue run) refusal status
      (record {
        has_status = has;
        cause = λ told.
            unformed-cause fault refusal says
            (problem-cause M R S (wanted_for asked) run.texts problem fault refusal (means told) refused says);
        nothing = nothing;
        prints = prints;
        shelf = problem-counts _ _ fault refusal says (sym same ∙ counts-ok _ _ read inputs is reads.counts);
        sink = sink;
        spared = λ told ready.
            problem-spared M S (wanted_for asked) run.texts problem fault refusal has says (means told) refused ready.inputs;
      })

-- ---- what was read for a list, by what the reading promises of what was wanted
pub read-wanted : (M : Meaning) (R : Refusing) (S : Suspecting) (asked : FindAsked) (wanted : WantedAsked) (told : Bool) (texts : Texts)
    (old new : FaultCounts) (read : Result Inputs LastLine) → wanted ≡ wanted_for asked → CountsOf old new read
    → (told ≡ true → IfOk read (λ i. Means M S wanted texts (problem_in i wanted.size)))
    → (told ≡ true → IfOk read (λ i. IsDigestOf wanted texts i.digest))
    → (told ≡ true → IfErr read (HasCause (Refused M R S wanted texts)))
    → (told ≡ true → IsReady M S wanted texts → IfErr read IsSpared)
    → IsRead M R S asked told texts old new read
read-wanted M R S asked wanted told texts old new read is counts means digest refused only = record {
  counts = counts;
  means = λ t. subst (λ (w : WantedAsked). IfOk read (λ i. Means M S w texts (problem_in i w.size))) is (means t);
  digest = λ t. subst (λ (w : WantedAsked). IfOk read (λ i. IsDigestOf w texts i.digest)) is (digest t);
  refused = λ t. subst (λ (w : WantedAsked). IfErr read (HasCause (Refused M R S w texts))) is (refused t);
  only = λ t ready. only t (subst (λ (w : WantedAsked). IsReady M S w texts) (sym is) ready);
}

-- ---- by other words for what is told, for the texts that are read, and for those that stand written
pub read-moved : (M : Meaning) (R : Refusing) (S : Suspecting) (asked : FindAsked) (told now_told : Bool) (texts now_texts : Texts)
    (old new : FaultCounts) (read : Result Inputs LastLine) → told ≡ now_told → texts ≡ now_texts
    → IsRead M R S asked told texts old new read → IsRead M R S asked now_told now_texts old new read
read-moved M R S asked told now_told texts now_texts old new read same_told same_texts reads =
    subst (λ (t : Bool). IsRead M R S asked t now_texts old new read) same_told
    (subst (λ (ts : Texts). IsRead M R S asked told ts old new read) same_texts reads)

pub keeps-moved : (c : Case) (told now_told : Bool) (texts now_texts written now_written after : Texts) (printed now_printed : List ℕ)
    (counts : Counts) (status : ℕ) → told ≡ now_told → texts ≡ now_texts → written ≡ now_written
    → Keeps c (run_of told texts written after printed now_printed counts) status
    → Keeps c (run_of now_told now_texts now_written after printed now_printed counts) status
keeps-moved c told now_told texts now_texts written now_written after printed now_printed counts status same_told same_texts same keeps =
    subst (λ (t : Bool). Keeps c (run_of t now_texts now_written after printed now_printed counts) status) same_told
    (subst (λ (ts : Texts). Keeps c (run_of told ts now_written after printed now_printed counts) status) same_texts
    (subst (λ (w : Texts). Keeps c (run_of told texts w after printed now_printed counts) status) same keeps))

-- What a list is made of: the inputs that were read of some texts, or why there are none.
use Rattle.std.specs.Prelude.{◌≡◌, Bool, true, Result, Ok, Err, IfOk, IfErr}
use Rattle.io_ports.specs.Faults.{FaultCounts}
use Rattle.command_contract.specs.Contract.{Texts}
use Rattle.front_end.specs.Means.{Meaning, Refusing}
use Rattle.load_problem.specs.declared.inputs.Inputs.{Inputs}
use Rattle.refusal.specs.declared.last_line.LastLine.{LastLine}
use Rattle.load_problem.specs.Inputs.{problem_in}
use Rattle.refusal.specs.Ends.{CountsOf, HasCause, IsSpared, status_of}
use Rattle.load_problem.specs.Means.{IsDigestOf, Means, Suspecting}
use Rattle.load_problem.specs.Refusals.{IsReady, Refused}
use Rattle.requests.specs.Asked.{FindAsked, wanted_for}
use Rattle.find_cmd.specs.Finding.{Causing}

-- what was read of texts, where they are told, with the counts of faults of their shelf before and behind it
pub record IsRead (M : Meaning) (R : Refusing) (S : Suspecting) (asked : FindAsked) (told : Bool) (texts : Texts) (old new : FaultCounts)
    (read : Result Inputs LastLine) : Type 0 where
  pub counts : CountsOf old new read
  pub means : told ≡ true → IfOk read (λ inputs. Means M S (wanted_for asked) texts (problem_in inputs asked.listing.size))
  pub digest : told ≡ true → IfOk read (λ inputs. IsDigestOf (wanted_for asked) texts inputs.digest)
  pub refused : told ≡ true → IfErr read (HasCause (Refused M R S (wanted_for asked) texts))
  pub only : told ≡ true → IsReady M S (wanted_for asked) texts → IfErr read IsSpared

-- nothing was read, since a text wasn't handed over
abbrev pub IsReadFault : Result Inputs LastLine → Type 0
IsReadFault (Ok inputs) = ⊥
IsReadFault (Err refusal) = status_of refusal ≡ 5

-- for which causes a list of what was read is refused: those of the texts, with 5 only where a text wasn't handed over
abbrev pub IsDueOf : Meaning → Refusing → Suspecting → FindAsked → Result Inputs LastLine → Causing
IsDueOf M R S asked read texts status line =
    Refused M R S (wanted_for asked) texts status line × (status ≡ 5 → IsReadFault read)

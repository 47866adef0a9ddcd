-- That a text wasn't handed over is said only of what was read.
use Rattle.std.proofs.Common.{ℕ, ◌≡◌, sym, ◌∙◌, subst, arith, inl, inr, Result, Err}
use Rattle.debug_core.specs.declared.error.DebugErr.{DebugErr}
use Rattle.debug_core.specs.declared.error.DebugErr.TheVariants.{Nodes, Vars, Literals, NoMemory}
use Rattle.report_doc.specs.declared.types.Ending.TheVariants.{Complete, Budget, Sets, Earlier}
use Rattle.load_problem.specs.declared.inputs.Inputs.{Inputs}
use Rattle.refusal.specs.declared.last_line.LastLine.{LastLine}
use Rattle.refusal.specs.declared.last_line.LastLine.TheVariants.{Line, Memory as Wanting}
use Rattle.refusal.specs.Ends.{PrintCounts, Says, status_of}
use Rattle.load_problem.specs.Refusals.{problem_line, problem_status}
use Rattle.list_writer.specs.declared.outcome.Outcome.{Outcome}
use Rattle.list_writer.specs.declared.outcome.Outcome.TheVariants.{Ended, Failed, Memory}
use Rattle.list_writer.specs.Outcomes.{status_of as outcome_status}
use Rattle.find_cmd.specs.Reading.{IsReadFault}

-- a line is printed with 5 only where that is its status
printed-five : (whole old new status : ℕ) → PrintCounts whole old new status → status ≡ 5 → whole ≡ 5
printed-five whole old new status (inl (six, rose)) five = absurd (omega (arith, six, five))
printed-five whole old new status (inr (inl is, same)) five = sym is ∙ five
printed-five whole old new status (inr (inr seven, same)) five = absurd (omega (arith, seven, five))

-- it is that of a refusal that was read
pub unread-fault : (read : Result Inputs LastLine) (refusal : LastLine) (old new status : ℕ) → read ≡ Err refusal
    → PrintCounts (status_of refusal) old new status → status ≡ 5 → IsReadFault read
unread-fault read refusal old new status is counts five =
    subst IsReadFault (sym is) (printed-five (status_of refusal) old new status counts five)

-- no problem has it
problem-other : (fault : DebugErr) → problem_status fault ≡ 5 → ⊥
problem-other Nodes e = omega (arith, e)
problem-other Vars e = omega (arith, e)
problem-other Literals e = omega (arith, e)
problem-other NoMemory e = omega (arith, e)

pub refusal-other : (fault : DebugErr) (refusal : LastLine) → Says refusal (problem_status fault) (problem_line fault)
    → status_of refusal ≡ 5 → ⊥
refusal-other fault (Line status line) says five = problem-other fault (sym says.0 ∙ five)
refusal-other fault Wanting says five = omega (arith, five)

pub unformed-fault : (read : Result Inputs LastLine) (fault : DebugErr) (refusal : LastLine) (old new status : ℕ)
    → Says refusal (problem_status fault) (problem_line fault) → PrintCounts (status_of refusal) old new status → status ≡ 5
    → IsReadFault read
unformed-fault read fault refusal old new status says counts five =
    absurd (refusal-other fault refusal says (printed-five (status_of refusal) old new status counts five))

-- and no listing ends with it
outcome-other : (o : Outcome) → outcome_status o ≡ 5 → ⊥
outcome-other (Ended Complete) e = omega (arith, e)
outcome-other (Ended Budget) e = omega (arith, e)
outcome-other (Ended Sets) e = omega (arith, e)
outcome-other (Ended Earlier) e = omega (arith, e)
outcome-other Failed e = omega (arith, e)
outcome-other Memory e = omega (arith, e)

pub listed-fault : (read : Result Inputs LastLine) (o : Outcome) (status : ℕ) → status ≡ outcome_status o → status ≡ 5
    → IsReadFault read
listed-fault read o status is five = absurd (outcome-other o (sym is ∙ five))

-- What the program says of a formula that was solved.
use Rattle.std.specs.Prelude.{ℕ, ◌+◌, ◌^◌, ◌≤◌, Bool, true, false, cond, List, [], ◌++◌, length, codes, decimal}
use Rattle.clause_base.specs.declared.literal.Lit.{Lit}
use Rattle.clause_base.specs.declared.log.Step.{Step}
use Rattle.clause_base.specs.Acceptance.{IsAccepted, IsLeastRefused}
use Rattle.sat_core.specs.declared.verdict.Verdict.{Verdict}
use Rattle.sat_core.specs.declared.verdict.Verdict.TheVariants.{Model, Closed, Spent}
use Rattle.dimacs_solver.specs.declared.run.Checked.{Checked}
use Rattle.dimacs_solver.specs.declared.run.Checked.TheVariants.{Accepted, Refused, TooLong}
use Rattle.dimacs_solver.specs.declared.report.Report.{Report}

-- what the check of a log without blocks says
abbrev pub ChecksAs : List (List Lit) → List Step → Checked → Type 0
ChecksAs form log Accepted = IsAccepted form [] log
ChecksAs form log (Refused step) = IsLeastRefused form [] log step
ChecksAs form log TooLong = 2 ^ 32 ≤ length log + 1

-- the line for a verdict
abbrev pub answer_line : Verdict → List ℕ
answer_line Model = codes "s SATISFIABLE\n"
answer_line (Closed step) = codes "s UNSATISFIABLE\n"
answer_line Spent = codes "s UNKNOWN\n"

-- the line for the check
abbrev pub log_line : Checked → List ℕ
log_line Accepted = codes "log accepted\n"
log_line (Refused step) = codes "log refused at " ++ decimal step ++ codes "\n"
log_line TooLong = codes "log too long\n"

-- the line for a model; other verdicts have none
abbrev pub model_line : Verdict → Bool → List ℕ
model_line Model true = codes "model satisfies every clause\n"
model_line Model false = codes "model leaves a clause false\n"
model_line (Closed step) satisfied = []
model_line Spent satisfied = []

-- a name and a number
abbrev pub count_line : List ℕ → ℕ → List ℕ
count_line name count = name ++ codes " " ++ decimal count ++ codes "\n"

-- the lines of a report
abbrev pub report_lines : Report → List ℕ
report_lines r =
    answer_line r.verdict ++ count_line (codes "conflicts") r.conflicts ++ count_line (codes "steps") r.steps
    ++ count_line (codes "chain numbers") r.chain_numbers ++ log_line r.checked ++ model_line r.verdict r.satisfied

-- the exit status where the log is accepted
abbrev pub status_with : Verdict → Bool → ℕ
status_with Model satisfied = cond satisfied 10 1
status_with (Closed step) satisfied = 20
status_with Spent satisfied = 30

-- the exit status, by the check
abbrev pub status_by : Checked → Verdict → Bool → ℕ
status_by Accepted verdict satisfied = status_with verdict satisfied
status_by (Refused step) verdict satisfied = 1
status_by TooLong verdict satisfied = 1

-- the exit status of the program
abbrev pub status_of : Report → ℕ
status_of r = status_by r.checked r.verdict r.satisfied

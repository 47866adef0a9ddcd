-- Private, for the functions inside this crate: the blocks of sets that were found, and the check of a log with them.
use Rattle.std.specs.Prelude.{◌≡◌, ◌+◌, ◌<◌, ◌^◌, List, All, IsSomeAnd, IsTrue, length, map}
use Rattle.design_core.specs.declared.values.SetWithValues.{SetWithValues}
use Rattle.clause_base.specs.declared.literal.Lit.{Lit}
use Rattle.clause_base.specs.declared.log.Step.{Step}
use Rattle.clause_base.specs.Acceptance.{IsAccepted}
use Rattle.clause_base.specs.Literal.{AreWithin, has_distinct_variables}
use Rattle.debug_core.specs.Debugging.{DebugState}
use Rattle.report_doc.specs.declared.types.Ending.TheVariants.{Complete}
use Rattle.set_enum.specs.Sets.{block_of}
use Rattle.list_writer.specs.declared.verdict.Checked.{Checked}
use Rattle.list_writer.specs.declared.verdict.Verdict.{Verdict}

-- the block of each set is a clause
abbrev pub AreSets : List SetWithValues → Type 0
AreSets found = All (λ set. IsTrue (has_distinct_variables (block_of set.members))) found

abbrev pub blocks_for : List SetWithValues → List (List Lit)
blocks_for found = map (λ set. block_of set.members) found

-- a log that is accepted after its form with these blocks, all of them over the form's variables
pub record CanBeChecked (s : DebugState) (found : List SetWithValues) : Type 0 where
  pub sets : AreSets found
  pub accepted : IsAccepted s.form (blocks_for found) s.log
  pub form_within : AreWithin s.vars s.form
  pub within : AreWithin s.vars (blocks_for found)
  pub few : length s.log + 1 < 2 ^ 32

-- what was checked is this log, after this form
abbrev pub IsCheckOf : List (List Lit) → List Step → Checked → Type 0
IsCheckOf form log checked = (checked.form.now.clauses ≡ form) × (checked.log.now ≡ log)

-- where a list is said to be whole, the log of its search was checked
abbrev pub IsVerdictOn : DebugState → Verdict → Type 0
IsVerdictOn s verdict = verdict.ending ≡ Complete → IsSomeAnd verdict.checked (IsCheckOf s.form s.log)

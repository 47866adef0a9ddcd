-- The suspects that a report has, and its top: whether they are the problem's, and the top of the words. Without that a suspect's kind,
-- label and line, which a person reads, would say nothing.
use Rattle.std.specs.Prelude.{ℕ, ◌≡◌, ◌≢◌, ◌-◌, ◌≤◌, List, map, slice_get, take}
use Rattle.debug_core.specs.Problems.{Problem}
use Rattle.report_sets.specs.Found.{suspect_of}
use Rattle.report_doc.specs.declared.types.ReportSuspect.{ReportSuspect}
use Rattle.check_cmd.specs.declared.table.TableFault.{TableFault}
use Rattle.check_cmd.specs.declared.table.TableFault.TheVariants.{Suspect, Top}
use Rattle.check_cmd.specs.Means.{Posed}

-- the suspects of a problem, as a report says of them: their kinds, their labels, and the lines of their first places
abbrev pub suspects_for : Problem → List ReportSuspect
suspects_for p = map (suspect_of p.design.places.items) p.groups

-- two lists are the same before the item of a number, from 1, and not in it: the items differ, or one of the lists has an end there
pub record DifferFirst {T : Type 0} (xs ys : List T) (number : ℕ) : Type 0 where
  pub counted : 1 ≤ number
  pub same : take (number - 1) xs ≡ take (number - 1) ys
  pub differ : slice_get xs (number - 1) ≢ slice_get ys (number - 1)

-- the report's top is the one of the words, and its suspects are the problem's
pub record HasTable (top : List ℕ) (p : Posed) : Type 0 where
  pub same_top : p.report.top ≡ top
  pub suspects : p.report.suspects ≡ suspects_for p.problem

-- the first of the two that isn't so: the top, or the first suspect, by its number, that is another one, is lacking, or is too many
abbrev pub IsTableFault : List ℕ → Posed → TableFault → Type 0
IsTableFault top p Top = p.report.top ≢ top
IsTableFault top p (Suspect number) = (p.report.top ≡ top) × DifferFirst p.report.suspects (suspects_for p.problem) number

-- What the code holds of a file: its rows, the row that defines each literal, and how signals and places are numbered.
use Rattle.std.specs.Prelude.{ℕ, ◌≡◌}
use Rattle.aiger_rules.specs.First.{place_of}
use Rattle.aiger_rules.specs.Literals.{definer}
use Rattle.aiger_design.specs.declared.file.File.{File}
use Rattle.aiger_design.specs.Numbering.{IsNumbered}

-- the table is that of the rows, and these are as many as are counted
pub record Stands (file : File) : Type 0 where
  pub table : (literal : ℕ) → place_of file.definers.now literal ≡ definer file.rows.now literal
  pub numbered : IsNumbered file.rows.now file.numbering

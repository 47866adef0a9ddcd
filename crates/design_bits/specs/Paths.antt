-- What statements in order read and surely assign, over lists.
use Rattle.std.specs.Prelude.{ℕ, Bool, false, not, ◌||◌, ◌&&◌, List, [], ◌∷◌}
use Rattle.std.specs.List.{list_any}
use Rattle.design_core.specs.declared.signal.Signal.{Signal}
use Rattle.design_core.specs.declared.statement.CaseItem.{CaseItem}
use Rattle.design_core.specs.declared.statement.Stmt.{Stmt}
use Rattle.design_core.specs.declared.driver.Driver.{Driver}
use Rattle.design_core.specs.declared.driver.Driver.TheVariants.{Cont, Comb}
use Rattle.design_core.specs.Reads.{statement_reads, assigns, assigns_either_way}
use Rattle.design_bits.specs.Rows.{label_reads}

-- whether some statement reads a bit that none before it surely assigned
abbrev pub sequence_reads : List Signal → ℕ → ℕ → List Stmt → Bool
sequence_reads signals s b [] = false
sequence_reads signals s b (statement ∷ rest) =
    statement_reads signals s b statement || (not (assigns signals s b statement) && sequence_reads signals s b rest)

-- whether a case item reads a bit before it surely assigned it
abbrev pub item_reads : List Signal → ℕ → ℕ → CaseItem → Bool
item_reads signals s b item = list_any (label_reads signals s b) item.labels || statement_reads signals s b item.body

-- whether a case item surely assigns a bit
abbrev pub item_assigns : List Signal → ℕ → ℕ → CaseItem → Bool
item_assigns signals s b item = assigns signals s b item.body

-- whether the statement of a case item assigns a bit by `=` or by `<=` on each of its paths
abbrev pub item_either_way : List Signal → ℕ → ℕ → CaseItem → Bool
item_either_way signals s b item = assigns_either_way signals s b item.body

-- whether a combinational block does
abbrev pub block_assigns : List Signal → ℕ → ℕ → Driver → Bool
block_assigns signals s b (Cont _ _ _ _) = false
block_assigns signals s b (Comb body _) = assigns_either_way signals s b body

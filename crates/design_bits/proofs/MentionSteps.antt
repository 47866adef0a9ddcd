-- What a statement reads anywhere, over lists.
use Rattle.std.proofs.Common.{◌≡◌, ℕ, List, ap, ◌∙◌, refl}
use Rattle.std.specs.Prelude.{Bool, ◌||◌}
use Rattle.std.specs.List.{list_any}
use Rattle.design_core.specs.declared.signal.Signal.{Signal}
use Rattle.design_core.specs.declared.expression.Typed.{Typed}
use Rattle.design_core.specs.declared.statement.CaseItem.{CaseItem}
use Rattle.design_core.specs.declared.statement.Stmt.{Stmt, Row_of-Stmt, end_of-Stmt, more_of-Stmt, items-the_row-Stmt, items_hidden-the_row-Stmt-0, Row_of-CaseItem, end_of-CaseItem, more_of-CaseItem, items-the_row-CaseItem, items_hidden-the_row-CaseItem-2}
use Rattle.design_core.specs.declared.statement.Stmt.TheVariants.{Block, If, Case}
use denote.Hole.Carrier.{hidden}
use Rattle.design_core.specs.declared.statement.Stmt.TheBlock.{shape-the_row-Stmt-1, hidden-the_row-Stmt-1, hidden-the_row-Stmt-0, hidden-the_row-CaseItem-2}
use Rattle.design_core.specs.Reads.{reads}
use Rattle.design_core.specs.Mentions.{statement_mentions, statements_mention, items_mention}
use Rattle.loc_base.proofs.ShelfBools.{or-assoc}
use Rattle.std.proofs.Common.{sym}
use Rattle.design_bits.specs.Rows.{label_reads, item_mentions}

mentions-list : {shape : _} (signals : List Signal) (s b : ℕ) (row : Row_of-Stmt shape) → statements_mention signals s b row ≡ list_any (statement_mentions signals s b) (items-the_row-Stmt shape row)
mentions-list signals s b end_of-Stmt = refl
mentions-list signals s b (more_of-Stmt statement rest) = ap (λ x. statement_mentions signals s b statement || x) (mentions-list signals s b rest)

items-list : {shape : _} (signals : List Signal) (s b : ℕ) (row : Row_of-CaseItem shape) → items_mention signals s b row ≡ list_any (item_mentions signals s b) (items-the_row-CaseItem shape row)
items-list signals s b end_of-CaseItem = refl
items-list signals s b (more_of-CaseItem labels body rest) =
    ap (λ x. list_any (label_reads signals s b) labels || (statement_mentions signals s b body || x)) (items-list signals s b rest)
    ∙ sym (or-assoc (list_any (label_reads signals s b) labels) (statement_mentions signals s b body) (list_any (item_mentions signals s b) (items-the_row-CaseItem _ rest)))

pub block-mentions : (signals : List Signal) (s b : ℕ) (statements : List Stmt) → statement_mentions signals s b (Block statements) ≡ list_any (statement_mentions signals s b) statements
block-mentions signals s b statements = mentions-list signals s b (hidden-the_row-Stmt-0 statements) ∙ ap (list_any (statement_mentions signals s b)) (items_hidden-the_row-Stmt-0 statements)

pub if-mentions : (signals : List Signal) (s b : ℕ) (test : Typed) (on_true on_false : Stmt)
    → statement_mentions signals s b (If test on_true on_false) ≡ (reads signals s b test || (statement_mentions signals s b on_true || statement_mentions signals s b on_false))
unfolding shape-the_row-Stmt-1 hidden-the_row-Stmt-1 hidden
if-mentions signals s b test on_true on_false = refl

pub case-mentions : (signals : List Signal) (s b : ℕ) (subject : Typed) (items : List CaseItem) (other : Stmt) (wild : Bool)
    → statement_mentions signals s b (Case subject items other wild) ≡ (reads signals s b subject || (list_any (item_mentions signals s b) items || statement_mentions signals s b other))
unfolding shape-the_row-Stmt-1 hidden-the_row-Stmt-1 hidden
case-mentions signals s b subject items other wild =
    ap (λ x. reads signals s b subject || (x || statement_mentions signals s b other))
    (items-list signals s b (hidden-the_row-CaseItem-2 items) ∙ ap (list_any (item_mentions signals s b)) (items_hidden-the_row-CaseItem-2 items))

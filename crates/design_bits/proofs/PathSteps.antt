-- What a statement reads before it surely assigned it, and what it surely assigns, over lists.
use Rattle.std.proofs.Common.{◌≡◌, ℕ, List, [], ◌∷◌, ◌++◌, ap, ◌∙◌, refl, sym, true, false}
use Rattle.std.specs.Prelude.{Bool, not, ◌&&◌, ◌||◌}
use Rattle.std.specs.List.{list_any, list_all}
use denote.Hole.Carrier.{hidden}
use Rattle.loc_base.proofs.ShelfBools.{or-false, or-assoc, and-false}
use Rattle.design_core.specs.declared.signal.Signal.{Signal}
use Rattle.design_core.specs.declared.expression.Typed.{Typed}
use Rattle.design_core.specs.declared.statement.CaseItem.{CaseItem}
use Rattle.design_core.specs.declared.statement.Stmt.{Stmt, Row_of-Stmt, end_of-Stmt, more_of-Stmt, items-the_row-Stmt, items_hidden-the_row-Stmt-0, Row_of-CaseItem, end_of-CaseItem, more_of-CaseItem, items-the_row-CaseItem, items_hidden-the_row-CaseItem-2}
use Rattle.design_core.specs.declared.statement.Stmt.TheVariants.{Block, If, Case}
use Rattle.design_core.specs.declared.statement.Stmt.TheBlock.{shape-the_row-Stmt-1, hidden-the_row-Stmt-1, hidden-the_row-Stmt-0, hidden-the_row-CaseItem-2}
use Rattle.design_core.specs.FullCase.{is_full}
use Rattle.design_core.specs.Reads.{reads, statement_reads, statements_read, items_read, assigns, some_assigns, all_assign, is_nothing}
use Rattle.design_bits.specs.Rows.{label_reads}
use Rattle.design_bits.specs.Paths.{sequence_reads, item_reads, item_assigns}

sequence-list : {shape : _} (signals : List Signal) (s b : ℕ) (row : Row_of-Stmt shape) → statements_read signals s b row ≡ sequence_reads signals s b (items-the_row-Stmt shape row)
sequence-list signals s b end_of-Stmt = refl
sequence-list signals s b (more_of-Stmt statement rest) =
    ap (λ x. statement_reads signals s b statement || (not (assigns signals s b statement) && x)) (sequence-list signals s b rest)

items-list : {shape : _} (signals : List Signal) (s b : ℕ) (row : Row_of-CaseItem shape) → items_read signals s b row ≡ list_any (item_reads signals s b) (items-the_row-CaseItem shape row)
items-list signals s b end_of-CaseItem = refl
items-list signals s b (more_of-CaseItem labels body rest) =
    ap (λ x. list_any (label_reads signals s b) labels || (statement_reads signals s b body || x)) (items-list signals s b rest)
    ∙ sym (or-assoc (list_any (label_reads signals s b) labels) (statement_reads signals s b body) (list_any (item_reads signals s b) (items-the_row-CaseItem _ rest)))

some-list : {shape : _} (signals : List Signal) (s b : ℕ) (row : Row_of-Stmt shape) → some_assigns signals s b row ≡ list_any (assigns signals s b) (items-the_row-Stmt shape row)
some-list signals s b end_of-Stmt = refl
some-list signals s b (more_of-Stmt statement rest) = ap (λ x. assigns signals s b statement || x) (some-list signals s b rest)

all-list : {shape : _} (signals : List Signal) (s b : ℕ) (row : Row_of-CaseItem shape) → all_assign signals s b row ≡ list_all (item_assigns signals s b) (items-the_row-CaseItem shape row)
all-list signals s b end_of-CaseItem = refl
all-list signals s b (more_of-CaseItem labels body rest) = ap (λ x. assigns signals s b body && x) (all-list signals s b rest)

-- ---- what statements as code makes them read
pub block-reads : (signals : List Signal) (s b : ℕ) (statements : List Stmt) → statement_reads signals s b (Block statements) ≡ sequence_reads signals s b statements
block-reads signals s b statements = sequence-list signals s b (hidden-the_row-Stmt-0 statements) ∙ ap (sequence_reads signals s b) (items_hidden-the_row-Stmt-0 statements)

pub if-reads : (signals : List Signal) (s b : ℕ) (test : Typed) (on_true on_false : Stmt)
    → statement_reads signals s b (If test on_true on_false) ≡ (reads signals s b test || (statement_reads signals s b on_true || statement_reads signals s b on_false))
unfolding shape-the_row-Stmt-1 hidden-the_row-Stmt-1 hidden
if-reads signals s b test on_true on_false = refl

pub case-reads : (signals : List Signal) (s b : ℕ) (subject : Typed) (items : List CaseItem) (other : Stmt) (wild : Bool)
    → statement_reads signals s b (Case subject items other wild) ≡ (reads signals s b subject || (list_any (item_reads signals s b) items || statement_reads signals s b other))
unfolding shape-the_row-Stmt-1 hidden-the_row-Stmt-1 hidden
case-reads signals s b subject items other wild =
    ap (λ x. reads signals s b subject || (x || statement_reads signals s b other))
    (items-list signals s b (hidden-the_row-CaseItem-2 items) ∙ ap (list_any (item_reads signals s b)) (items_hidden-the_row-CaseItem-2 items))

-- ---- what statements as code makes them surely assign
pub block-assigns : (signals : List Signal) (s b : ℕ) (statements : List Stmt) → assigns signals s b (Block statements) ≡ list_any (assigns signals s b) statements
block-assigns signals s b statements = some-list signals s b (hidden-the_row-Stmt-0 statements) ∙ ap (list_any (assigns signals s b)) (items_hidden-the_row-Stmt-0 statements)

pub if-assigns : (signals : List Signal) (s b : ℕ) (test : Typed) (on_true on_false : Stmt)
    → assigns signals s b (If test on_true on_false) ≡ (assigns signals s b on_true && assigns signals s b on_false)
unfolding shape-the_row-Stmt-1 hidden-the_row-Stmt-1 hidden
if-assigns signals s b test on_true on_false = refl

pub case-assigns : (signals : List Signal) (s b : ℕ) (subject : Typed) (items : List CaseItem) (other : Stmt) (wild : Bool)
    → assigns signals s b (Case subject items other wild)
    ≡ (list_all (item_assigns signals s b) items && ((is_nothing other && is_full signals subject (hidden-the_row-CaseItem-2 items)) || assigns signals s b other))
unfolding shape-the_row-Stmt-1 hidden-the_row-Stmt-1 hidden
case-assigns signals s b subject items other wild =
    ap (λ x. x && ((is_nothing other && is_full signals subject (hidden-the_row-CaseItem-2 items)) || assigns signals s b other))
    (all-list signals s b (hidden-the_row-CaseItem-2 items) ∙ ap (list_all (item_assigns signals s b)) (items_hidden-the_row-CaseItem-2 items))

-- ---- one statement more
spread : (r a q g x : Bool) → (r || (not a && (q || (not g && x)))) ≡ ((r || (not a && q)) || (not (a || g) && x))
spread true a q g x = refl
spread false true q g x = refl
spread false false q g x = refl

pub sequence-last : (signals : List Signal) (s b : ℕ) (xs : List Stmt) (x : Stmt)
    → sequence_reads signals s b (xs ++ x ∷ []) ≡ (sequence_reads signals s b xs || (not (list_any (assigns signals s b) xs) && statement_reads signals s b x))
sequence-last signals s b [] x =
    ap (λ q. statement_reads signals s b x || q) (and-false (not (assigns signals s b x))) ∙ or-false (statement_reads signals s b x)
sequence-last signals s b (y ∷ ys) x =
    ap (λ q. statement_reads signals s b y || (not (assigns signals s b y) && q)) (sequence-last signals s b ys x)
    ∙ spread (statement_reads signals s b y) (assigns signals s b y) (sequence_reads signals s b ys) (list_any (assigns signals s b) ys) (statement_reads signals s b x)

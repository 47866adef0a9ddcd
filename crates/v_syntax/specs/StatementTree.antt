-- The tree of statements without where it lies in memory, a case for each production (IEEE 1364-2005, clause 9 and A.6).
use Rattle.std.specs.Prelude.{List, [], ◌∷◌, map, Option, Some, None, option_map, Bool, true, false}
use Rattle.v_syntax.specs.declared.site.Site.{Site}
use Rattle.v_syntax.specs.declared.declaration.Identifier.{Identifier}
use Rattle.v_syntax.specs.declared.declaration.LoopHead.{LoopHead}
use Rattle.v_syntax.specs.declared.statement.AssignKind.{AssignKind}
use Rattle.v_syntax.specs.declared.statement.CaseKind.{CaseKind}
use Rattle.v_syntax.specs.declared.statement.Statement.{Statement}
use Rattle.v_syntax.specs.declared.statement.CaseItem.{CaseItem, fold-CaseItem}
use Rattle.v_syntax.specs.declared.statement.CaseItem.TheFolds.{fold-Statement}
use Rattle.v_syntax.specs.declared.statement.CaseItem.TheOpen.{Statement-F, CaseItem-F}
use Rattle.v_syntax.specs.Tree.{Tree, tree_of}
use Rattle.v_syntax.specs.PartTree.{PlainDelay, delay_of, PlainLeft, left_of}

-- the head of a loop
pub record PlainHead : Type 0 where
  pub site : Site
  pub variable : Identifier
  pub start : Tree
  pub condition : Tree
  pub next : Identifier
  pub step : Tree

mutual
  pub data PlainStatement : Type 0 where
    empty : Site → PlainStatement
    block : Site → Option Identifier → Statements → PlainStatement
    delayed : Site → PlainDelay → PlainStatement → PlainStatement
    if_then : Site → Tree → PlainStatement → PlainStatement
    if_else : Site → Tree → PlainStatement → PlainStatement → PlainStatement
    choice : Site → CaseKind → Tree → CaseItems → PlainStatement
    loop : Site → PlainHead → PlainStatement → PlainStatement
    assignment : Site → PlainLeft → AssignKind → Option PlainDelay → Tree → PlainStatement

  pub data Statements : Type 0 where
    no_statement : Statements
    statement : PlainStatement → Statements → Statements

  pub data PlainCaseItem : Type 0 where
    labelled : Site → List Tree → PlainStatement → PlainCaseItem
    otherwise : Site → PlainStatement → PlainCaseItem

  pub data CaseItems : Type 0 where
    no_item : CaseItems
    item : PlainCaseItem → CaseItems → CaseItems

abbrev pub statements_of : List PlainStatement → Statements
statements_of [] = no_statement
statements_of (x ∷ xs) = statement x (statements_of xs)

abbrev pub case_items_of : List PlainCaseItem → CaseItems
case_items_of [] = no_item
case_items_of (x ∷ xs) = item x (case_items_of xs)

abbrev pub head_of : LoopHead → PlainHead
head_of h =
    record { site = h.site; variable = h.variable; start = tree_of h.start; condition = tree_of h.condition; next = h.next; step = tree_of h.step }

-- if, with what stands behind its else
abbrev pub if_of : Site → Tree → PlainStatement → Option PlainStatement → PlainStatement
if_of s condition then None = if_then s condition then
if_of s condition then (Some other) = if_else s condition then other

-- one level of the code's tree, with what is inside already seen so
abbrev pub statement_step : Statement-F PlainCaseItem PlainStatement → PlainStatement
statement_step (Statement-F.Empty s) = empty s
statement_step (Statement-F.Block s label body) = block s label (statements_of body.items)
statement_step (Statement-F.Delayed s delay body) = delayed s (delay_of delay) body.value
statement_step (Statement-F.If s condition then other) = if_of s (tree_of condition) then.value (option_map (λ b. b.value) other)
statement_step (Statement-F.Case s kind subject items) = choice s kind (tree_of subject) (case_items_of items.items)
statement_step (Statement-F.For s head body) = loop s (head_of head) body.value
statement_step (Statement-F.Assign s target kind delay value) = assignment s (left_of target) kind (option_map delay_of delay) (tree_of value)

abbrev pub case_step : CaseItem-F PlainCaseItem PlainStatement → PlainCaseItem
case_step (CaseItem-F.Labels s labels body) = labelled s (map tree_of labels.items) body
case_step (CaseItem-F.Default s body) = otherwise s body

-- the code's tree
abbrev pub statement_of : Statement → PlainStatement
statement_of = fold-Statement PlainCaseItem PlainStatement case_step statement_step

abbrev pub case_item_of : CaseItem → PlainCaseItem
case_item_of = fold-CaseItem PlainCaseItem PlainStatement case_step statement_step

abbrev pub is_default : PlainCaseItem → Bool
is_default (labelled s labels body) = false
is_default (otherwise s body) = true

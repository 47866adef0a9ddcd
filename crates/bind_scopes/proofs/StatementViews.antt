-- The plain data of each variant of a statement as it is written.
use Rattle.std.proofs.Common.{◌≡◌, map, Option, Some, None, sym, ap, ◌∙◌}
use Rattle.std.specs.Prelude.{option_map}
use Rattle.std.specs.declared.boxed.Box.{Box}
use Rattle.std.specs.declared.vec.Vec.{Vec}
use Rattle.std.specs.declared.alloc.Global.{Global}
use Rattle.v_syntax.specs.declared.site.Site.{Site}
use Rattle.v_syntax.specs.declared.declaration.Delay.{Delay}
use Rattle.v_syntax.specs.declared.declaration.Identifier.{Identifier}
use Rattle.v_syntax.specs.declared.declaration.Left.{Left}
use Rattle.v_syntax.specs.declared.declaration.LoopHead.{LoopHead}
use Rattle.v_syntax.specs.declared.expression.Expr.{Expr}
use Rattle.v_syntax.specs.declared.statement.AssignKind.{AssignKind}
use Rattle.v_syntax.specs.declared.statement.CaseKind.{CaseKind}
use Rattle.v_syntax.specs.declared.statement.CaseItem.{CaseItem}
use Rattle.v_syntax.specs.declared.statement.CaseItem.TheFolds.{fold-roll-Statement}
use Rattle.v_syntax.specs.declared.statement.CaseItem.TheOpen.{Statement-F}
use Rattle.v_syntax.specs.declared.statement.Statement.{Statement}
use Rattle.v_syntax.specs.declared.statement.Statement.TheVariants as written
use Rattle.v_syntax.specs.Tree.{tree_of}
use Rattle.v_syntax.specs.PartTree.{delay_of, left_of}
use Rattle.v_syntax.specs.StatementTree.{PlainStatement, PlainCaseItem, empty, block, delayed, if_then, if_else, choice, loop, assignment, head_of, statements_of, case_items_of, statement_of, case_item_of, statement_step, case_step}

pub statement_of_empty : (s : Site) → statement_of (written.Empty s) ≡ empty s
statement_of_empty s = ap statement_of (sym (written.rolls-Empty s)) ∙ fold-roll-Statement PlainCaseItem PlainStatement case_step statement_step (Statement-F.Empty s)

pub statement_of_block : (s : Site) (label : Option Identifier) (body : Vec Statement Global) → statement_of (written.Block s label body) ≡ block s label (statements_of (map statement_of body.items))
statement_of_block s label body =
    ap statement_of (sym (written.rolls-Block s label body)) ∙ fold-roll-Statement PlainCaseItem PlainStatement case_step statement_step (Statement-F.Block s label body)

pub statement_of_delayed : (s : Site) (delay : Delay) (body : Box Statement Global) → statement_of (written.Delayed s delay body) ≡ delayed s (delay_of delay) (statement_of body.value)
statement_of_delayed s delay body =
    ap statement_of (sym (written.rolls-Delayed s delay body)) ∙ fold-roll-Statement PlainCaseItem PlainStatement case_step statement_step (Statement-F.Delayed s delay body)

pub statement_of_if : (s : Site) (condition : Expr) (on_true : Box Statement Global) → statement_of (written.If s condition on_true None) ≡ if_then s (tree_of condition) (statement_of on_true.value)
statement_of_if s condition on_true =
    ap statement_of (sym (written.rolls-If s condition on_true None)) ∙ fold-roll-Statement PlainCaseItem PlainStatement case_step statement_step (Statement-F.If s condition on_true None)

pub statement_of_if_else : (s : Site) (condition : Expr) (on_true other : Box Statement Global)
    → statement_of (written.If s condition on_true (Some other)) ≡ if_else s (tree_of condition) (statement_of on_true.value) (statement_of other.value)
statement_of_if_else s condition on_true other =
    ap statement_of (sym (written.rolls-If s condition on_true (Some other)))
    ∙ fold-roll-Statement PlainCaseItem PlainStatement case_step statement_step (Statement-F.If s condition on_true (Some other))

pub statement_of_case : (s : Site) (kind : CaseKind) (subject : Expr) (items : Vec CaseItem Global)
    → statement_of (written.Case s kind subject items) ≡ choice s kind (tree_of subject) (case_items_of (map case_item_of items.items))
statement_of_case s kind subject items =
    ap statement_of (sym (written.rolls-Case s kind subject items)) ∙ fold-roll-Statement PlainCaseItem PlainStatement case_step statement_step (Statement-F.Case s kind subject items)

pub statement_of_for : (s : Site) (head : LoopHead) (body : Box Statement Global) → statement_of (written.For s head body) ≡ loop s (head_of head) (statement_of body.value)
statement_of_for s head body =
    ap statement_of (sym (written.rolls-For s head body)) ∙ fold-roll-Statement PlainCaseItem PlainStatement case_step statement_step (Statement-F.For s head body)

pub statement_of_assign : (s : Site) (target : Left) (kind : AssignKind) (delay : Option Delay) (value : Expr)
    → statement_of (written.Assign s target kind delay value) ≡ assignment s (left_of target) kind (option_map delay_of delay) (tree_of value)
statement_of_assign s target kind delay value =
    ap statement_of (sym (written.rolls-Assign s target kind delay value))
    ∙ fold-roll-Statement PlainCaseItem PlainStatement case_step statement_step (Statement-F.Assign s target kind delay value)

pub ruleset statement_views = (
  statement_of_empty,
  statement_of_block,
  statement_of_delayed,
  statement_of_if,
  statement_of_if_else,
  statement_of_case,
  statement_of_for,
  statement_of_assign,
)

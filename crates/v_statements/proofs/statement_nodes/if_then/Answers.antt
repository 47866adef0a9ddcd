use Rattle.std.proofs.Common.{◌∙◌, ap, sym, None}
use Rattle.v_syntax.specs.Tree.{tree_of}
use Rattle.v_syntax.specs.declared.statement.Statement.TheVariants as variant
use Rattle.v_syntax.specs.declared.statement.CaseItem.TheFolds.{fold-roll-Statement}
use Rattle.v_syntax.specs.declared.statement.CaseItem.TheOpen.{Statement-F}
use Rattle.v_syntax.specs.StatementTree.{PlainStatement, PlainCaseItem, if_then, case_step, statement_step, statement_of}
use Rattle.v_statements.proofs.statement_nodes.if_then.Goals as goal

pub returns : goal.returns
returns c =
    let s = c.args.site in
    let e = c.args.condition in
    let b = c.in_ok-then.then in
    ap statement_of (sym (variant.rolls-If s e b None)) ∙ fold-roll-Statement PlainCaseItem PlainStatement case_step statement_step (Statement-F.If s e b None)
    ∙ ap (λ q. if_then s (tree_of e) (statement_of q)) c.in_ok-then.ensures.ok

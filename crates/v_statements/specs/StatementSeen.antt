-- What contracts see of the statements that a reader found.
use Rattle.std.specs.Prelude.{ℕ, List, map}
use Rattle.std.specs.declared.vec.Vec.{Vec}
use Rattle.std.specs.declared.alloc.Global.{Global}
use Rattle.v_syntax.specs.declared.declaration.LoopHead.{LoopHead}
use Rattle.v_syntax.specs.declared.statement.Statement.{Statement}
use Rattle.v_syntax.specs.declared.statement.CaseItem.{CaseItem}
use Rattle.v_syntax.specs.StatementTree.{PlainHead, head_of, PlainStatement, statement_of, PlainCaseItem, case_item_of}

abbrev pub seen_head : LoopHead × ℕ → PlainHead × ℕ
seen_head x = (head_of x.0, x.1)

abbrev pub seen_statement : Statement × ℕ → PlainStatement × ℕ
seen_statement x = (statement_of x.0, x.1)

abbrev pub seen_statements : Vec Statement Global × ℕ → List PlainStatement × ℕ
seen_statements x = (map statement_of x.0.items, x.1)

abbrev pub seen_case_item : CaseItem × ℕ → PlainCaseItem × ℕ
seen_case_item x = (case_item_of x.0, x.1)

abbrev pub seen_case_items : Vec CaseItem Global × ℕ → List PlainCaseItem × ℕ
seen_case_items x = (map case_item_of x.0.items, x.1)

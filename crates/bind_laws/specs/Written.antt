-- What the grammar gives of the modules of a text, beside what their trees show.
use Rattle.std.specs.Prelude.{⊤, ◌≡◌, Bool, true, false, ◌∷◌, None}
use Rattle.v_syntax.specs.StatementTree.{PlainStatement, empty, block, delayed, if_then, if_else, choice, loop, assignment, Statements, no_statement, statement, labelled, otherwise, CaseItems, no_item, item}
use Rattle.v_syntax.specs.ItemTree.{PlainDeclarator, PlainItem, net_item, always_item, generate_item, loop_item, if_item, if_else_item, PlainBlock, single, several, Items, no_items, more_items, items_of}
use Rattle.v_syntax.specs.ModuleTree.{same_port, PlainPorts, declared_ports, PlainModule}
use Rattle.bind_laws.specs.Every.{Every, IfGiven}

-- ---- a case has one default at most (IEEE 1364-2005, A.6.7)
abbrev mutual
  pub WrittenStatement : PlainStatement → Type 0
  WrittenStatement (empty _) = ⊤
  WrittenStatement (block _ _ body) = WrittenStatements body
  WrittenStatement (delayed _ _ s) = WrittenStatement s
  WrittenStatement (if_then _ _ on_true) = WrittenStatement on_true
  WrittenStatement (if_else _ _ on_true other) = WrittenStatement on_true × WrittenStatement other
  WrittenStatement (choice _ _ _ arms) = WrittenArms false arms
  WrittenStatement (loop _ _ body) = WrittenStatement body
  WrittenStatement (assignment _ _ _ _ _) = ⊤

  pub WrittenStatements : Statements → Type 0
  WrittenStatements no_statement = ⊤
  WrittenStatements (statement s rest) = WrittenStatement s × WrittenStatements rest

  -- behind arms of which one was a default, if `had` says so
  pub WrittenArms : Bool → CaseItems → Type 0
  WrittenArms had no_item = ⊤
  WrittenArms had (item (labelled _ _ s) rest) = WrittenStatement s × WrittenArms had rest
  WrittenArms had (item (otherwise _ s) rest) = (had ≡ false) × WrittenStatement s × WrittenArms true rest

-- ---- what has a value is no array (A.2.4)
abbrev pub WrittenDeclarator : PlainDeclarator → Type 0
WrittenDeclarator d = IfGiven d.value (d.range ≡ None)

abbrev mutual
  pub WrittenItem : PlainItem → Type 0
  WrittenItem (net_item _ _ _ _ _ list) = Every WrittenDeclarator list
  WrittenItem (always_item _ _ body) = WrittenStatement body
  WrittenItem (generate_item _ items) = WrittenItems items
  WrittenItem (loop_item _ _ body) = WrittenBlock body
  WrittenItem (if_item _ _ on_true) = WrittenBlock on_true
  WrittenItem (if_else_item _ _ on_true other) = WrittenBlock on_true × WrittenBlock other
  WrittenItem _ = ⊤

  pub WrittenBlock : PlainBlock → Type 0
  WrittenBlock (single _ x) = WrittenItem x
  WrittenBlock (several _ _ items) = WrittenItems items

  pub WrittenItems : Items → Type 0
  WrittenItems no_items = ⊤
  WrittenItems (more_items x xs) = WrittenItem x × WrittenItems xs

-- ---- the first port that a header declares has words of its own (A.1.3)
abbrev pub has_words : PlainPorts → Bool
has_words (declared_ports (same_port _ _ _ ∷ _)) = false
has_words _ = true

pub record WrittenModule (m : PlainModule) : Type 0 where
  pub ports : has_words m.ports ≡ true
  pub items : WrittenItems (items_of m.items)

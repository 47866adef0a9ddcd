-- The nodes of a statement (IEEE 1364-2005, clause 9): it takes two maps, the one that is read and the one of later updates, and
-- leaves two. Where a statement chooses, both arms start from the same maps, and a node chooses for each signal in which they
-- differ.
use Rattle.std.specs.Prelude.{ℕ, zero, suc, ◌+◌, ◌==◌, Bool, if◌then◌else◌, List, [], ◌∷◌, length, get_or, set}
use Rattle.loc_base.specs.Bits.{value_of}
use Rattle.design_core.specs.declared.signal.Signal.{Signal}
use Rattle.design_core.specs.declared.expression.BinaryOp.TheVariants as binary_op
use Rattle.design_core.specs.declared.expression.Typed.{Typed}
use Rattle.design_core.specs.declared.statement.Part.{Part}
use Rattle.design_core.specs.declared.statement.Label.{Label}
use Rattle.design_core.specs.declared.statement.Stmt.{Stmt, Row_of-Stmt, end_of-Stmt, more_of-Stmt, Row_of-CaseItem, end_of-CaseItem, more_of-CaseItem}
use Rattle.design_core.specs.declared.statement.Stmt.TheVariants as stmt
use Rattle.design_core.specs.Valuation.{width_at}
use Rattle.design_core.specs.Store.{parts_width}
use Rattle.word_net.specs.declared.node.Operand.{Operand}
use Rattle.word_net.specs.declared.node.Operation.TheVariants as operation
use Rattle.word_net.specs.declared.node.WordNode.{WordNode}
use Rattle.word_net.specs.Build.{Made, made, pushed}
use Rattle.synth_parts.specs.Expression.{unsigned, truth_made, typed_made}
use Rattle.synth_parts.specs.Store.{Nodes, nodes_made, indexes_made, parts_stored}

-- the nodes, the node of each signal as it is read, and as it is updated later
pub record Maps : Type 0 where
  pub nodes : List WordNode
  pub now : List ℕ
  pub later : List ℕ

abbrev pub maps : List WordNode → List ℕ → List ℕ → Maps
maps nodes now later = record { nodes = nodes; now = now; later = later }

-- one of two words of a width, where they differ
unfoldable pub chosen_made : List WordNode → ℕ → ℕ → ℕ → ℕ → Made
chosen_made nodes test width one other =
    if one == other then made nodes other
    else pushed nodes width (operation.Choose (unsigned test 1) (unsigned one width) (unsigned other width))

-- one signal of one map: that of an arm beside that of the other
unfoldable pub row_made : List WordNode → ℕ → ℕ → ℕ → List ℕ → List ℕ → Nodes
row_made nodes test width s arm map =
    let a = chosen_made nodes test width (get_or arm s 0) (get_or map s 0) in nodes_made a.nodes (set map s a.node)

-- the maps of two arms become one, for the signals from one on, so many of them: the map that is read before that of later updates
unfoldable pub merged : List Signal → ℕ → Maps → Maps → ℕ → ℕ → Maps
merged signals test arm m s zero = m
merged signals test arm m s (suc more) =
    let width = width_at signals s in
    let a = row_made m.nodes test width s arm.now m.now in
    let b = row_made a.nodes test width s arm.later m.later in
    merged signals test arm (maps b.nodes a.each b.each) (s + 1) more

-- an assignment: its value, what its place assigns, its indexes, and then the store
unfoldable pub set_made : List Signal → Maps → ℕ → List Part → Typed → Bool → Maps
set_made signals m place parts computed later =
    let width = parts_width signals parts in
    let v = typed_made signals m.now m.nodes computed in
    let f = pushed v.nodes width (operation.Free place (unsigned v.node computed.width)) in
    let i = indexes_made signals m.now f.nodes [] parts in
    if later
    then (let s = parts_stored signals i.nodes m.later parts i.each (unsigned f.node width) in maps s.nodes m.now s.each)
    else (let s = parts_stored signals i.nodes m.now parts i.each (unsigned f.node width) in maps s.nodes s.each m.later)

-- whether the subject of a case is equal to a label outside its wild bits
unfoldable pub label_made : List Signal → List ℕ → List WordNode → Operand → Label → Made
label_made signals now nodes subject label =
    let width = subject.width in
    let v = typed_made signals now nodes label.value in
    let w = pushed v.nodes width (operation.Const (value_of label.wild)) in
    let one = pushed w.nodes width (operation.Binary binary_op.Or subject (unsigned w.node width)) in
    let other = pushed one.nodes width (operation.Binary binary_op.Or (unsigned v.node width) (unsigned w.node width)) in
    pushed other.nodes 1 (operation.Binary binary_op.Equal (unsigned one.node width) (unsigned other.node width))

-- whether it is equal to one of the labels, or something was so far
unfoldable pub labels_made : List Signal → List ℕ → List WordNode → ℕ → Operand → List Label → Made
labels_made signals now nodes so_far subject [] = made nodes so_far
labels_made signals now nodes so_far subject (label ∷ labels) =
    let l = label_made signals now nodes subject label in
    let m = pushed l.nodes 1 (operation.Binary binary_op.Or (unsigned so_far 1) (unsigned l.node 1)) in
    labels_made signals now m.nodes m.node subject labels

-- the condition of a case item
unfoldable pub item_test : List Signal → List ℕ → List WordNode → Operand → List Label → Made
item_test signals now nodes subject labels =
    let none = pushed nodes 1 (operation.Const 0) in labels_made signals now none.nodes none.node subject labels

unfoldable mutual
  -- the maps after a statement
  pub statement_made : List Signal → Maps → Stmt → Maps
  statement_made signals m stmt.Nothing = m
  statement_made signals m (stmt.Block' _ statements) = statements_made signals m statements
  statement_made signals m (stmt.If' test _ (more_of-Stmt on_true end_of-Stmt) _ (more_of-Stmt on_false end_of-Stmt)) =
      let c = typed_made signals m.now m.nodes test in
      let t = truth_made c.nodes c.node test.width in
      let one = statement_made signals (maps t.nodes m.now m.later) on_true in
      let other = statement_made signals (maps one.nodes m.now m.later) on_false in
      merged signals t.node one other 0 (length signals)
  statement_made signals m (stmt.Case' subject _ items _ (more_of-Stmt other end_of-Stmt) _) =
      let v = typed_made signals m.now m.nodes subject in
      items_made signals (maps v.nodes m.now m.later) (unsigned v.node subject.width) items (λ k. statement_made signals k other)
  statement_made signals m (stmt.Set place target computed later) = set_made signals m place target.parts computed later

  -- statements in order
  pub statements_made : {shape : _} → List Signal → Maps → Row_of-Stmt shape → Maps
  statements_made signals m end_of-Stmt = m
  statements_made signals m (more_of-Stmt statement rest) = statements_made signals (statement_made signals m statement) rest

  -- the items of a case as a chain of choices; what follows the last one is given
  pub items_made : {shape : _} → List Signal → Maps → Operand → Row_of-CaseItem shape → (Maps → Maps) → Maps
  items_made signals m subject end_of-CaseItem other = other m
  items_made signals m subject (more_of-CaseItem labels body rest) other =
      let t = item_test signals m.now m.nodes subject labels in
      let one = statement_made signals (maps t.nodes m.now m.later) body in
      let next = items_made signals (maps one.nodes m.now m.later) subject rest other in
      merged signals t.node one next 0 (length signals)

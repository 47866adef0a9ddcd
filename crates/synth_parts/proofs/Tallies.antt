-- Expressions, stores and statements make no node that reads an input or a state, and one for each place that they assign.
use Rattle.std.proofs.Common.{◌≡◌, ℕ, zero, suc, ◌+◌, Bool, true, false, List, [], ◌∷◌, ◌++◌, length, refl, ◌∙◌, ap, arith}
use Rattle.std.specs.Prelude.{◌==◌, if◌then◌else◌, Option, Some, None}
use Rattle.std.specs.Option.{option_map_or}
use Rattle.design_core.specs.declared.signal.Signal.{Signal}
use Rattle.design_core.specs.declared.expression.Typed.{Typed}
use Rattle.design_core.specs.declared.expression.Node.{Node, Row_of-Typed, end_of-Typed, more_of-Typed}
use Rattle.design_core.specs.declared.expression.Node.TheVariants as node
use Rattle.design_core.specs.declared.expression.BinaryOp.TheVariants as binary_op
use Rattle.design_core.specs.declared.statement.Part.{Part}
use Rattle.design_core.specs.declared.statement.Part.TheVariants as part
use Rattle.design_core.specs.declared.statement.Label.{Label}
use Rattle.design_core.specs.declared.statement.Stmt.{Stmt, Row_of-Stmt, end_of-Stmt, more_of-Stmt, Row_of-CaseItem, end_of-CaseItem, more_of-CaseItem}
use Rattle.design_core.specs.declared.statement.Stmt.TheVariants as stmt
use Rattle.design_core.specs.declared.driver.Driver.{Driver}
use Rattle.design_core.specs.declared.driver.Driver.TheVariants as driver
use Rattle.design_core.specs.Valuation.{width_at}
use Rattle.design_core.specs.Store.{parts_width}
use Rattle.word_net.specs.declared.node.Operand.{Operand}
use Rattle.word_net.specs.declared.node.Operation.{Operation}
use Rattle.word_net.specs.declared.node.Operation.TheVariants as operation
use Rattle.word_net.specs.declared.node.WordNode.{WordNode}
use Rattle.word_net.specs.Build.{Made, made, pushed}
use Rattle.synth_parts.specs.declared.array_parts.ArrayPart.{ArrayPart}
use Rattle.synth_parts.specs.declared.store.Stored.{Stored}
use Rattle.synth_parts.specs.Expression.{Prepared, unsigned, operand, is_logical, truth_made, prepared, word_made, words_made, array_made, expression_made, join_made, parts_made, typed_made}
use Rattle.synth_parts.specs.Store.{Nodes, index_made, indexes_made, signal_set, word_stored, words_stored, part_stored, parts_stored}
use Rattle.synth_parts.specs.Statement.{Maps, maps, chosen_made, row_made, merged, set_made, label_made, labels_made, item_test, statement_made, statements_made, items_made}
use Rattle.synth_parts.specs.Driver.{assigned_made, driver_made}
use Rattle.synth_parts.specs.Tally.{Weights, weight, tally, placed_in, placed_in_all, placed_in_items, placed_in_driver}

pub tally-append : (w : Weights) (one other : List WordNode) → tally w (one ++ other) ≡ tally w one + tally w other
unfolding tally
tally-append w [] other = omega arith
tally-append w (node ∷ one) other = omega (arith, tally-append w one other)

-- a new node
pub tally-pushed : (w : Weights) (nodes : List WordNode) (width : ℕ) (op : Operation) → tally w (pushed nodes width op).nodes ≡ tally w nodes + weight w width op
unfolding tally pushed
tally-pushed w nodes width op = omega (arith, tally-append w nodes (record { width = width; operation = op } ∷ []))

-- a new node that weighs nothing
pub light : (w : Weights) (nodes : List WordNode) (width : ℕ) (op : Operation) → weight w width op ≡ 0 → tally w (pushed nodes width op).nodes ≡ tally w nodes
light w nodes width op none = omega (arith, tally-pushed w nodes width op, none)

-- ---- expressions

truth-tally : (w : Weights) (nodes : List WordNode) (word width : ℕ) → tally w (truth_made nodes word width).nodes ≡ tally w nodes
unfolding truth_made
truth-tally w nodes word width = light w nodes 1 _ refl

prepared-tally : (w : Weights) (logical : Bool) (nodes : List WordNode) (word width : ℕ) (signed : Bool) → tally w (prepared logical nodes word width signed).nodes ≡ tally w nodes
unfolding prepared
prepared-tally w true nodes word width signed = truth-tally w nodes word width
prepared-tally w false nodes word width signed = refl

words-tally : (w : Weights) (signals : List Signal) (nodes_of : List ℕ) (array : ArrayPart) (nodes : List WordNode) (so_far place more : ℕ)
    → tally w (words_made signals nodes_of array nodes so_far place more).nodes ≡ tally w nodes
unfolding words_made word_made
words-tally w signals nodes_of array nodes so_far place zero = refl
words-tally w signals nodes_of array nodes so_far place (suc more) =
    let m : Made = word_made signals nodes_of array nodes so_far place in
    words-tally w signals nodes_of array m.nodes m.node (place + 1) more ∙ light w _ array.width _ refl ∙ light w _ array.width _ refl ∙ light w nodes 1 _ refl

array-tally : (w : Weights) (signals : List Signal) (nodes_of : List ℕ) (array : ArrayPart) (nodes : List WordNode) (count : ℕ) → tally w (array_made signals nodes_of array nodes count).nodes ≡ tally w nodes
unfolding array_made
array-tally w signals nodes_of array nodes count =
    let none : Made = pushed nodes array.width (operation.Const 0) in
    words-tally w signals nodes_of array none.nodes none.node 0 count ∙ light w nodes array.width _ refl

mutual
  unfolding expression_made join_made parts_made

  pub expression-tally : (w : Weights) (signals : List Signal) (nodes_of : List ℕ) (width : ℕ) (e : Node) (nodes : List WordNode) → tally w (expression_made signals nodes_of nodes width e).nodes ≡ tally w nodes
  expression-tally w signals nodes_of width (node.Const word) nodes = light w nodes width _ refl
  expression-tally w signals nodes_of width (node.Whole s) nodes = refl
  expression-tally w signals nodes_of width (node.Slice s from size) nodes = light w nodes size _ refl
  expression-tally w signals nodes_of width (node.Pick' s _ (more_of-Typed index_width signed index end_of-Typed) offsets) nodes =
      light w _ width _ refl ∙ expression-tally w signals nodes_of index_width index nodes
  expression-tally w signals nodes_of width (node.Word' first count low _ (more_of-Typed index_width signed index end_of-Typed) from size) nodes =
      let i : Made = expression_made signals nodes_of nodes index_width index in
      array-tally w signals nodes_of (record { first = first; low = low; index = operand i.node index_width signed; from = from; width = size }) i.nodes count
      ∙ expression-tally w signals nodes_of index_width index nodes
  expression-tally w signals nodes_of width (node.Unary' op _ (more_of-Typed arg_width _ arg end_of-Typed)) nodes =
      light w _ width _ refl ∙ expression-tally w signals nodes_of arg_width arg nodes
  expression-tally w signals nodes_of width (node.Binary' op _ (more_of-Typed left_width left_signed left end_of-Typed) _ (more_of-Typed right_width right_signed right end_of-Typed)) nodes =
      let a : Made = expression_made signals nodes_of nodes left_width left in
      let l : Prepared = prepared (is_logical op) a.nodes a.node left_width left_signed in
      let b : Made = expression_made signals nodes_of l.nodes right_width right in
      light w _ width _ refl ∙ prepared-tally w (is_logical op) b.nodes b.node right_width right_signed ∙ expression-tally w signals nodes_of right_width right l.nodes
      ∙ prepared-tally w (is_logical op) a.nodes a.node left_width left_signed ∙ expression-tally w signals nodes_of left_width left nodes
  expression-tally w signals nodes_of width (node.Choose' _ (more_of-Typed cond_width _ test end_of-Typed) _ (more_of-Typed true_width _ on_true end_of-Typed) _ (more_of-Typed false_width _ on_false end_of-Typed)) nodes =
      let c : Made = expression_made signals nodes_of nodes cond_width test in
      let t : Made = truth_made c.nodes c.node cond_width in
      let a : Made = expression_made signals nodes_of t.nodes true_width on_true in
      light w _ width _ refl ∙ expression-tally w signals nodes_of false_width on_false a.nodes ∙ expression-tally w signals nodes_of true_width on_true t.nodes
      ∙ truth-tally w c.nodes c.node cond_width ∙ expression-tally w signals nodes_of cond_width test nodes
  expression-tally w signals nodes_of width (node.Join' _ parts) nodes = join-tally w signals nodes_of width parts nodes
  expression-tally w signals nodes_of width (node.Repeat' times _ (more_of-Typed part_width _ part end_of-Typed)) nodes =
      light w _ width _ refl ∙ expression-tally w signals nodes_of part_width part nodes
  expression-tally w signals nodes_of width (node.Resize' _ (more_of-Typed arg_width signed arg end_of-Typed)) nodes =
      light w _ width _ refl ∙ expression-tally w signals nodes_of arg_width arg nodes

  join-tally : {shape : _} (w : Weights) (signals : List Signal) (nodes_of : List ℕ) (width : ℕ) (parts : Row_of-Typed shape) (nodes : List WordNode) → tally w (join_made signals nodes_of nodes width parts).nodes ≡ tally w nodes
  join-tally w signals nodes_of width end_of-Typed nodes = light w nodes width _ refl
  join-tally w signals nodes_of width (more_of-Typed part_width _ part rest) nodes =
      let p : Made = expression_made signals nodes_of nodes part_width part in
      parts-tally w signals nodes_of p.node part_width rest p.nodes ∙ expression-tally w signals nodes_of part_width part nodes

  parts-tally : {shape : _} (w : Weights) (signals : List Signal) (nodes_of : List ℕ) (left left_width : ℕ) (parts : Row_of-Typed shape) (nodes : List WordNode)
      → tally w (parts_made signals nodes_of nodes left left_width parts).nodes ≡ tally w nodes
  parts-tally w signals nodes_of left left_width end_of-Typed nodes = refl
  parts-tally w signals nodes_of left left_width (more_of-Typed part_width _ part rest) nodes =
      let p : Made = expression_made signals nodes_of nodes part_width part in
      let j : Made = pushed p.nodes (left_width + part_width) (operation.Join (unsigned left left_width) (unsigned p.node part_width)) in
      parts-tally w signals nodes_of j.node (left_width + part_width) rest j.nodes ∙ light w p.nodes (left_width + part_width) _ refl ∙ expression-tally w signals nodes_of part_width part nodes

-- ---- stores

index-tally : (w : Weights) (signals : List Signal) (nodes_of : List ℕ) (nodes : List WordNode) (p : Part) → tally w (index_made signals nodes_of nodes p).nodes ≡ tally w nodes
unfolding index_made
index-tally w signals nodes_of nodes (part.Whole _) = refl
index-tally w signals nodes_of nodes (part.Slice _ _ _) = refl
index-tally w signals nodes_of nodes (part.Pick _ index _) = expression-tally w signals nodes_of index.width index.node nodes
index-tally w signals nodes_of nodes (part.Word _ _ _ index _ _) = expression-tally w signals nodes_of index.width index.node nodes

pub indexes-tally : (w : Weights) (signals : List Signal) (nodes_of : List ℕ) (nodes : List WordNode) (indexes : List ℕ) (parts : List Part) → tally w (indexes_made signals nodes_of nodes indexes parts).nodes ≡ tally w nodes
unfolding indexes_made
indexes-tally w signals nodes_of nodes indexes [] = refl
indexes-tally w signals nodes_of nodes indexes (p ∷ parts) =
    let i : Made = index_made signals nodes_of nodes p in
    indexes-tally w signals nodes_of i.nodes (indexes ++ i.node ∷ []) parts ∙ index-tally w signals nodes_of nodes p

set-tally : (w : Weights) (signals : List Signal) (nodes : List WordNode) (nodes_of : List ℕ) (s : ℕ) (op : Operation) → weight w (width_at signals s) op ≡ 0 → tally w (signal_set signals nodes nodes_of s op).nodes ≡ tally w nodes
unfolding signal_set
set-tally w signals nodes nodes_of s op none = light w nodes (width_at signals s) op none

stored-tally : (w : Weights) (signals : List Signal) (array : ArrayPart) (stored : Stored) (nodes : List WordNode) (nodes_of : List ℕ) (place more : ℕ)
    → tally w (words_stored signals array stored nodes nodes_of place more).nodes ≡ tally w nodes
unfolding words_stored word_stored
stored-tally w signals array stored nodes nodes_of place zero = refl
stored-tally w signals array stored nodes nodes_of place (suc more) =
    let m : Nodes = word_stored signals array stored nodes nodes_of place in
    let width : ℕ = width_at signals (array.first + place) in
    stored-tally w signals array stored m.nodes m.each (place + 1) more
    ∙ set-tally w signals _ nodes_of (array.first + place) _ refl ∙ light w _ width _ refl ∙ light w nodes 1 _ refl

part-tally : (w : Weights) (signals : List Signal) (nodes : List WordNode) (nodes_of : List ℕ) (p : Part) (at : ℕ) (stored : Stored) → tally w (part_stored signals nodes nodes_of p at stored).nodes ≡ tally w nodes
unfolding part_stored
part-tally w signals nodes nodes_of (part.Whole s) at stored = set-tally w signals nodes nodes_of s _ refl
part-tally w signals nodes nodes_of (part.Slice s from size) at stored = set-tally w signals nodes nodes_of s _ refl
part-tally w signals nodes nodes_of (part.Pick s index offsets) at stored = set-tally w signals nodes nodes_of s _ refl
part-tally w signals nodes nodes_of (part.Word first count low index from width) at stored =
    stored-tally w signals (record { first = first; low = low; index = operand at index.width index.signed; from = from; width = width }) stored nodes nodes_of 0 count

pub store-tally : (w : Weights) (signals : List Signal) (nodes : List WordNode) (nodes_of : List ℕ) (parts : List Part) (indexes : List ℕ) (word : Operand) → tally w (parts_stored signals nodes nodes_of parts indexes word).nodes ≡ tally w nodes
unfolding parts_stored
store-tally w signals nodes nodes_of [] indexes word = refl
store-tally w signals nodes nodes_of (p ∷ parts) [] word = refl
store-tally w signals nodes nodes_of (p ∷ parts) (index ∷ indexes) word =
    let stored : Stored = record { word = word; offset = parts_width signals parts } in
    let m : Nodes = part_stored signals nodes nodes_of p index stored in
    store-tally w signals m.nodes m.each parts indexes word ∙ part-tally w signals nodes nodes_of p index stored

-- ---- statements

chosen-tally : (w : Weights) (nodes : List WordNode) (test width one other : ℕ) → tally w (chosen_made nodes test width one other).nodes ≡ tally w nodes
unfolding chosen_made
chosen-tally w nodes test width one other = at (one == other)
  where
    at : (t : Bool) → tally w (if t then made nodes other else pushed nodes width (operation.Choose (unsigned test 1) (unsigned one width) (unsigned other width))).nodes ≡ tally w nodes
    at true = refl
    at false = light w nodes width _ refl

pub merged-tally : (w : Weights) (signals : List Signal) (test : ℕ) (arm m : Maps) (s more : ℕ) → tally w (merged signals test arm m s more).nodes ≡ tally w m.nodes
unfolding merged row_made
merged-tally w signals test arm m s zero = refl
merged-tally w signals test arm m s (suc more) =
    let width : ℕ = width_at signals s in
    let a : Nodes = row_made m.nodes test width s arm.now m.now in
    let b : Nodes = row_made a.nodes test width s arm.later m.later in
    merged-tally w signals test arm (maps b.nodes a.each b.each) (s + 1) more ∙ chosen-tally w a.nodes test width _ _ ∙ chosen-tally w m.nodes test width _ _

set_made-tally : (w : Weights) (signals : List Signal) (m : Maps) (place : ℕ) (parts : List Part) (computed : Typed) (later : Bool)
    → tally w (set_made signals m place parts computed later).nodes ≡ tally w m.nodes + w.place (parts_width signals parts) place
unfolding set_made
set_made-tally w signals m place parts computed later = at later
  where
    width : ℕ
    width = parts_width signals parts

    v : Made
    v = typed_made signals m.now m.nodes computed

    f : Made
    f = pushed v.nodes width (operation.Free place (unsigned v.node computed.width))

    i : Nodes
    i = indexes_made signals m.now f.nodes [] parts

    freed : tally w i.nodes ≡ tally w m.nodes + w.place (parts_width signals parts) place
    freed =
        indexes-tally w signals m.now f.nodes [] parts ∙ tally-pushed w v.nodes width (operation.Free place (unsigned v.node computed.width))
        ∙ ap (λ n. n + w.place (parts_width signals parts) place) (expression-tally w signals m.now computed.width computed.node m.nodes)

    at : (t : Bool) → tally w (if t
        then (let s = parts_stored signals i.nodes m.later parts i.each (unsigned f.node width) in maps s.nodes m.now s.each)
        else (let s = parts_stored signals i.nodes m.now parts i.each (unsigned f.node width) in maps s.nodes s.each m.later)).nodes ≡ tally w m.nodes + w.place (parts_width signals parts) place
    at true = store-tally w signals i.nodes m.later parts i.each (unsigned f.node width) ∙ freed
    at false = store-tally w signals i.nodes m.now parts i.each (unsigned f.node width) ∙ freed

label-tally : (w : Weights) (signals : List Signal) (now : List ℕ) (nodes : List WordNode) (subject : Operand) (label : Label) → tally w (label_made signals now nodes subject label).nodes ≡ tally w nodes
unfolding label_made
label-tally w signals now nodes subject label =
    light w _ 1 _ refl ∙ light w _ subject.width _ refl ∙ light w _ subject.width _ refl ∙ light w _ subject.width _ refl ∙ expression-tally w signals now label.value.width label.value.node nodes

labels-tally : (w : Weights) (signals : List Signal) (now : List ℕ) (nodes : List WordNode) (so_far : ℕ) (subject : Operand) (labels : List Label) → tally w (labels_made signals now nodes so_far subject labels).nodes ≡ tally w nodes
unfolding labels_made
labels-tally w signals now nodes so_far subject [] = refl
labels-tally w signals now nodes so_far subject (label ∷ labels) =
    let l : Made = label_made signals now nodes subject label in
    let m : Made = pushed l.nodes 1 (operation.Binary binary_op.Or (unsigned so_far 1) (unsigned l.node 1)) in
    labels-tally w signals now m.nodes m.node subject labels ∙ light w l.nodes 1 _ refl ∙ label-tally w signals now nodes subject label

test-tally : (w : Weights) (signals : List Signal) (now : List ℕ) (nodes : List WordNode) (subject : Operand) (labels : List Label) → tally w (item_test signals now nodes subject labels).nodes ≡ tally w nodes
unfolding item_test
test-tally w signals now nodes subject labels =
    let none : Made = pushed nodes 1 (operation.Const 0) in
    labels-tally w signals now none.nodes none.node subject labels ∙ light w nodes 1 _ refl

mutual
  unfolding statement_made statements_made items_made

  pub statement-tally : (w : Weights) (signals : List Signal) (m : Maps) (s : Stmt) → tally w (statement_made signals m s).nodes ≡ tally w m.nodes + placed_in w signals s
  statement-tally w signals m stmt.Nothing = omega arith
  statement-tally w signals m (stmt.Block' _ statements) = statements-tally w signals m statements
  statement-tally w signals m (stmt.If' test _ (more_of-Stmt on_true end_of-Stmt) _ (more_of-Stmt on_false end_of-Stmt)) =
      let c : Made = typed_made signals m.now m.nodes test in
      let t : Made = truth_made c.nodes c.node test.width in
      let one : Maps = statement_made signals (maps t.nodes m.now m.later) on_true in
      let other : Maps = statement_made signals (maps one.nodes m.now m.later) on_false in
      omega (
        arith,
        merged-tally w signals t.node one other 0 (length signals),
        statement-tally w signals (maps one.nodes m.now m.later) on_false,
        statement-tally w signals (maps t.nodes m.now m.later) on_true,
        truth-tally w c.nodes c.node test.width,
        expression-tally w signals m.now test.width test.node m.nodes,
      )
  statement-tally w signals m (stmt.Case' subject _ items _ (more_of-Stmt other end_of-Stmt) _) =
      let v : Made = typed_made signals m.now m.nodes subject in
      omega (
        arith,
        items-tally w signals (maps v.nodes m.now m.later) (unsigned v.node subject.width) items (λ k. statement_made signals k other) (placed_in w signals other) (λ k. statement-tally w signals k other),
        expression-tally w signals m.now subject.width subject.node m.nodes,
      )
  statement-tally w signals m (stmt.Set place target computed later) = set_made-tally w signals m place target.parts computed later

  statements-tally : {shape : _} (w : Weights) (signals : List Signal) (m : Maps) (row : Row_of-Stmt shape) → tally w (statements_made signals m row).nodes ≡ tally w m.nodes + placed_in_all w signals row
  statements-tally w signals m end_of-Stmt = omega arith
  statements-tally w signals m (more_of-Stmt statement rest) =
      omega (arith, statements-tally w signals (statement_made signals m statement) rest, statement-tally w signals m statement)

  items-tally : {shape : _} (w : Weights) (signals : List Signal) (m : Maps) (subject : Operand) (row : Row_of-CaseItem shape) (other : Maps → Maps) (n : ℕ) → ((k : Maps) → tally w (other k).nodes ≡ tally w k.nodes + n)
      → tally w (items_made signals m subject row other).nodes ≡ tally w m.nodes + placed_in_items w signals row + n
  items-tally w signals m subject end_of-CaseItem other n last = omega (arith, last m)
  items-tally w signals m subject (more_of-CaseItem labels body rest) other n last =
      let t : Made = item_test signals m.now m.nodes subject labels in
      let one : Maps = statement_made signals (maps t.nodes m.now m.later) body in
      let next : Maps = items_made signals (maps one.nodes m.now m.later) subject rest other in
      omega (
        arith,
        merged-tally w signals t.node one next 0 (length signals),
        items-tally w signals (maps one.nodes m.now m.later) subject rest other n last,
        statement-tally w signals (maps t.nodes m.now m.later) body,
        test-tally w signals m.now m.nodes subject labels,
      )

-- ---- drivers

assigned-tally : (w : Weights) (nodes : List WordNode) (place : Option ℕ) (width : ℕ) (computed : Operand)
    → tally w (assigned_made nodes place width computed).nodes ≡ tally w nodes + option_map_or (w.place width) place 0
unfolding assigned_made
assigned-tally w nodes None width computed = omega arith
assigned-tally w nodes (Some place) width computed = tally-pushed w nodes width (operation.Free place computed)

pub driver-tally : (w : Weights) (signals : List Signal) (nodes : List WordNode) (nodes_of : List ℕ) (d : Driver) → tally w (driver_made signals nodes nodes_of d).nodes ≡ tally w nodes + placed_in_driver w signals d
unfolding driver_made
driver-tally w signals nodes nodes_of (driver.Cont target computed place _) =
    let v : Made = typed_made signals nodes_of nodes computed in
    let a : Prepared = assigned_made v.nodes place (parts_width signals target.parts) (unsigned v.node computed.width) in
    let i : Nodes = indexes_made signals nodes_of a.nodes [] target.parts in
    store-tally w signals i.nodes nodes_of target.parts i.each a.operand ∙ indexes-tally w signals nodes_of a.nodes [] target.parts
    ∙ assigned-tally w v.nodes place (parts_width signals target.parts) (unsigned v.node computed.width)
    ∙ ap (λ n. n + option_map_or (w.place (parts_width signals target.parts)) place 0) (expression-tally w signals nodes_of computed.width computed.node nodes)
driver-tally w signals nodes nodes_of (driver.Comb body _) = statement-tally w signals (maps nodes nodes_of nodes_of) body

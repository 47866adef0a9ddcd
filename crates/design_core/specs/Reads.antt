-- Which bits an expression, a statement and a driver read (IEEE 1364-2005, 9.7.5 for what a combinational block
-- follows), which drivers depend on each other, and in which orders none depends on a later one.
use Rattle.std.specs.Prelude.{ℕ, ◌≡◌, ◌≢◌, ◌<◌, ◌==◌, Bool, true, false, not, ◌&&◌, ◌||◌, nat_lt, IsTrue, List, length, slice_get, Some, All, AllPairs, Contains}
use Rattle.std.specs.List.{list_any}
use Rattle.design_core.specs.declared.signal.Signal.{Signal}
use Rattle.design_core.specs.declared.expression.Typed.{Typed}
use Rattle.design_core.specs.declared.expression.Node.{Node, Row_of-Typed, end_of-Typed, more_of-Typed}
use Rattle.design_core.specs.declared.expression.Node.TheVariants.{Const, Whole, Slice, Pick', Word', Unary', Binary', Choose', Join', Repeat', Resize'}
use Rattle.design_core.specs.declared.statement.Part.{Part}
use Rattle.design_core.specs.declared.statement.Part.TheVariants as part
use Rattle.design_core.specs.declared.statement.Stmt.{Stmt, Row_of-Stmt, end_of-Stmt, more_of-Stmt, Row_of-CaseItem, end_of-CaseItem, more_of-CaseItem}
use Rattle.design_core.specs.declared.statement.Stmt.TheVariants.{Nothing, Block', If', Case', Set}
use Rattle.design_core.specs.declared.driver.Driver.{Driver}
use Rattle.design_core.specs.declared.driver.Driver.TheVariants.{Cont, Comb}
use Rattle.design_core.specs.declared.design.Design.{Design}
use Rattle.design_core.specs.Valuation.{Valuation, width_at}
use Rattle.design_core.specs.Pick.{may_pick, must_pick}
use Rattle.design_core.specs.FullCase.{is_full}
use Rattle.design_core.specs.Drives.{is_among, driver_drives}

-- two valuations agree on the bits that pass a test
pub record AgreeOn (test : ℕ → ℕ → Bool) (V W : Valuation) : Type 0 where
  pub same : (s b : ℕ) → IsTrue (test s b) → V s b ≡ W s b

-- whether a node of a width reads a bit: a select by a constant reads its bits alone, one by a variable index all bits of
-- its signal, and a word of an array at a variable address its bits of all words
abbrev mutual
  pub node_reads : List Signal → ℕ → ℕ → ℕ → Node → Bool
  node_reads signals s b width (Const _) = false
  node_reads signals s b width (Whole signal) = s == signal && nat_lt b width
  node_reads signals s b width (Slice signal from size) = s == signal && is_among from size b
  node_reads signals s b width (Pick' signal _ (more_of-Typed index_width signed index end_of-Typed) offsets) =
      (s == signal && may_pick signals signal index_width signed index offsets b) || node_reads signals s b index_width index
  node_reads signals s b width (Word' first count _ _ (more_of-Typed index_width _ index end_of-Typed) from size) =
      (is_among first count s && is_among from size b) || node_reads signals s b index_width index
  node_reads signals s b width (Unary' _ _ (more_of-Typed arg_width _ arg end_of-Typed)) = node_reads signals s b arg_width arg
  node_reads signals s b width (Binary' _ _ (more_of-Typed left_width _ left end_of-Typed) _ (more_of-Typed right_width _ right end_of-Typed)) =
      node_reads signals s b left_width left || node_reads signals s b right_width right
  node_reads signals s b width (Choose' _ (more_of-Typed cond_width _ cond end_of-Typed) _ (more_of-Typed true_width _ on_true end_of-Typed) _ (more_of-Typed false_width _ on_false end_of-Typed)) =
      node_reads signals s b cond_width cond
      || (node_reads signals s b true_width on_true || node_reads signals s b false_width on_false)
  node_reads signals s b width (Join' _ parts) = parts_read signals s b parts
  node_reads signals s b width (Repeat' _ _ (more_of-Typed part_width _ part end_of-Typed)) = node_reads signals s b part_width part
  node_reads signals s b width (Resize' _ (more_of-Typed arg_width _ arg end_of-Typed)) = node_reads signals s b arg_width arg

  -- whether some part of a concatenation reads a bit
  pub parts_read : {shape : _} → List Signal → ℕ → ℕ → Row_of-Typed shape → Bool
  parts_read signals s b end_of-Typed = false
  parts_read signals s b (more_of-Typed width _ node rest) = node_reads signals s b width node || parts_read signals s b rest

-- whether an expression reads a bit
abbrev pub reads : List Signal → ℕ → ℕ → Typed → Bool
reads signals s b e = node_reads signals s b e.width e.node

-- whether a part of a left side reads a bit: its index does
abbrev pub part_reads : List Signal → ℕ → ℕ → Part → Bool
part_reads signals s b (part.Whole _) = false
part_reads signals s b (part.Slice _ _ _) = false
part_reads signals s b (part.Pick _ index _) = reads signals s b index
part_reads signals s b (part.Word _ _ _ index _ _) = reads signals s b index

-- whether a part of a left side surely assigns a bit: not where a variable index names it
abbrev pub part_assigns : List Signal → ℕ → ℕ → Part → Bool
part_assigns signals s b (part.Whole signal) = s == signal && nat_lt b (width_at signals signal)
part_assigns signals s b (part.Slice signal from width) = s == signal && is_among from width b
part_assigns signals s b (part.Pick signal index offsets) =
    s == signal && must_pick signals signal index.width index.signed index.node offsets b
part_assigns signals s b (part.Word _ _ _ _ _ _) = false

abbrev pub is_nothing : Stmt → Bool
is_nothing Nothing = true
is_nothing (Block' _ _) = false
is_nothing (If' _ _ _ _ _) = false
is_nothing (Case' _ _ _ _ _ _) = false
is_nothing (Set _ _ _ _) = false

-- whether each path of a statement has an assignment that passes a test of its left side's parts and of its being
-- nonblocking; where a case has no statement for other values of its subject, and takes an item for each of them, no
-- path takes none
abbrev mutual
  pub on_all_paths : List Signal → (List Part → Bool → Bool) → Stmt → Bool
  on_all_paths signals test Nothing = false
  on_all_paths signals test (Block' _ statements) = some_on_all_paths signals test statements
  on_all_paths signals test (If' _ _ (more_of-Stmt on_true end_of-Stmt) _ (more_of-Stmt on_false end_of-Stmt)) = on_all_paths signals test on_true && on_all_paths signals test on_false
  on_all_paths signals test (Case' subject _ items _ (more_of-Stmt other end_of-Stmt) _) =
      all_on_all_paths signals test items && ((is_nothing other && is_full signals subject items) || on_all_paths signals test other)
  on_all_paths signals test (Set _ target _ later) = test target.parts later

  pub some_on_all_paths : {shape : _} → List Signal → (List Part → Bool → Bool) → Row_of-Stmt shape → Bool
  some_on_all_paths signals test end_of-Stmt = false
  some_on_all_paths signals test (more_of-Stmt statement rest) = on_all_paths signals test statement || some_on_all_paths signals test rest

  pub all_on_all_paths : {shape : _} → List Signal → (List Part → Bool → Bool) → Row_of-CaseItem shape → Bool
  all_on_all_paths signals test end_of-CaseItem = true
  all_on_all_paths signals test (more_of-CaseItem _ body rest) = on_all_paths signals test body && all_on_all_paths signals test rest

-- whether an assignment surely assigns a bit by `=`
abbrev pub assigns_at_once : List Signal → ℕ → ℕ → List Part → Bool → Bool
assigns_at_once signals s b parts later = not later && list_any (part_assigns signals s b) parts

-- whether a statement assigns a bit by `=` on each of its paths
abbrev pub assigns : List Signal → ℕ → ℕ → Stmt → Bool
assigns signals s b statement = on_all_paths signals (assigns_at_once signals s b) statement

abbrev pub some_assigns : {shape : _} → List Signal → ℕ → ℕ → Row_of-Stmt shape → Bool
some_assigns signals s b statements = some_on_all_paths signals (assigns_at_once signals s b) statements

abbrev pub all_assign : {shape : _} → List Signal → ℕ → ℕ → Row_of-CaseItem shape → Bool
all_assign signals s b items = all_on_all_paths signals (assigns_at_once signals s b) items

-- whether a statement assigns a bit by `=` or by `<=` on each of its paths: a combinational block that does not would
-- hold the bit's last value (IEEE 1364.1-2002, 5.3)
abbrev pub assigns_either_way : List Signal → ℕ → ℕ → Stmt → Bool
assigns_either_way signals s b statement = on_all_paths signals (λ parts later. list_any (part_assigns signals s b) parts) statement

-- whether some path of a statement reads a bit before it has surely assigned it
abbrev mutual
  pub statement_reads : List Signal → ℕ → ℕ → Stmt → Bool
  statement_reads signals s b Nothing = false
  statement_reads signals s b (Block' _ statements) = statements_read signals s b statements
  statement_reads signals s b (If' cond _ (more_of-Stmt on_true end_of-Stmt) _ (more_of-Stmt on_false end_of-Stmt)) =
      reads signals s b cond || (statement_reads signals s b on_true || statement_reads signals s b on_false)
  statement_reads signals s b (Case' subject _ items _ (more_of-Stmt other end_of-Stmt) _) =
      reads signals s b subject || (items_read signals s b items || statement_reads signals s b other)
  statement_reads signals s b (Set _ target value _) =
      reads signals s b value || list_any (part_reads signals s b) target.parts

  pub statements_read : {shape : _} → List Signal → ℕ → ℕ → Row_of-Stmt shape → Bool
  statements_read signals s b end_of-Stmt = false
  statements_read signals s b (more_of-Stmt statement rest) =
      statement_reads signals s b statement || (not (assigns signals s b statement) && statements_read signals s b rest)

  pub items_read : {shape : _} → List Signal → ℕ → ℕ → Row_of-CaseItem shape → Bool
  items_read signals s b end_of-CaseItem = false
  items_read signals s b (more_of-CaseItem labels body rest) =
      list_any (λ label. reads signals s b label.value) labels
      || (statement_reads signals s b body || items_read signals s b rest)

-- whether a driver reads a bit
abbrev pub driver_reads : List Signal → ℕ → ℕ → Driver → Bool
driver_reads signals s b (Cont target value _ _) = reads signals s b value || list_any (part_reads signals s b) target.parts
driver_reads signals s b (Comb body _) = statement_reads signals s b body

-- one driver depends on another, or on itself: it reads a bit that the other drives
pub record Depends (d : Design) (i j : ℕ) : Type 0 where
  pub reader : Driver
  pub source : Driver
  pub is_reader : slice_get d.drivers.items i ≡ Some reader
  pub is_source : slice_get d.drivers.items j ≡ Some source
  pub signal : ℕ
  pub position : ℕ
  pub read : IsTrue (driver_reads d.signals.items signal position reader)
  pub driven : IsTrue (driver_drives d.signals.items signal position source)

-- an order of all drivers, by their numbers, in which none depends on itself or on a later one
pub record IsOrder (d : Design) (order : List ℕ) : Type 0 where
  pub numbers : All (λ i. i < length d.drivers.items) order
  pub complete : (i : ℕ) → i < length d.drivers.items → Contains order i
  pub distinct : AllPairs (λ i j. i ≢ j) order
  pub not_itself : All (λ i. ¬ Depends d i i) order
  pub not_later : AllPairs (λ i j. ¬ Depends d i j) order

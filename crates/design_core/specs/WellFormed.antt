-- When a design is well formed: numbers in range, widths and signs that fit (IEEE 1364-2005, clause 5), each place in
-- exactly one driver or statement.
-- What is drivable, driven and free of races are rules of the step that makes designs, and are not said here.
use Rattle.std.specs.Prelude.{ℕ, ◌≡◌, ◌≢◌, ◌<◌, ◌+◌, ◌*◌, ◌==◌, Bool, true, false, not, ◌&&◌, if◌then◌else◌, nat_le, nat_lt, IsTrue, ℤ, pos, negsuc, List, length, take, drop, slice_get, sum_by, AllPairs}
use Rattle.std.specs.Option.{option_map_or}
use Rattle.std.specs.List.{list_any, list_all}
use Rattle.loc_base.specs.Bits.{width_of}
use Rattle.design_core.specs.declared.signal.Signal.{Signal}
use Rattle.design_core.specs.declared.signal.SignalKind.{SignalKind}
use Rattle.design_core.specs.declared.signal.SignalKind.TheVariants as kind
use Rattle.design_core.specs.declared.expression.UnaryOp.{UnaryOp}
use Rattle.design_core.specs.declared.expression.UnaryOp.TheVariants as unary_op
use Rattle.design_core.specs.declared.expression.BinaryOp.{BinaryOp}
use Rattle.design_core.specs.declared.expression.BinaryOp.TheVariants as binary_op
use Rattle.design_core.specs.declared.expression.Typed.{Typed}
use Rattle.design_core.specs.declared.expression.Node.{Node, Row_of-Typed, end_of-Typed, more_of-Typed}
use Rattle.design_core.specs.declared.expression.Node.TheVariants as node
use Rattle.design_core.specs.declared.statement.Part.{Part}
use Rattle.design_core.specs.declared.statement.Part.TheVariants as part
use Rattle.design_core.specs.declared.statement.Label.{Label}
use Rattle.design_core.specs.declared.statement.Stmt.{Stmt, Row_of-Stmt, end_of-Stmt, more_of-Stmt, Row_of-CaseItem, end_of-CaseItem, more_of-CaseItem}
use Rattle.design_core.specs.declared.statement.Stmt.TheVariants as stmt
use Rattle.design_core.specs.declared.driver.Driver.{Driver}
use Rattle.design_core.specs.declared.driver.Driver.TheVariants as driver
use Rattle.design_core.specs.declared.driver.Reset.{Reset}
use Rattle.design_core.specs.declared.driver.Clocked.{Clocked}
use Rattle.design_core.specs.declared.place.Place.{Place}
use Rattle.design_core.specs.declared.design.Design.{Design}
use Rattle.design_core.specs.Valuation.{width_at, distance_of}
use Rattle.design_core.specs.Constant.{is_constant}
use Rattle.design_core.specs.Store.{part_width, parts_width}

-- a width of 1 to 128 bits
abbrev pub is_width : ℕ → Bool
is_width width = nat_le 1 width && nat_le width 128

-- the positions from the one declared rightmost to the one declared leftmost are as many as the width
abbrev pub spans : ℕ → ℤ → Bool
spans width (pos distance) = distance + 1 == width
spans width (negsuc _) = false

-- a signal's range and start value have its width
abbrev pub signal_fits : Signal → Bool
signal_fits s = is_width s.width && spans s.width (distance_of s.left s.right s.left) && width_of s.start == s.width

-- the number of a signal
abbrev pub is_signal : List Signal → ℕ → Bool
is_signal signals s = nat_lt s (length signals)

-- bits of a signal, `width` of them from `from` on
abbrev pub slice_fits : List Signal → ℕ → ℕ → ℕ → Bool
slice_fits signals s from width = is_signal signals s && is_width width && nat_le (from + width) (width_at signals s)

-- bits of each word of an array, whose words are of one width
abbrev pub words_fit : List Signal → ℕ → ℕ → ℕ → ℕ → Bool
words_fit signals first count from width =
    nat_le 1 count && nat_le (first + count) (length signals) && slice_fits signals first from width
    && list_all (λ s. s.width == width_at signals first) (take count (drop first signals))

-- the width of an operator's result beside that of its operand
abbrev pub unary_fits : UnaryOp → ℕ → ℕ → Bool
unary_fits unary_op.Plus width arg = width == arg
unary_fits unary_op.Minus width arg = width == arg
unary_fits unary_op.Not width arg = width == arg
unary_fits _ width arg = width == 1

-- both operands have the width of the result
abbrev pub same_widths : ℕ → ℕ → ℕ → Bool
same_widths width left right = width == left && width == right

-- the operands of a comparison have one width
abbrev pub compared_widths : ℕ → ℕ → ℕ → Bool
compared_widths width left right = width == 1 && left == right

-- the width of an operator's result beside those of its operands
abbrev pub binary_fits : BinaryOp → ℕ → ℕ → ℕ → Bool
binary_fits binary_op.Add width left right = same_widths width left right
binary_fits binary_op.Subtract width left right = same_widths width left right
binary_fits binary_op.Multiply width left right = same_widths width left right
binary_fits binary_op.And width left right = same_widths width left right
binary_fits binary_op.Or width left right = same_widths width left right
binary_fits binary_op.Xor width left right = same_widths width left right
binary_fits binary_op.Xnor width left right = same_widths width left right
binary_fits binary_op.ShiftLeft width left right = width == left
binary_fits binary_op.ShiftRight width left right = width == left
binary_fits binary_op.ArithmeticShiftLeft width left right = width == left
binary_fits binary_op.ArithmeticShiftRight width left right = width == left
binary_fits binary_op.Less width left right = compared_widths width left right
binary_fits binary_op.LessEqual width left right = compared_widths width left right
binary_fits binary_op.Greater width left right = compared_widths width left right
binary_fits binary_op.GreaterEqual width left right = compared_widths width left right
binary_fits binary_op.Equal width left right = compared_widths width left right
binary_fits binary_op.NotEqual width left right = compared_widths width left right
binary_fits binary_op.LogicalAnd width left right = width == 1
binary_fits binary_op.LogicalOr width left right = width == 1

-- two signs are one: both signed, or both unsigned
abbrev pub same_sign : Bool → Bool → Bool
same_sign one other = if one then other else not other

-- the sign of a result beside those of its operands, as sized (5.5.2): an arithmetic shift to the right has that of its
-- left operand (5.1.12), and the operands of a comparison have one (5.1.7, 5.1.8)
abbrev pub signs_fit : BinaryOp → Bool → Bool → Bool → Bool
signs_fit binary_op.ArithmeticShiftRight signed left right = same_sign signed left
signs_fit binary_op.Less signed left right = same_sign left right
signs_fit binary_op.LessEqual signed left right = same_sign left right
signs_fit binary_op.Greater signed left right = same_sign left right
signs_fit binary_op.GreaterEqual signed left right = same_sign left right
signs_fit binary_op.Equal signed left right = same_sign left right
signs_fit binary_op.NotEqual signed left right = same_sign left right
signs_fit _ signed left right = true

-- the number of bits of a concatenation
abbrev pub joined_width : {shape : _} → Row_of-Typed shape → ℕ
joined_width end_of-Typed = 0
joined_width (more_of-Typed width _ _ rest) = width + joined_width rest

abbrev mutual
  -- whether a node is one of this width and sign
  pub node_fits : List Signal → ℕ → Bool → Node → Bool
  node_fits signals width signed (node.Const word) = is_width width && width_of word == width
  node_fits signals width signed (node.Whole s) = is_width width && is_signal signals s && width_at signals s == width
  node_fits signals width signed (node.Slice s from size) = slice_fits signals s from size && size == width
  node_fits signals width signed (node.Pick' s _ (more_of-Typed index_width index_signed index end_of-Typed) offsets) =
      is_width width && is_signal signals s && length offsets == width && node_fits signals index_width index_signed index
  node_fits signals width signed (node.Word' first count _ _ (more_of-Typed index_width index_signed index end_of-Typed) from size) =
      words_fit signals first count from size && size == width && node_fits signals index_width index_signed index
  node_fits signals width signed (node.Unary' op _ (more_of-Typed arg_width arg_signed arg end_of-Typed)) =
      is_width width && unary_fits op width arg_width && node_fits signals arg_width arg_signed arg
  node_fits signals width signed (node.Binary' op _ (more_of-Typed left_width left_signed left end_of-Typed) _ (more_of-Typed right_width right_signed right end_of-Typed)) =
      is_width width && binary_fits op width left_width right_width && signs_fit op signed left_signed right_signed
      && node_fits signals left_width left_signed left && node_fits signals right_width right_signed right
  node_fits signals width signed (node.Choose' _ (more_of-Typed cond_width cond_signed cond end_of-Typed) _ (more_of-Typed true_width true_signed on_true end_of-Typed) _ (more_of-Typed false_width false_signed on_false end_of-Typed)) =
      same_widths width true_width false_width && node_fits signals cond_width cond_signed cond
      && node_fits signals true_width true_signed on_true && node_fits signals false_width false_signed on_false
  node_fits signals width signed (node.Join' _ parts) = is_width width && joined_width parts == width && parts_fit signals parts
  node_fits signals width signed (node.Repeat' times _ (more_of-Typed part_width part_signed part end_of-Typed)) =
      is_width width && times * part_width == width && node_fits signals part_width part_signed part
  node_fits signals width signed (node.Resize' _ (more_of-Typed arg_width arg_signed arg end_of-Typed)) = is_width width && node_fits signals arg_width arg_signed arg

  pub parts_fit : {shape : _} → List Signal → Row_of-Typed shape → Bool
  parts_fit signals end_of-Typed = true
  parts_fit signals (more_of-Typed width signed node rest) = node_fits signals width signed node && parts_fit signals rest

-- whether an expression has the width that it says, and a sign that its operator can have
abbrev pub typed_fits : List Signal → Typed → Bool
typed_fits signals e = node_fits signals e.width e.signed e.node

-- whether a part of a left side is one of the design's
abbrev pub part_fits : List Signal → Part → Bool
part_fits signals (part.Whole s) = is_signal signals s
part_fits signals (part.Slice s from width) = slice_fits signals s from width
part_fits signals (part.Pick s index offsets) = is_signal signals s && is_width (length offsets) && typed_fits signals index
part_fits signals (part.Word first count _ index from width) = words_fit signals first count from width && typed_fits signals index

-- whether a place of the list has a width
abbrev pub place_fits : List Place → ℕ → ℕ → Bool
place_fits places width p = option_map_or (λ place. place.width == width) (slice_get places p) false

-- whether an assignment fits: its left side is of 1 to 128 bits, of the place's width where it has a place, and its
-- value has at least as many
abbrev pub assignment_fits : List Signal → List Part → Typed → Bool
assignment_fits signals parts value =
    list_all (part_fits signals) parts && is_width (parts_width signals parts) && typed_fits signals value
    && nat_le (parts_width signals parts) value.width

-- whether a label has the width of its subject
abbrev pub label_fits : List Signal → ℕ → Label → Bool
label_fits signals width label =
    typed_fits signals label.value && label.value.width == width && width_of label.wild == width

abbrev mutual
  pub statement_fits : List Signal → List Place → Stmt → Bool
  statement_fits signals places stmt.Nothing = true
  statement_fits signals places (stmt.Block' _ statements) = statements_fit signals places statements
  statement_fits signals places (stmt.If' cond _ (more_of-Stmt on_true end_of-Stmt) _ (more_of-Stmt on_false end_of-Stmt)) =
      typed_fits signals cond && statement_fits signals places on_true && statement_fits signals places on_false
  statement_fits signals places (stmt.Case' subject _ items _ (more_of-Stmt other end_of-Stmt) _) =
      typed_fits signals subject && items_fit signals places subject.width items && statement_fits signals places other
  statement_fits signals places (stmt.Set place target value _) =
      assignment_fits signals target.parts value && place_fits places (parts_width signals target.parts) place

  pub statements_fit : {shape : _} → List Signal → List Place → Row_of-Stmt shape → Bool
  statements_fit signals places end_of-Stmt = true
  statements_fit signals places (more_of-Stmt statement rest) =
      statement_fits signals places statement && statements_fit signals places rest

  pub items_fit : {shape : _} → List Signal → List Place → ℕ → Row_of-CaseItem shape → Bool
  items_fit signals places width end_of-CaseItem = true
  items_fit signals places width (more_of-CaseItem labels body rest) =
      list_all (label_fits signals width) labels && statement_fits signals places body
      && items_fit signals places width rest

abbrev pub driver_fits : List Signal → List Place → Driver → Bool
driver_fits signals places (driver.Cont target value place _) =
    assignment_fits signals target.parts value
    && option_map_or (place_fits places (parts_width signals target.parts)) place true
driver_fits signals places (driver.Comb body _) = statement_fits signals places body

-- a part of a left side without a variable index; by a constant one that is out of range nothing is stored (5.2.1)
abbrev pub is_fixed : Part → Bool
is_fixed (part.Whole _) = true
is_fixed (part.Slice _ _ _) = true
is_fixed (part.Pick _ index _) = is_constant index.node
is_fixed (part.Word _ _ _ _ _ _) = false

-- a statement that assigns constants alone, without conditions and variable indexes
abbrev mutual
  pub is_reset_values : Stmt → Bool
  is_reset_values stmt.Nothing = true
  is_reset_values (stmt.Block' _ statements) = are_reset_values statements
  is_reset_values (stmt.If' _ _ _ _ _) = false
  is_reset_values (stmt.Case' _ _ _ _ _ _) = false
  is_reset_values (stmt.Set _ target value _) = is_constant value.node && list_all is_fixed target.parts

  pub are_reset_values : {shape : _} → Row_of-Stmt shape → Bool
  are_reset_values end_of-Stmt = true
  are_reset_values (more_of-Stmt statement rest) = is_reset_values statement && are_reset_values rest

-- a reset's signal is a 1-bit input that traces give, and its values are constants
abbrev pub reset_fits : Design → Reset → Bool
reset_fits d r =
    list_any (λ input. input == r.signal) d.inputs.items && width_at d.signals.items r.signal == 1
    && is_reset_values r.values && statement_fits d.signals.items d.places.items r.values

abbrev pub clocked_fits : Design → Clocked → Bool
clocked_fits d block =
    statement_fits d.signals.items d.places.items block.body && option_map_or (reset_fits d) block.reset true

-- how many times a place stands in a statement
abbrev mutual
  pub times_in : ℕ → Stmt → ℕ
  times_in p stmt.Nothing = 0
  times_in p (stmt.Block' _ statements) = times_in_all p statements
  times_in p (stmt.If' _ _ (more_of-Stmt on_true end_of-Stmt) _ (more_of-Stmt on_false end_of-Stmt)) = times_in p on_true + times_in p on_false
  times_in p (stmt.Case' _ _ items _ (more_of-Stmt other end_of-Stmt) _) = times_in_items p items + times_in p other
  times_in p (stmt.Set place _ _ _) = if place == p then 1 else 0

  pub times_in_all : {shape : _} → ℕ → Row_of-Stmt shape → ℕ
  times_in_all p end_of-Stmt = 0
  times_in_all p (more_of-Stmt statement rest) = times_in p statement + times_in_all p rest

  pub times_in_items : {shape : _} → ℕ → Row_of-CaseItem shape → ℕ
  times_in_items p end_of-CaseItem = 0
  times_in_items p (more_of-CaseItem _ body rest) = times_in p body + times_in_items p rest

abbrev pub times_in_driver : ℕ → Driver → ℕ
times_in_driver p (driver.Cont _ _ place _) = option_map_or (λ q. if q == p then 1 else 0) place 0
times_in_driver p (driver.Comb body _) = times_in p body

abbrev pub times_in_clocked : ℕ → Clocked → ℕ
times_in_clocked p block = times_in p block.body + option_map_or (λ r. times_in p r.values) block.reset 0

-- how many times a place stands in the design
abbrev pub times_in_design : Design → ℕ → ℕ
times_in_design d p = sum_by (times_in_driver p) d.drivers.items + sum_by (times_in_clocked p) d.clocked.items

abbrev pub is_input : SignalKind → Bool
is_input kind.Input = true
is_input kind.Net = false
is_input kind.Reg = false

-- an input that traces give is a signal of the kind `Input`
abbrev pub input_fits : List Signal → ℕ → Bool
input_fits signals s = option_map_or (λ signal. is_input signal.kind) (slice_get signals s) false

-- the design is well formed
pub record IsWellFormed (d : Design) : Type 0 where
  pub signals : IsTrue (list_all signal_fits d.signals.items)
  pub inputs : IsTrue (list_all (input_fits d.signals.items) d.inputs.items)
  pub inputs_distinct : AllPairs (λ one other. one ≢ other) d.inputs.items
  pub outputs : IsTrue (list_all (is_signal d.signals.items) d.outputs.items)
  pub outputs_distinct : AllPairs (λ one other. one ≢ other) d.outputs.items
  pub places : IsTrue (list_all (λ place. is_width place.width) d.places.items)
  pub drivers : IsTrue (list_all (driver_fits d.signals.items d.places.items) d.drivers.items)
  pub clocked : IsTrue (list_all (clocked_fits d) d.clocked.items)
  pub each_place_once : (p : ℕ) → p < length d.places.items → times_in_design d p ≡ 1

-- What nodes as code makes them name.
use Rattle.std.proofs.Common.{◌≡◌, ℕ, List, ap, ◌∙◌, refl}
use Rattle.std.specs.Prelude.{◌||◌, ◌==◌, ℤ}
use Rattle.std.specs.List.{list_any}
use denote.Hole.Carrier.{hidden}
use Rattle.design_core.specs.declared.expression.UnaryOp.{UnaryOp}
use Rattle.design_core.specs.declared.expression.BinaryOp.{BinaryOp}
use Rattle.design_core.specs.declared.expression.Typed.{Typed}
use Rattle.design_core.specs.declared.expression.Node.{Node, Row_of-Typed, end_of-Typed, more_of-Typed, items-the_row-Typed, items_hidden-the_row-Typed-1}
use Rattle.design_core.specs.declared.expression.Node.TheVariants as node
use Rattle.design_core.specs.declared.expression.Node.TheBlock.{shape-the_row-Typed-0, hidden-the_row-Typed-0, hidden-the_row-Typed-1}
use Rattle.change_lines.specs.Operands.{node_names, parts_name, names}

parts-list : {shape : _} (s : ℕ) (row : Row_of-Typed shape) → parts_name s row ≡ list_any (names s) (items-the_row-Typed shape row)
parts-list s end_of-Typed = refl
parts-list s (more_of-Typed width signed n rest) = ap (λ x. node_names s n || x) (parts-list s rest)

pub names_pick : (s signal : ℕ) (index : Typed) (offsets : List ℤ) → node_names s (node.Pick signal index offsets) ≡ (signal == s || names s index)
unfolding shape-the_row-Typed-0 hidden-the_row-Typed-0 hidden
names_pick s signal index offsets = refl

pub names_word : (s first count : ℕ) (low : ℤ) (index : Typed) (from size : ℕ) → node_names s (node.Word first count low index from size) ≡ names s index
unfolding shape-the_row-Typed-0 hidden-the_row-Typed-0 hidden
names_word s first count low index from size = refl

pub names_unary : (s : ℕ) (op : UnaryOp) (arg : Typed) → node_names s (node.Unary op arg) ≡ names s arg
unfolding shape-the_row-Typed-0 hidden-the_row-Typed-0 hidden
names_unary s op arg = refl

pub names_binary : (s : ℕ) (op : BinaryOp) (left right : Typed) → node_names s (node.Binary op left right) ≡ (names s left || names s right)
unfolding shape-the_row-Typed-0 hidden-the_row-Typed-0 hidden
names_binary s op left right = refl

pub names_choose : (s : ℕ) (test on_true on_false : Typed)
    → node_names s (node.Choose test on_true on_false) ≡ (names s test || names s on_true || names s on_false)
unfolding shape-the_row-Typed-0 hidden-the_row-Typed-0 hidden
names_choose s test on_true on_false = refl

pub names_join : (s : ℕ) (parts : List Typed) → node_names s (node.Join parts) ≡ list_any (names s) parts
names_join s parts = parts-list s (hidden-the_row-Typed-1 parts) ∙ ap (list_any (names s)) (items_hidden-the_row-Typed-1 parts)

pub names_repeat : (s times : ℕ) (part : Typed) → node_names s (node.Repeat times part) ≡ names s part
unfolding shape-the_row-Typed-0 hidden-the_row-Typed-0 hidden
names_repeat s times part = refl

pub names_resize : (s : ℕ) (arg : Typed) → node_names s (node.Resize arg) ≡ names s arg
unfolding shape-the_row-Typed-0 hidden-the_row-Typed-0 hidden
names_resize s arg = refl

pub ruleset name_rows = (names_pick, names_word, names_unary, names_binary, names_choose, names_join, names_repeat, names_resize)

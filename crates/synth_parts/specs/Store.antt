-- The nodes of a store into a left side (IEEE 1364-2005, 6.1.1 and 9.2.1): first all its indexes, then its parts, from the
-- left; the leftmost takes the highest bits.
use Rattle.std.specs.Prelude.{ℕ, zero, suc, ◌+◌, pos, ◌+ℤ◌, List, [], ◌∷◌, ◌++◌, set}
use Rattle.design_core.specs.declared.signal.Signal.{Signal}
use Rattle.design_core.specs.declared.statement.Part.{Part}
use Rattle.design_core.specs.declared.statement.Part.TheVariants as part
use Rattle.design_core.specs.Valuation.{width_at}
use Rattle.design_core.specs.Store.{parts_width}
use Rattle.word_net.specs.declared.node.Operand.{Operand}
use Rattle.word_net.specs.declared.node.Operation.{Operation}
use Rattle.word_net.specs.declared.node.Operation.TheVariants as operation
use Rattle.synth_parts.specs.declared.store.Stored.{Stored}
use Rattle.word_net.specs.declared.node.WordNode.{WordNode}
use Rattle.synth_parts.specs.declared.array_parts.ArrayPart.{ArrayPart}
use Rattle.word_net.specs.Build.{Made, made, pushed}
use Rattle.synth_parts.specs.Expression.{operand, unsigned, signal_read, select_of, typed_made}

-- the nodes, and a node for each of several things
pub record Nodes : Type 0 where
  pub nodes : List WordNode
  pub each : List ℕ

abbrev pub nodes_made : List WordNode → List ℕ → Nodes
nodes_made nodes each = record { nodes = nodes; each = each }

-- the index of a part that has a variable one; 0 stands for none
unfoldable pub index_made : List Signal → List ℕ → List WordNode → Part → Made
index_made signals nodes_of nodes (part.Whole _) = made nodes 0
index_made signals nodes_of nodes (part.Slice _ _ _) = made nodes 0
index_made signals nodes_of nodes (part.Pick _ index _) = typed_made signals nodes_of nodes index
index_made signals nodes_of nodes (part.Word _ _ _ index _ _) = typed_made signals nodes_of nodes index

-- the indexes of all parts, behind those that are there
unfoldable pub indexes_made : List Signal → List ℕ → List WordNode → List ℕ → List Part → Nodes
indexes_made signals nodes_of nodes indexes [] = nodes_made nodes indexes
indexes_made signals nodes_of nodes indexes (part ∷ parts) =
    let i = index_made signals nodes_of nodes part in
    indexes_made signals nodes_of i.nodes (indexes ++ i.node ∷ []) parts

-- a signal gets a new node
unfoldable pub signal_set : List Signal → List WordNode → List ℕ → ℕ → Operation → Nodes
signal_set signals nodes nodes_of s operation =
    let m = pushed nodes (width_at signals s) operation in nodes_made m.nodes (set nodes_of s m.node)

-- a word of the array: with the bits replaced where the address is its, else as it was
unfoldable pub word_stored : List Signal → ArrayPart → Stored → List WordNode → List ℕ → ℕ → Nodes
word_stored signals array stored nodes nodes_of place =
    let s = array.first + place in
    let width = width_at signals s in
    let old = signal_read signals nodes_of s in
    let is = pushed nodes 1 (operation.Is array.index (array.low +ℤ pos place)) in
    let put = pushed is.nodes width (operation.Put old array.from array.width stored.word stored.offset) in
    signal_set signals put.nodes nodes_of s (operation.Choose (unsigned is.node 1) (unsigned put.node width) old)

-- the words of the array from one on, so many of them
unfoldable pub words_stored : List Signal → ArrayPart → Stored → List WordNode → List ℕ → ℕ → ℕ → Nodes
words_stored signals array stored nodes nodes_of place zero = nodes_made nodes nodes_of
words_stored signals array stored nodes nodes_of place (suc more) =
    let m = word_stored signals array stored nodes nodes_of place in words_stored signals array stored m.nodes m.each (place + 1) more

-- one part
unfoldable pub part_stored : List Signal → List WordNode → List ℕ → Part → ℕ → Stored → Nodes
part_stored signals nodes nodes_of (part.Whole s) at stored = signal_set signals nodes nodes_of s (operation.Slice stored.word stored.offset)
part_stored signals nodes nodes_of (part.Slice s from size) at stored =
    signal_set signals nodes nodes_of s (operation.Put (signal_read signals nodes_of s) from size stored.word stored.offset)
part_stored signals nodes nodes_of (part.Pick s index offsets) at stored =
    signal_set signals nodes nodes_of s
    (operation.PutPick (signal_read signals nodes_of s) (select_of signals s (operand at index.width index.signed) offsets) stored.word stored.offset)
part_stored signals nodes nodes_of (part.Word first count low index from size) at stored =
    let array : ArrayPart = record { first = first; low = low; index = operand at index.width index.signed; from = from; width = size } in
    words_stored signals array stored nodes nodes_of 0 count

-- all parts, each with its index
unfoldable pub parts_stored : List Signal → List WordNode → List ℕ → List Part → List ℕ → Operand → Nodes
parts_stored signals nodes nodes_of [] indexes word = nodes_made nodes nodes_of
parts_stored signals nodes nodes_of (part ∷ parts) [] word = nodes_made nodes nodes_of
parts_stored signals nodes nodes_of (part ∷ parts) (index ∷ indexes) word =
    let m = part_stored signals nodes nodes_of part index (record { word = word; offset = parts_width signals parts }) in
    parts_stored signals m.nodes m.each parts indexes word

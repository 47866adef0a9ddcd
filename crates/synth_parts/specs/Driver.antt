-- The nodes of the drivers (IEEE 1364-2005, 6.1 and 9.9), one after another in an order.
use Rattle.std.specs.Prelude.{ℕ, List, [], ◌∷◌, slice_get, Option, Some, None}
use Rattle.design_core.specs.declared.signal.Signal.{Signal}
use Rattle.design_core.specs.declared.driver.Driver.{Driver}
use Rattle.design_core.specs.declared.driver.Driver.TheVariants as driver
use Rattle.design_core.specs.Store.{parts_width}
use Rattle.word_net.specs.declared.node.Operand.{Operand}
use Rattle.word_net.specs.declared.node.Operation.TheVariants as operation
use Rattle.word_net.specs.declared.node.WordNode.{WordNode}
use Rattle.word_net.specs.Build.{pushed}
use Rattle.synth_parts.specs.Expression.{Prepared, unsigned, typed_made}
use Rattle.synth_parts.specs.Store.{Nodes, nodes_made, indexes_made, parts_stored}
use Rattle.synth_parts.specs.Statement.{maps, statement_made}

-- what a continuous assignment assigns: where it has a place, what that assigns
unfoldable pub assigned_made : List WordNode → Option ℕ → ℕ → Operand → Prepared
assigned_made nodes None width computed = record { nodes = nodes; operand = computed }
assigned_made nodes (Some place) width computed =
    let f = pushed nodes width (operation.Free place computed) in record { nodes = f.nodes; operand = unsigned f.node width }

-- one driver
unfoldable pub driver_made : List Signal → List WordNode → List ℕ → Driver → Nodes
driver_made signals nodes nodes_of (driver.Cont target computed place _) =
    let v = typed_made signals nodes_of nodes computed in
    let a = assigned_made v.nodes place (parts_width signals target.parts) (unsigned v.node computed.width) in
    let i = indexes_made signals nodes_of a.nodes [] target.parts in
    parts_stored signals i.nodes nodes_of target.parts i.each a.operand
driver_made signals nodes nodes_of (driver.Comb body _) =
    let m = statement_made signals (maps nodes nodes_of nodes_of) body in nodes_made m.nodes m.now

-- the driver of a number, where there is one
unfoldable pub driver_at_made : List Signal → List WordNode → List ℕ → Option Driver → Nodes
driver_at_made signals nodes nodes_of None = nodes_made nodes nodes_of
driver_at_made signals nodes nodes_of (Some driver) = driver_made signals nodes nodes_of driver

-- the drivers in an order
unfoldable pub drivers_made : List Signal → List Driver → List WordNode → List ℕ → List ℕ → Nodes
drivers_made signals drivers nodes nodes_of [] = nodes_made nodes nodes_of
drivers_made signals drivers nodes nodes_of (i ∷ order) =
    let m = driver_at_made signals nodes nodes_of (slice_get drivers i) in drivers_made signals drivers m.nodes m.each order

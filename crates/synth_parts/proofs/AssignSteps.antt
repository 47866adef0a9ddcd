-- What an assignment that fits gives.
use Rattle.std.proofs.Common.{◌≡◌, ℕ, ◌+◌, ◌≤◌, Bool, List, [], ◌∷◌, ◌++◌, length, ◌∙◌, ap, arith, length-append}
use Rattle.std.specs.Prelude.{◌&&◌, IsTrue, nat_le}
use Rattle.std.specs.List.{list_all}
use Rattle.std.proofs.lemmas.Bool.{and_parts}
use Rattle.design_core.specs.declared.signal.Signal.{Signal}
use Rattle.design_core.specs.declared.statement.Part.{Part}
use Rattle.design_core.specs.declared.expression.Typed.{Typed}
use Rattle.design_core.specs.Store.{parts_width}
use Rattle.design_core.specs.WellFormed.{is_width, typed_fits, part_fits, assignment_fits}
use Rattle.word_net.specs.declared.node.WordNode.{WordNode}
use Rattle.synth_parts.specs.Store.{Nodes, nodes_made, index_made, indexes_made}
use Rattle.synth_parts.proofs.Base.{width-bounds}

pub assignment-parts : (signals : List Signal) (parts : List Part) (value : Typed) → IsTrue (assignment_fits signals parts value)
    → IsTrue (list_all (part_fits signals) parts) × (parts_width signals parts ≤ 128) × IsTrue (typed_fits signals value)
assignment-parts signals parts value h =
    let all : Bool = list_all (part_fits signals) parts in
    let width : ℕ = parts_width signals parts in
    let f = (and_parts (all && is_width width && typed_fits signals value) (nat_le width value.width) h).0 in
    let g = and_parts (all && is_width width) (typed_fits signals value) f in
    let k = and_parts all (is_width width) g.0 in
    (k.0, (width-bounds width k.1).1, g.1)

indexes-length : (signals : List Signal) (nodes_of : List ℕ) (nodes : List WordNode) (all : List ℕ) (parts : List Part) → length (indexes_made signals nodes_of nodes all parts).each ≡ length all + length parts
unfolding indexes_made
indexes-length signals nodes_of nodes all [] = omega arith
indexes-length signals nodes_of nodes all (part ∷ parts) =
    let i = index_made signals nodes_of nodes part in
    omega (arith, indexes-length signals nodes_of i.nodes (all ++ i.node ∷ []) parts, length-append all (i.node ∷ []))

-- an index for each part
pub indexes-each : (signals : List Signal) (nodes_of : List ℕ) (nodes after : List WordNode) (each : List ℕ) (parts : List Part) → nodes_made after each ≡ indexes_made signals nodes_of nodes [] parts
    → length each ≡ length parts
indexes-each signals nodes_of nodes after each parts is = ap (λ (m : Nodes). length m.each) is ∙ indexes-length signals nodes_of nodes [] parts ∙ omega arith

pub ruleset steps = (assignment-parts, indexes-each)

use Rattle.std.proofs.Common.{◌∙◌, sym, ap}
use Rattle.std.specs.Prelude.{option_map}
use Rattle.v_syntax.specs.ModuleTree.{ports_of}
use Rattle.v_syntax.specs.Tree.{tree_of}
use Rattle.v_hierarchy.specs.Headers.{port_names}
use Rattle.v_connections.specs.Connected.{past_ports}
use Rattle.v_connections.proofs.PortLaws.{few-is}
use Rattle.v_connections.proofs.connections.few.Goals as goal

pub returns : goal.returns
returns c =
    c.past_ports.ensures ∙ ap (λ value. past_ports c.args.span (option_map (option_map tree_of) value)) c.connection_at.ensures
    ∙ sym (few-is c.args.span (port_names (ports_of c.args.ports.now)) c.args.values.now c.port_count.result c.port_count.ensures)

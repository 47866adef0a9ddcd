use Rattle.std.proofs.Common.{◌∙◌, sym, ap, arith}
use Rattle.v_syntax.specs.Tree.{tree_of}
use Rattle.v_widths.proofs.TreeSteps.{tree_of_name}
use Rattle.v_binding.specs.Connections.{plain_name}
use Rattle.bind_items.proofs.PlainNames.{no-plain-name}
use Rattle.bind_items.proofs.ports.plain_name.Goals as goal

pub returns-else-is_empty : goal.returns-else-is_empty
returns-else-is_empty c =
    sym (ap plain_name (ap tree_of c.in-Name.is ∙ tree_of_name c.in-Name.site c.in-Name.name c.in-Name.selects)
    ∙ no-plain-name c.in-Name.site c.in-Name.name c.in-Name.selects.items c.in-Name.selects.len (omega (arith, c.in-Name.selects.ok.0))
    (sym c.is_empty.ensures ∙ c.if-is_empty.false))

use Rattle.std.proofs.Common.{◌∙◌, ap}
use Rattle.std.specs.Prelude.{if◌then◌else◌, get_or, Some, None}
use Rattle.std.specs.Option.{option_or}
use Rattle.v_hierarchy.specs.Names.{same_name}
use Rattle.bind_items.proofs.WireLaws.{first-taken}
use Rattle.bind_items.proofs.wires.places_of.Goals as goal

pub loop-i-preserved : goal.loop-i-preserved
loop-i-preserved c = λ name.
    c.in_ok-put_first.ensures name
    ∙ ap (λ o. option_or o (if same_name (get_or c.args.list.now c.loop-i.i c.index-list-i.result).name.name name then Some c.loop-i.i else None)) (c.loop-i.invariant name)
    ∙ first-taken c.args.list.now c.loop-i.i c.index-list-i.result name c.loop-i-test.true

use Rattle.std.proofs.Common.{ap, ◌∙◌, map, drop}
use Rattle.std.proofs.lemmas.List.{take_rest}
use Rattle.v_syntax.specs.Tree.{tree_of}
use Rattle.v_binding.specs.Gates.{last_alone}
use Rattle.bind_items.proofs.TerminalSteps.{inputs-dropped}
use Rattle.bind_items.proofs.terminals.inputs_of.Goals as goal

pub returns : goal.returns
returns c =
    ap (map tree_of) (take_rest c.args.terminals.now c.output_count.result) ∙ ap (λ n. map tree_of (drop n c.args.terminals.now)) c.output_count.ensures
    ∙ inputs-dropped tree_of (last_alone c.args.kind) c.args.terminals.now

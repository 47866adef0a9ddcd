use Rattle.std.proofs.Common.{rules, ◌≡◌, false, ap, ◌∙◌, map}
use Rattle.std.specs.Prelude.{is_some}
use Rattle.std.specs.Option.{option_or}
use Rattle.v_sizes.specs.Refusals.{name_fault}
use Rattle.v_sizes.specs.Sizing.{name_sizing}
use Rattle.v_selects.specs.Named.{chosen_in}
use Rattle.v_selects.proofs.NameLaws.{readable-where}
use Rattle.v_selects.proofs.names.named.Goals as goal

pub name_node-requires-clause-readable : goal.name_node-requires-clause-readable
name_node-requires-clause-readable c =
    let accepted : is_some (option_or c.picked_faults.result c.name_fault-own.result) ≡ false = search rules in
    readable-where c.args.at.span c.args.at.only c.args.meaning c.args.selects c.picked_faults.result c.name_fault-own.result c.name_size-size.result.constant
    (c.name_fault-own.ensures ∙ ap (λ s. name_fault c.args.at.span c.args.at.only c.args.meaning (map chosen_in s)) c.as_slice.ensures) accepted
    (c.name_size-size.ensures.of_constant ∙ ap (λ s. (name_sizing c.args.meaning (map chosen_in s)).constant) c.as_slice-3.ensures) c.if-size.false

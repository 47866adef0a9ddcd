use Rattle.std.proofs.Common.{◌∙◌, ap}
use Rattle.assign_rules.proofs.UserLaws.{outside-of}
use Rattle.assign_rules.proofs.WayLaws.{empty_set}
use Rattle.assign_rules.proofs.users.outside.Goals as goal

pub returns : goal.returns
returns c =
    let start = c.in_ok-own.ensures ∙ ap empty_set c.requires.long in
    outside-of c.args.design.now c.args.none.now c.in_ok-own.own c.add_outputs.new.used c.add_drivers_reads.new.used start c.requires.none c.in_ok-add_outputs.ensures
    c.in_ok-add_drivers_reads.ensures

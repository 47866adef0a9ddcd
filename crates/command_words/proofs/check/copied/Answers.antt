use Rattle.command_words.specs.Views.{check_values}
use Rattle.command_words.proofs.CheckHolding.{texts-named}
use Rattle.command_words.proofs.check.copied.Goals as goal

pub copied-requires : goal.copied-requires
copied-requires c = texts-named (check_values c.args.values.now) c.requires

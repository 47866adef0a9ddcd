use Rattle.std.proofs.lemmas.Bool.{and_parts}
use Rattle.command_words.proofs.find.copied.Goals as goal

pub copied-requires : goal.copied-requires
copied-requires c = (and_parts _ _ (and_parts _ _ (and_parts _ _ (and_parts _ _ (and_parts _ _ c.requires.names).0).0).0).0).0

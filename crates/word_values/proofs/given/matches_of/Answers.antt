use Rattle.std.specs.Prelude.{map, string_bytes}
use Rattle.clap.specs.Words.{app_of}
use Rattle.word_values.proofs.Reading.{read-found}
use Rattle.word_values.proofs.given.matches_of.Goals as goal

pub returns-in-Ok : goal.returns-in-Ok
returns-in-Ok c =
    read-found (app_of c.args.command) (map string_bytes c.args.words.now) c.in-Ok.matches c.requires
    c.in-Ok.ensures.matches (c.in-Ok.ensures.kinds c.requires)

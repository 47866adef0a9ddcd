use Rattle.std.proofs.Common.{ap, ◌∙◌}
use Rattle.clap.specs.Words.{found_of}
use Rattle.clap.proofs.WalkLemmas.{first_value-rows}
use Rattle.word_values.specs.Arguments.{first_of}
use Rattle.word_values.proofs.given.Given.value.Goals as goal

pub returns : goal.returns
returns c =
    let id = c.args.id.now in
    let is = c.self.view_is in
    let rows = first_value-rows (found_of c.self.inside.matches) id in
    c.get_str.ensures ∙ rows ∙ ap (first_of id) is

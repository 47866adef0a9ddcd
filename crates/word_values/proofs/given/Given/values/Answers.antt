use Rattle.std.proofs.Common.{ap, ◌∙◌}
use Rattle.clap.specs.Words.{found_of}
use Rattle.clap.proofs.WalkLemmas.{raw_values-rows}
use Rattle.word_values.specs.Arguments.{all_of}
use Rattle.word_values.proofs.given.Given.values.Goals as goal

pub returns : goal.returns
returns c =
    let id = c.args.id.now in
    let rows = raw_values-rows (found_of c.self.inside.matches) id in
    c.get_strs.ensures ∙ rows ∙ ap (all_of id) c.self.view_is

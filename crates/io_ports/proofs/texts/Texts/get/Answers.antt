use Rattle.std.proofs.Common.{ap, sym, ◌∙◌}
use Rattle.io_ports.specs.Texts.{text_of}
use Rattle.io_ports.proofs.TextsLaws.{text_of-map}
use Rattle.io_ports.proofs.texts.Texts.get.Goals as goal

pub returns : goal.returns
returns c =
    c.get.ensures.value
    ∙ sym (text_of-map c.self.inside.entries c.args.name.now)
    ∙ ap (λ pairs. text_of pairs c.args.name.now) c.self.view_is

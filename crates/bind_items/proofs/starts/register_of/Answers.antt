use Rattle.std.proofs.Common.{◌∙◌, ap}
use Rattle.v_binding.specs.Seen.{names_in}
use Rattle.bind_items.specs.Registers.{number_in, width_in}
use Rattle.bind_items.proofs.RegisterLaws.{looked-width, looked-number}
use Rattle.bind_items.proofs.starts.register_of.Goals as goal

pub returns-clause-signal : goal.returns-clause-signal
returns-clause-signal c =
    c.looked_up.ensures.signal ∙ ap (λ look. number_in (look c.args.name.now)) c.scope.ensures ∙ looked-number (names_in c.args.names.now) c.args.name.now

pub returns-clause-width : goal.returns-clause-width
returns-clause-width c =
    c.looked_up.ensures.width ∙ ap (λ look. width_in (look c.args.name.now)) c.scope.ensures ∙ looked-width (names_in c.args.names.now) c.args.name.now

use Rattle.std.proofs.Common.{Some, ap, ◌∙◌}
use Rattle.v_sizes.specs.Scopes.{look_of}
use Rattle.bind_items.proofs.RegisterLaws.{signal-width}
use Rattle.bind_items.proofs.starts.looked_up.Goals as goal

pub sized_register-requires : goal.sized_register-requires
sized_register-requires c =
    let width = signal-width (look_of c.args.scope.now) c.args.name.now c.find.result c.args.scope.now.stands c.find.ensures _ _ _ _ _ (c.in-Some-Signal.is ∙ ap Some c.in-Some-Signal.field-0-is) in
    record { least = width.0; most = width.1 }

use Rattle.std.proofs.Common.{refl}
use Rattle.v_selects.proofs.NameLaws.{whole-size}
use Rattle.v_selects.proofs.name_size.whole_constant.Goals as goal

pub returns : goal.returns
returns c =
    λ left right. whole-size c.args.value left right (record { width = c.width.result; signed = c.args.value.signed; constant = _; number = c.value.result }) c.width.ensures refl refl c.value.ensures

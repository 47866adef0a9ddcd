use Rattle.debug_core.proofs.OfForm.{encodes-list}
use Rattle.debug_core.proofs.list_laws.form_encodes_list.Goals as goal

pub returns : goal.returns
returns g c = encodes-list g.of c.requires

use Rattle.std.proofs.Common.{refl}
use Rattle.writer_verdict_laws.specs.Listings.{end_at}
use Rattle.writer_verdict_laws.proofs.Listings.{is-shown}
use Rattle.writer_verdict_laws.proofs.laws.checkpoint_is_shown.Goals as goal

pub returns : goal.returns
returns g c = is-shown (end_at g.of) refl

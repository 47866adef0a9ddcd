use Rattle.std.proofs.Common.{◌∙◌, sym}
use Rattle.writer_verdict_laws.specs.Listings.{end_in}
use Rattle.writer_verdict_laws.proofs.Listings.{is-whole}
use Rattle.writer_verdict_laws.proofs.laws.listed_is_whole.Goals as goal

pub returns : goal.returns
returns g c = is-whole (end_in g.of) (sym g.of.is.has_status ∙ c.requires)

use Rattle.std.proofs.Common.{◌∙◌, sym}
use Rattle.list_verdict.proofs.Judged.{only-whole}
use Rattle.writer_verdict_laws.specs.Listings.{claim_in, end_in}
use Rattle.writer_verdict_laws.proofs.Listings.{is-whole}
use Rattle.writer_verdict_laws.proofs.laws.listed_is_judged.Goals as goal

pub returns : goal.returns
returns g c =
    only-whole (claim_in g.of.listed) g.of.verdict c.requires.0
    (is-whole (end_in g.of.listed) (sym g.of.listed.is.has_status ∙ c.requires.1.0)) c.requires.1.1

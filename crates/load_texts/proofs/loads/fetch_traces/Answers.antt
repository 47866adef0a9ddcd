use Rattle.std.proofs.Common.{◌∙◌, subst, sym}
use Rattle.std.specs.Prelude.{All}
use Rattle.command_contract.specs.Contract.{Texts}
use Rattle.requests.specs.Views.{sources_asked}
use Rattle.load_texts.specs.Loading.{HasTrace}
use Rattle.load_texts.proofs.loads.fetch_traces.Goals as goal

pub returns-in-Err-clause-only : goal.returns-in-Err-clause-only
returns-in-Err-clause-only g c = λ told all.
    let asked = sources_asked c.args.dumps.now.sources.now in
    c.in-Err.ensures.only (c.loop-place.invariant.tells ∙ told)
    (subst (λ (texts : Texts). All (HasTrace texts asked c.args.dumps.now.design.now) asked.texts.traces)
    (sym c.loop-place.invariant.texts) all)

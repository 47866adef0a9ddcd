use Rattle.localise_cmd_tests.proofs.networks.tried.Goals as goal

pub loop-step-init : goal.loop-step-init
loop-step-init c = c.in_ok-search.ensures.search c.args.traces.now

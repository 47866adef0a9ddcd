use Rattle.std.proofs.Common.{◌≡◌, true, rules}
use Rattle.bind_scopes.proofs.WrittenLefts.{lefts-behind}
use Rattle.bind_scopes.proofs.connected.+left_form.Goals as goal

pub are_lefts-loop-e-preserved : goal.are_lefts-loop-e-preserved
are_lefts-loop-e-preserved t c =
    let holds : c.is_left.result ≡ true = search rules in
    lefts-behind c.args.list.now c.loop-e.e-index c.e-item.result c.is_left.result c.loop-e-test.true c.e-item.is c.is_left.ensures holds c.loop-e.invariant

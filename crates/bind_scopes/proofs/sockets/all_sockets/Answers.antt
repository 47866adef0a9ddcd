use Rattle.std.proofs.Common.{◌∷◌, ◌++◌, ◌+◌, map, drop, sym, ap, ◌∙◌, arith, append-nil}
use Rattle.v_hierarchy.specs.Views.{instance_of}
use Rattle.v_binding.specs.Binding.{all_sockets}
use Rattle.bind_scopes.specs.Views.{scope_of, socket_of}
use Rattle.bind_scopes.proofs.SocketLaws.{sockets_next, sockets_end, stand_next, one-behind}
use Rattle.bind_scopes.proofs.sockets.all_sockets.Goals as goal

pub sockets-requires : goal.sockets-requires
sockets-requires c =
    (stand_next c.as_slice-list.result.now c.loop-at.at (c.loop-at.at + 1) c.index-list-at.result (omega arith) (omega (arith, c.loop-at-test.true, c.min-at-end.ensures)) c.index-list-at.is
    c.loop-at.invariant.stand).0

pub loop-at-preserved : goal.loop-at-preserved
loop-at-preserved c =
    let list = c.as_slice-list.result.now in
    let scopes = c.args.scopes.now in
    let at = c.loop-at.at in
    let behind = all_sockets (map instance_of (drop (at + 1) list)) (map scope_of (drop (at + 1) scopes)) in
    record {
      stand = (stand_next list at (at + 1) c.index-list-at.result (omega arith) (omega (arith, c.loop-at-test.true, c.min-at-end.ensures)) c.index-list-at.is c.loop-at.invariant.stand).1;
      rest = ap (λ xs. map (map socket_of) xs ++ behind) c.in_ok-push.ensures.ok ∙ one-behind (map socket_of) c.loop-at.all c.in_ok-sockets.field-0 behind
          ∙ ap (λ x. map (map socket_of) c.loop-at.all ++ x ∷ behind) c.in_ok-sockets.ensures
          ∙ ap (λ xs. map (map socket_of) c.loop-at.all ++ xs)
          (sockets_next list scopes at (at + 1) c.index-list-at.result c.index-scopes-at.result (omega arith) (omega (arith, c.loop-at-test.true, c.min-at-end.ensures))
          (omega (arith, c.loop-at-test.true, c.min-at-end.ensures)) c.index-list-at.is c.index-scopes-at.is)
          ∙ c.loop-at.invariant.rest;
    }

pub returns : goal.returns
returns c =
    sym (append-nil (map (map socket_of) c.loop-at.all))
    ∙ ap (λ xs. map (map socket_of) c.loop-at.all ++ xs) (sym (sockets_end c.as_slice-list.result.now c.args.scopes.now c.loop-at.at (omega (arith, c.loop-at-test.false, c.min-at-end.ensures))))
    ∙ c.loop-at.invariant.rest
    ∙ ap (λ xs. all_sockets (map instance_of xs) (map scope_of c.args.scopes.now)) c.as_slice-list.ensures

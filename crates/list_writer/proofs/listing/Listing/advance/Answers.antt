use Rattle.std.proofs.Common.{◌≡◌, ℕ, true, Some, ◌∙◌, ap, sym, subst, drop, length, arith, ◌&&◌}
use Rattle.std.specs.Prelude.{OnOk}
use Rattle.std.proofs.lemmas.Result.{err_from_is_err_and}
use Rattle.debug_core.specs.Debugging.{DebugState, FindsSet, IsDebugger, Searches}
use Rattle.write_order.specs.Writes.{Leaves}
use Rattle.list_writer.specs.Due.{set_writes}
use Rattle.list_writer.specs.Going.{outputs, portion_of, turn_of}
use Rattle.list_writer.specs.Jobs.{asked_with}
use Rattle.list_writer.specs.Stops.{stopped}
use Rattle.list_writer.proofs.Pairs.{both, set-fails, set-taken}
use Rattle.list_writer.proofs.listing.Listing.advance.Goals as goal

pub returns-in_err-stopped-in-Ok-Set-clause-turn : goal.returns-in_err-stopped-in-Ok-Set-clause-turn
returns-in_err-stopped-in-Ok-Set-clause-turn g c = λ session.
    let p = err_from_is_err_and c.from_residual.result c.from_residual.ensures.1 in
    let state = g.D.Search.state in
    let many : c.len-count.result ≡ length c.args.self.now.found.items = omega (arith, c.len-count.ensures, c.args.self.now.found.ok.0) in
    let old = state c.args.self.now.search in
    let mid = state c.next_in_slice.new.search in
    let gives = rw c.in-Ok-Set.field-0-is at c.in-Ok-Set.ensures.gives in
    let same : mid ≡ state c.take.new.self.search = ap state (sym c.take.ensures.search) in
    let kept : c.next_in_slice.new.left ≡ c.take.new.self.left = sym c.take.ensures.units in
    let holds : IsDebugger (state c.take.new.self.search) = subst IsDebugger same c.in-Ok-Set.ensures.holds in
    let searches : Searches old (state c.take.new.self.search) c.args.self.now.left c.take.new.self.left =
    subst (λ (n : ℕ). Searches old (state c.take.new.self.search) c.args.self.now.left n) kept
    (subst (λ (s : DebugState). Searches old s c.args.self.now.left c.next_in_slice.new.left) same c.in-Ok-Set.ensures.searches) in
    let finds : FindsSet old (state c.take.new.self.search) c.in-Ok-Set.set =
    subst (λ (s : DebugState). FindsSet old s c.in-Ok-Set.set) same gives in
    let turn = turn_of (asked_with c.args.self.now.job session) old (state c.take.new.self.search)
    (record { found = c.args.self.now.found.items; steps = c.args.self.now.steps; left = c.args.self.now.left })
    (record { found = c.take.new.self.found.items; steps = c.take.new.self.steps; left = c.take.new.self.left })
    (outputs (g.S.Shelf.written c.args.shelf.now) (g.S.Shelf.written c.take.new.shelf) (g.O.Sink.written c.args.out.now)
    (g.O.Sink.written c.take.new.out))
    (g.S.Shelf.tells c.args.shelf.now && g.O.Sink.tells c.args.out.now) in
    let left : turn.told ≡ true → Leaves (set_writes turn.asked (portion_of turn c.in-Ok-Set.set)) turn.o c.take.result = λ told.
    let tell = both (g.S.Shelf.tells c.args.shelf.now) (g.O.Sink.tells c.args.out.now) told in
    subst (λ (s : DebugState). Leaves (set_writes turn.asked (record {
      steps = drop c.args.self.now.steps s.log;
      set = c.in-Ok-Set.set;
    })) turn.o c.take.result)
    same (c.take.ensures.left tell.0 tell.1) in
    rw (p.1, p.2) (set-fails turn c.in-Ok-Set.set holds searches finds c.take.result c.in_err-stopped-in-Ok-Set.field-0.0
    (ap (λ (n : ℕ). stopped c.take.result (Some n)) (sym many) ∙ sym c.stopped.ensures ∙ c.in_err-stopped-in-Ok-Set.was) left)

pub returns-in_ok-stopped-in-Ok-Set-clause-turn : goal.returns-in_ok-stopped-in-Ok-Set-clause-turn
returns-in_ok-stopped-in-Ok-Set-clause-turn g c = λ session.
    let state = g.D.Search.state in
    let many : c.len-count.result ≡ length c.args.self.now.found.items = omega (arith, c.len-count.ensures, c.args.self.now.found.ok.0) in
    let old = state c.args.self.now.search in
    let mid = state c.next_in_slice.new.search in
    let gives = rw c.in-Ok-Set.field-0-is at c.in-Ok-Set.ensures.gives in
    let same : mid ≡ state c.take.new.self.search = ap state (sym c.take.ensures.search) in
    let kept : c.next_in_slice.new.left ≡ c.take.new.self.left = sym c.take.ensures.units in
    let holds : IsDebugger (state c.take.new.self.search) = subst IsDebugger same c.in-Ok-Set.ensures.holds in
    let searches : Searches old (state c.take.new.self.search) c.args.self.now.left c.take.new.self.left =
    subst (λ (n : ℕ). Searches old (state c.take.new.self.search) c.args.self.now.left n) kept
    (subst (λ (s : DebugState). Searches old s c.args.self.now.left c.next_in_slice.new.left) same c.in-Ok-Set.ensures.searches) in
    let finds : FindsSet old (state c.take.new.self.search) c.in-Ok-Set.set =
    subst (λ (s : DebugState). FindsSet old s c.in-Ok-Set.set) same gives in
    let turn = turn_of (asked_with c.args.self.now.job session) old (state c.take.new.self.search)
    (record { found = c.args.self.now.found.items; steps = c.args.self.now.steps; left = c.args.self.now.left })
    (record { found = c.take.new.self.found.items; steps = c.take.new.self.steps; left = c.take.new.self.left })
    (outputs (g.S.Shelf.written c.args.shelf.now) (g.S.Shelf.written c.take.new.shelf) (g.O.Sink.written c.args.out.now)
    (g.O.Sink.written c.take.new.out))
    (g.S.Shelf.tells c.args.shelf.now && g.O.Sink.tells c.args.out.now) in
    let left : turn.told ≡ true → Leaves (set_writes turn.asked (portion_of turn c.in-Ok-Set.set)) turn.o c.take.result = λ told.
    let tell = both (g.S.Shelf.tells c.args.shelf.now) (g.O.Sink.tells c.args.out.now) told in
    subst (λ (s : DebugState). Leaves (set_writes turn.asked (record {
      steps = drop c.args.self.now.steps s.log;
      set = c.in-Ok-Set.set;
    })) turn.o c.take.result)
    same (c.take.ensures.left tell.0 tell.1) in
    set-taken turn c.in-Ok-Set.set holds searches finds c.take.result c.in_ok-stopped-in-Ok-Set.field-0
    (ap (λ (n : ℕ). stopped c.take.result (Some n)) (sym many) ∙ sym c.stopped.ensures ∙ c.in_ok-stopped-in-Ok-Set.was)
    c.take.ensures.kept
    (subst (λ (s : DebugState). OnOk c.take.result (c.take.new.self.steps ≡ length s.log)) same c.take.ensures.steps) left

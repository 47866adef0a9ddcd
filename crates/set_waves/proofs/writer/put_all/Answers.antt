use Rattle.std.proofs.Common.{◌∙◌, ◌+◌, ℕ, List, Option, Ok, Err, Result, refl, sym, subst, arith}
use Rattle.std.proofs.lemmas.List.{append-nil}
use Rattle.std.proofs.lemmas.Option.{get_or_from_slice_get, slice_get_within}
use Rattle.std.proofs.lemmas.Result.{err_from_is_err_and}
use Rattle.design_core.specs.declared.values.SetWithValues.{SetWithValues}
use Rattle.design_core.specs.Valuation.{Valuation}
use Rattle.cycle_sim.specs.Misses.{AreValuesFor}
use Rattle.write_order.specs.declared.write.WriteErr.{WriteErr}
use Rattle.write_order.specs.Writes.{Leaves, on_shelf}
use Rattle.set_waves.specs.declared.waves.Waves.{Waves}
use Rattle.set_waves.specs.Waved.{waved_of}
use Rattle.set_waves.specs.Writes.{set_writes, waves_writes}
use Rattle.set_waves.specs.Writing.{AreRunsWith}
use Rattle.set_waves.proofs.Given.{can-simulate}
use Rattle.set_waves.proofs.WriteLaws.{all-done, next-done, next-fails, sets-are, some-due}
use Rattle.set_waves.proofs.writer.put_all.Goals as goal

-- what the waves of a set come to
abbrev Wrote : (List ℕ → Option (List ℕ)) → (List ℕ → Option (List ℕ)) → ℕ → SetWithValues → Result (Unit {0}) WriteErr → Waves → Type 0
Wrote was is s set result ws =
    (runs : ℕ → List Valuation) (printed : List ℕ) → AreRunsWith (waved_of ws) set.values runs
    → Leaves (set_writes (waved_of ws) ws.prefix.now (s + 1) set.values runs 0 ws.traces.now) (on_shelf was is printed) result

pub new-requires : goal.new-requires
new-requires g c = can-simulate c.args.waves.now.design.now c.args.waves.now.order.now c.requires.can.simulable

pub returns-in_default-clause-left : goal.returns-in_default-clause-left
returns-in_default-clause-left g c = λ told runs printed are. record {
  count = 0;
  within = some-due (waved_of c.args.waves.now) c.args.waves.now.prefix.now runs c.args.sets.now c.requires.sets c.requires.traces;
  done = record { texts = λ name. refl; printed = sym (append-nil printed) };
}

pub put_set-requires-clause-values : goal.put_set-requires-clause-values
put_set-requires-clause-values g c =
    let set : SetWithValues = c.set_at.result.now in
    subst (λ (ws : Waves). AreValuesFor ws.design.now ws.traces.now set.values) (sym c.loop-s.invariant.waves)
    (subst (λ (x : SetWithValues). AreValuesFor c.args.waves.now.design.now c.args.waves.now.traces.now x.values)
    (get_or_from_slice_get c.args.sets.now c.loop-s.s set set c.set_at.ensures)
    (c.requires.values c.loop-s.s set (slice_get_within c.args.sets.now c.loop-s.s set c.set_at.ensures)))

pub returns-in_err-put_set-clause-left : goal.returns-in_err-put_set-clause-left
returns-in_err-put_set-clause-left g c =
    let p = err_from_is_err_and c.from_residual.result c.from_residual.ensures.1 in
    rw (p.1, p.2) (λ told runs printed are.
    let ws : Waves = c.args.waves.now in
    let s : ℕ = c.loop-s.s in
    let set : SetWithValues = c.set_at.result.now in
    let w0 = g.S.Shelf.written c.args.shelf.now in
    let w1 = g.S.Shelf.written c.loop-s.shelf in
    let w2 = g.S.Shelf.written c.put_set.new.shelf in
    let wrote : Wrote w1 w2 s set (Err c.in_err-put_set.field-0.0) ws =
    subst (Wrote w1 w2 s set (Err c.in_err-put_set.field-0.0)) c.loop-s.invariant.waves
    (c.in_err-put_set.ensures.left (c.loop-s.invariant.tells ∙ told)) in
    next-fails (waves_writes (waved_of ws) ws.prefix.now runs) _ (sets-are (waved_of ws) ws.prefix.now runs) c.args.sets.now s set
    c.set_at.ensures w0 w1 w2 printed (c.loop-s.invariant.done told runs printed are) c.in_err-put_set.field-0.0
    (wrote (runs s) printed (λ j trace at. are s j set trace c.set_at.ensures at)))

pub loop-s-preserved : goal.loop-s-preserved
loop-s-preserved g c =
    let ws : Waves = c.args.waves.now in
    let s : ℕ = c.loop-s.s in
    let set : SetWithValues = c.set_at.result.now in
    let w0 = g.S.Shelf.written c.args.shelf.now in
    let w1 = g.S.Shelf.written c.loop-s.shelf in
    let w2 = g.S.Shelf.written c.put_set.new.shelf in
    record {
      writer = c.put_set.ensures.writer;
      waves = c.put_set.ensures.waves ∙ c.loop-s.invariant.waves;
      tells = c.put_set.ensures.tells ∙ c.loop-s.invariant.tells;
      texts = c.put_set.ensures.texts ∙ c.loop-s.invariant.texts;
      faults = c.in_ok-put_set.ensures.cause ∙ c.loop-s.invariant.faults;
      done = λ told runs printed are.
          let wrote : Wrote w1 w2 s set (Ok c.in_ok-put_set.field-0) ws =
          subst (Wrote w1 w2 s set (Ok c.in_ok-put_set.field-0)) c.loop-s.invariant.waves
          (c.in_ok-put_set.ensures.left (c.loop-s.invariant.tells ∙ told)) in
          next-done (waves_writes (waved_of ws) ws.prefix.now runs) _ (sets-are (waved_of ws) ws.prefix.now runs) c.args.sets.now s set
          c.set_at.ensures w0 w1 w2 printed (c.loop-s.invariant.done told runs printed are)
          (wrote (runs s) printed (λ j trace at. are s j set trace c.set_at.ensures at));
    }

pub returns-clause-left : goal.returns-clause-left
returns-clause-left g c = λ told runs printed are.
    let ws : Waves = c.args.waves.now in
    all-done (waves_writes (waved_of ws) ws.prefix.now runs) _ (sets-are (waved_of ws) ws.prefix.now runs) c.args.sets.now c.loop-s.s
    (on_shelf (g.S.Shelf.written c.args.shelf.now) (g.S.Shelf.written c.loop-s.shelf) printed) (omega (arith, c.loop-s-test.false))
    (c.loop-s.invariant.done told runs printed are)

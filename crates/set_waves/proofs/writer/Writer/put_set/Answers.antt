use Rattle.std.proofs.Common.{◌≡◌, ◌∙◌, ◌+◌, ℕ, List, length, Option, Some, Ok, Err, Result, refl, sym, subst, arith}
use Rattle.std.specs.Prelude.{slice_get}
use Rattle.std.proofs.lemmas.Result.{err_from_is_err_and}
use Rattle.design_core.specs.declared.trace.Trace.{Trace}
use Rattle.design_core.specs.declared.values.Values.{Values}
use Rattle.design_core.specs.Valuation.{Valuation}
use Rattle.design_core.proofs.CyclesBefore.{cycles_before-next, cycles_before-none, cycles_before-whole}
use Rattle.write_order.specs.declared.write.WriteErr.{WriteErr}
use Rattle.write_order.specs.Writes.{Leaves, on_shelf}
use Rattle.set_waves.specs.declared.waves.Waves.{Waves}
use Rattle.set_waves.specs.Names.{wave_name}
use Rattle.set_waves.specs.Scenes.{wave_text}
use Rattle.set_waves.specs.Waved.{waved_of}
use Rattle.set_waves.specs.Writes.{scene_of, set_writes, text_writes}
use Rattle.set_waves.specs.Writing.{IsRunWith}
use Rattle.set_waves.proofs.RunLines.{there-is}
use Rattle.set_waves.proofs.WriteLaws.{all-done, next-done, next-fails, none-done, set-are}
use Rattle.set_waves.proofs.writer.Writer.put_set.Goals as goal

-- what the wave of a trace comes to
abbrev Wrote : (List ℕ → Option (List ℕ)) → (List ℕ → Option (List ℕ)) → ℕ → Values → ℕ → Result (Unit {0}) WriteErr → Waves → Type 0
Wrote was is number values j result ws =
    (trace : Trace) (run : List Valuation) (printed : List ℕ) → slice_get ws.traces.now j ≡ Some trace
    → IsRunWith (waved_of ws) values j trace run
    → Leaves (text_writes (wave_name ws.prefix.now number (j + 1)) (wave_text (scene_of (waved_of ws) values j trace) run))
    (on_shelf was is printed) result

pub loop-j-init : goal.loop-j-init
loop-j-init g c = record {
  writer = c.requires.writer;
  waves = refl;
  first = sym (cycles_before-none c.args.self.now.waves.traces.now);
  tells = refl;
  texts = refl;
  faults = refl;
  done = λ told runs printed are.
      none-done (set_writes (waved_of c.args.self.now.waves) c.args.self.now.waves.prefix.now c.args.number c.args.values.now runs) _
      (set-are (waved_of c.args.self.now.waves) c.args.self.now.waves.prefix.now c.args.number c.args.values.now runs)
      c.args.self.now.waves.traces.now (g.S.Shelf.written c.args.shelf.now) printed;
}

pub returns-in_err-put_wave-clause-left : goal.returns-in_err-put_wave-clause-left
returns-in_err-put_wave-clause-left g c =
    let p = err_from_is_err_and c.from_residual.result c.from_residual.ensures.1 in
    rw (p.1, p.2) (λ told runs printed are.
    let ws : Waves = c.args.self.now.waves in
    let j : ℕ = c.loop-j.j in
    let some : (x : Trace) × (slice_get ws.traces.now j ≡ Some x) = there-is ws.traces.now j c.loop-j-test.true in
    let w0 = g.S.Shelf.written c.args.shelf.now in
    let w1 = g.S.Shelf.written c.loop-j.shelf in
    let w2 = g.S.Shelf.written c.put_wave.new.shelf in
    let wrote : Wrote w1 w2 c.args.number c.args.values.now j (Err c.in_err-put_wave.field-0.0) ws =
    subst (Wrote w1 w2 c.args.number c.args.values.now j (Err c.in_err-put_wave.field-0.0)) c.loop-j.invariant.waves
    (c.in_err-put_wave.ensures.left (c.loop-j.invariant.tells ∙ told)) in
    next-fails (set_writes (waved_of ws) ws.prefix.now c.args.number c.args.values.now runs) _
    (set-are (waved_of ws) ws.prefix.now c.args.number c.args.values.now runs) ws.traces.now j some.0 some.1 w0 w1 w2 printed
    (c.loop-j.invariant.done told runs printed are) c.in_err-put_wave.field-0.0
    (wrote some.0 (runs j) printed some.1 (are j some.0 some.1)))

pub overflow_add-first : goal.overflow_add-first
overflow_add-first g c = omega (
  arith,
  cycles_before-whole c.args.self.now.waves.traces.now c.loop-j.j (length c.args.self.now.waves.traces.now) c.trace_at.result.now
      c.trace_at.ensures c.loop-j-test.true,
  c.requires.writer.can.few,
  c.loop-j.invariant.first,
  c.cycle_count-first.ensures,
)

pub loop-j-preserved : goal.loop-j-preserved
loop-j-preserved g c =
    let ws : Waves = c.args.self.now.waves in
    let j : ℕ = c.loop-j.j in
    let trace : Trace = c.trace_at.result.now in
    let w0 = g.S.Shelf.written c.args.shelf.now in
    let w1 = g.S.Shelf.written c.loop-j.shelf in
    let w2 = g.S.Shelf.written c.put_wave.new.shelf in
    record {
      writer = c.put_wave.ensures.writer;
      waves = c.put_wave.ensures.waves ∙ c.loop-j.invariant.waves;
      first = omega (arith, c.loop-j.invariant.first, c.cycle_count-first.ensures, cycles_before-next ws.traces.now j trace c.trace_at.ensures);
      tells = c.put_wave.ensures.tells ∙ c.loop-j.invariant.tells;
      texts = c.put_wave.ensures.texts ∙ c.loop-j.invariant.texts;
      faults = c.in_ok-put_wave.ensures.cause ∙ c.loop-j.invariant.faults;
      done = λ told runs printed are.
          let wrote : Wrote w1 w2 c.args.number c.args.values.now j (Ok c.in_ok-put_wave.field-0) ws =
          subst (Wrote w1 w2 c.args.number c.args.values.now j (Ok c.in_ok-put_wave.field-0)) c.loop-j.invariant.waves
          (c.in_ok-put_wave.ensures.left (c.loop-j.invariant.tells ∙ told)) in
          next-done (set_writes (waved_of ws) ws.prefix.now c.args.number c.args.values.now runs) _
          (set-are (waved_of ws) ws.prefix.now c.args.number c.args.values.now runs) ws.traces.now j trace c.trace_at.ensures w0 w1 w2
          printed (c.loop-j.invariant.done told runs printed are)
          (wrote trace (runs j) printed c.trace_at.ensures (are j trace c.trace_at.ensures));
    }

pub returns-clause-left : goal.returns-clause-left
returns-clause-left g c = λ told runs printed are.
    let ws : Waves = c.args.self.now.waves in
    all-done (set_writes (waved_of ws) ws.prefix.now c.args.number c.args.values.now runs) _
    (set-are (waved_of ws) ws.prefix.now c.args.number c.args.values.now runs) ws.traces.now c.loop-j.j
    (on_shelf (g.S.Shelf.written c.args.shelf.now) (g.S.Shelf.written c.loop-j.shelf) printed) (omega (arith, c.loop-j-test.false))
    (c.loop-j.invariant.done told runs printed are)

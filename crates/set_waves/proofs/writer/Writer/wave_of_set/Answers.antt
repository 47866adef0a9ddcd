use Rattle.std.proofs.Common.{◌≡◌, ◌∙◌, ◌*◌, ℕ, List, length, take, drop, ap, sym, subst, refl}
use Rattle.loc_base.proofs.ShelfOptions.{Some-same}
use Rattle.design_core.specs.declared.trace.Trace.{Trace}
use Rattle.design_core.specs.declared.values.Values.{Values}
use Rattle.design_core.specs.Explained.{is_one_of}
use Rattle.design_core.specs.Run.{IsRun, start_state}
use Rattle.cycle_sim.specs.Replaying.{choices_from}
use Rattle.design_core.specs.TraceFits.{IsTraceOf}
use Rattle.cycle_sim.proofs.Replayed.{trace-of}
use Rattle.vcd_waves.specs.declared.wave.Wave.{Wave}
use Rattle.set_waves.specs.Waved.{Waved, waved_of}
use Rattle.set_waves.specs.Writes.{scene_of}
use Rattle.set_waves.specs.Writing.{IsRunWith}
use Rattle.set_waves.proofs.RerunLaws.{clock-same, ok-then, rerun-fits, rows-range, run-length}
use Rattle.set_waves.proofs.RunLines.{same-text}
use Rattle.set_waves.proofs.writer.Writer.wave_of_set.Goals as goal

pub outputs-requires-clause-rerun : goal.outputs-requires-clause-rerun
outputs-requires-clause-rerun c =
    rerun-fits _ (waved_of c.args.self.now.waves) c.args.self.now.waves.order.now c.args.shown.now.trace c.requires.writer.can refl
    c.trace_at-trace.ensures c.requires.shown.first c.requires.shown.values

pub chosen-requires : goal.chosen-requires
chosen-requires c =
    rerun-fits _ (waved_of c.args.self.now.waves) c.args.self.now.waves.order.now c.args.shown.now.trace c.requires.writer.can refl
    c.trace_at-trace.ensures c.requires.shown.first c.requires.shown.values

pub wave_text-requires : goal.wave_text-requires
wave_text-requires c =
    let fits : IsTraceOf c.args.self.now.waves.design.now c.trace_at-trace.result.now =
    trace-of c.args.self.now.waves.design.now c.args.self.now.waves.traces.now c.args.shown.now.trace c.trace_at-trace.result.now
    c.requires.writer.can.traces c.trace_at-trace.ensures in
    record {
      samples = ap length (c.in_ok-copied.ensures ∙ c.deref.ensures.value) ∙ fits.sample_count;
      expected = c.in_ok-expected.ensures.count;
      chosen = c.chosen.ensures.count
          ∙ ap (λ (ps : List ℕ). c.trace_at-trace.result.now.cycles * length ps) (sym c.deref-2.ensures.value);
    }

pub returns-clause-text : goal.returns-clause-text
returns-clause-text c = ok-then c.wave_text.result c.wave_text.ensures.text (λ text is trace run at is-run.
    let w : Waved = waved_of c.args.self.now.waves in
    let values : Values = c.args.shown.now.values.now in
    let j : ℕ = c.args.shown.now.trace in
    let own : Trace = c.trace_at-trace.result.now in
    let same : own ≡ trace = Some-same (sym c.trace_at-trace.ensures ∙ at) in
    let run-own : IsRun w.design own (is_one_of values.places.items) (choices_from values c.args.shown.now.first) run =
    subst (λ (n : ℕ). IsRun w.design own (is_one_of values.places.items) (choices_from values n) run) (sym c.requires.shown.first)
    (subst (λ (t : Trace). IsRunWith w values j t run) (sym same) is-run) in
    let many : own.cycles ≡ length run =
    run-length w.design own (is_one_of values.places.items) (choices_from values c.args.shown.now.first) (start_state w.design) run
    run-own in
    let W : Wave = record {
      top = c.args.self.now.waves.top;
      design = c.args.self.now.waves.design;
      clock = c.args.self.now.waves.clock;
      trace = record {
        ref_ptr = c.trace_at-trace.result.ref_ptr;
        now = record { cycles = own.cycles; inputs = c.in_ok-copied.field-0; expected = c.in_ok-expected.expected };
      };
      places = c.deref-2.result;
      chosen = c.chosen.result;
    } in
    is ∙ same-text W (scene_of w values j trace) run (record {
      top = refl;
      design = refl;
      clock = clock-same W;
      cycles = many;
      inputs = c.in_ok-copied.ensures ∙ c.deref.ensures.value ∙ ap (λ (t : Trace). t.inputs.items) same;
      outputs = c.in_ok-expected.ensures.outputs run run-own;
      places = c.deref-2.ensures.value;
      chosen = c.chosen.ensures.rows
          ∙ rows-range values.rows.items c.args.shown.now.first own.cycles (length values.places.items)
          ∙ ap (λ (n : ℕ). take (n * length values.places.items)
          (drop (c.args.shown.now.first * length values.places.items) values.rows.items)) many
          ∙ ap (λ (n : ℕ). take (length run * length values.places.items) (drop (n * length values.places.items) values.rows.items))
          c.requires.shown.first;
    }))

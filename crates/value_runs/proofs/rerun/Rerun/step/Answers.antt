use Rattle.std.proofs.Common.{◌≡◌, ◌+◌, ◌++◌, ℕ, List, length, map, take, drop, ap, subst, ◌∙◌, arith}
use Rattle.std.proofs.Math.Seq.{take-append_seam}
use Rattle.std.proofs.lemmas.List.{with_items_is}
use Rattle.std.specs.Prelude.{if◌then◌else◌}
use Rattle.loc_base.specs.declared.bits.Bits.{Bits}
use Rattle.loc_base.specs.Bits.{value_of}
use Rattle.design_core.specs.declared.design.Design.{Design}
use Rattle.design_core.specs.declared.values.Values.{Values}
use Rattle.design_core.specs.After.{Choice}
use Rattle.design_core.specs.Explained.{is_one_of, number_for}
use Rattle.design_core.specs.Given.{row}
use Rattle.design_core.specs.Run.{choice_at, samples_at}
use Rattle.design_core.specs.Words.{choice_of}
use Rattle.cycle_sim.specs.Replaying.{choices_from, chosen_at}
use Rattle.cycle_sim.specs.Simulated.{Steps}
use Rattle.cycle_sim.specs.Simulator.{held_by}
use Rattle.cycle_sim.proofs.Chosen.{choice-is, chosen-is, still-ready}
use Rattle.value_runs.proofs.rerun.Rerun.step.Goals as goal

pub returns-clause-step : goal.returns-clause-step
returns-clause-step c =
    let d : Design = c.args.self.now.design.now in
    let values : Values = c.args.self.now.values.now in
    let first : ℕ = c.args.self.now.first in
    let old : List Bits = c.args.entries.now.choice.items in
    let samples : c.row-samples.result.now ≡ samples_at d c.args.self.now.trace.now c.args.t =
    rw (c.deref-3.ensures.value, c.len-2.ensures, d.inputs.ok.0) at c.row-samples.ensures in
    let chosen : c.row-chosen.result.now ≡ row values.rows.items (length values.places.items) (first + c.args.t) =
    rw (c.deref.ensures.value, c.len.ensures, values.places.ok.0) at c.row-chosen.ensures in
    let each : (p : ℕ) → chosen_at c.choose.new.choice p ≡ (if is_one_of values.places.items p
    then number_for values.places.items (map value_of c.row-chosen.result.now) p else chosen_at old p) =
    rw (c.deref-2.ensures.value, c.deref_mut.ensures.value) at c.choose.ensures.choice in
    let new : List Bits = c.choose.new.choice in
    let whole : c.args.entries.now.choice.len ≡ length new =
    omega (arith, c.choose.ensures.length, ap length c.deref_mut.ensures.value, c.args.entries.now.choice.ok.0) in
    let written : c.deref-5.result.now ≡ new =
    c.deref-5.ensures.value ∙ ap (λ n. take n (new ++ drop (length new) old)) whole ∙ take-append_seam new (drop (length new) old) in
    let frees : c.deref-4.result.now ≡ c.args.entries.now.freed.items = c.deref-4.ensures.value in
    let choice : choice_of c.args.entries.now.freed.items c.choose.new.choice
    ≡ choice_at (is_one_of values.places.items) (choices_from values first) c.args.t =
    choice-is values c.args.entries.now.freed.items c.choose.new.choice first c.args.t c.requires.entries.ready.freed
    (chosen-is values old c.choose.new.choice c.args.entries.now.freed.items first c.args.t c.row-chosen.result.now
    c.requires.entries.ready chosen each) in
    let same : choice_of c.deref-4.result.now c.deref-5.result.now
    ≡ choice_at (is_one_of values.places.items) (choices_from values first) c.args.t = rw (written, frees) choice in
    subst (λ (S : List Bits). Steps S (choice_at (is_one_of values.places.items) (choices_from values first) c.args.t)
    (held_by c.args.sim.now) (held_by c.step.new.self)) samples
    (subst (λ (C : Choice). Steps c.row-samples.result.now C (held_by c.args.sim.now) (held_by c.step.new.self)) same
    c.step.ensures.step)

pub returns-clause-entries : goal.returns-clause-entries
returns-clause-entries c =
    let values : Values = c.args.self.now.values.now in
    let old : List Bits = c.args.entries.now.choice.items in
    let new : List Bits = c.choose.new.choice in
    let each : (p : ℕ) → chosen_at new p ≡ (if is_one_of values.places.items p
    then number_for values.places.items (map value_of c.row-chosen.result.now) p else chosen_at old p) =
    rw (c.deref-2.ensures.value, c.deref_mut.ensures.value) at c.choose.ensures.choice in
    let whole = with_items_is c.args.entries.now.choice new
    (omega (arith, c.choose.ensures.length, ap length c.deref_mut.ensures.value, c.args.entries.now.choice.ok.0)) in
    record {
      chosen = record {
        frees = c.requires.entries.chosen.frees;
        values = rw whole
            (c.choose.ensures.length ∙ ap length c.deref_mut.ensures.value ∙ c.requires.entries.chosen.values);
      };
      ready = rw whole
          (still-ready values c.args.entries.now.freed.items old new (map value_of c.row-chosen.result.now)
          c.requires.entries.ready each);
    }

pub returns-clause-chooses : goal.returns-clause-chooses
returns-clause-chooses c =
    let values : Values = c.args.self.now.values.now in
    let first : ℕ = c.args.self.now.first in
    let old : List Bits = c.args.entries.now.choice.items in
    let new : List Bits = c.choose.new.choice in
    let chosen : c.row-chosen.result.now ≡ row values.rows.items (length values.places.items) (first + c.args.t) =
    rw (c.deref.ensures.value, c.len.ensures, values.places.ok.0) at c.row-chosen.ensures in
    let each : (p : ℕ) → chosen_at new p ≡ (if is_one_of values.places.items p
    then number_for values.places.items (map value_of c.row-chosen.result.now) p else chosen_at old p) =
    rw (c.deref-2.ensures.value, c.deref_mut.ensures.value) at c.choose.ensures.choice in
    let whole = with_items_is c.args.entries.now.choice new
    (omega (arith, c.choose.ensures.length, ap length c.deref_mut.ensures.value, c.args.entries.now.choice.ok.0)) in
    rw whole
    (choice-is values c.args.entries.now.freed.items new first c.args.t c.requires.entries.ready.freed
    (chosen-is values old new c.args.entries.now.freed.items first c.args.t c.row-chosen.result.now c.requires.entries.ready chosen each))

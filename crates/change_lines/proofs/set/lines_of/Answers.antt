use Rattle.std.proofs.Common.{◌≡◌, ◌∙◌, ◌+◌, List, length, get_or, ap, arith, refl, sym}
use Rattle.std.proofs.lemmas.Option.{slice_get-get_or}
use Rattle.std.specs.Prelude.{Some, slice_get}
use Rattle.design_core.specs.declared.trace.Trace.{Trace}
use Rattle.design_core.proofs.CyclesBefore.{cycles_before-next, cycles_before-none, cycles_before-whole}
use Rattle.plain_values.proofs.EvaluateWords.{slice_get_at}
use Rattle.change_lines.specs.Telling.{told_of}
use Rattle.change_lines.proofs.SceneLaws.{rerun-fits, rows-fit}
use Rattle.change_lines.proofs.SetSteps.{stands-all, stands-more, stands-none}
use Rattle.change_lines.proofs.set.lines_of.Goals as goal

pub loop-k-init : goal.loop-k-init
loop-k-init c = record {
  sim = c.requires.sim;
  same = record { design = refl; order = refl };
  first = sym (cycles_before-none c.args.listed.now.traces.now);
  stands = λ lines are.
      rw c.new-lines.ensures.items (stands-none (told_of c.args.listed.now c.args.set.now) c.args.listed.now.traces.now lines are);
}

pub overflow_add-first : goal.overflow_add-first
overflow_add-first c =
    let traces : List Trace = c.args.listed.now.traces.now in
    let at : slice_get traces c.loop-k.k ≡ Some c.index-listed-k.result =
    slice_get_at traces c.loop-k.k c.index-listed-k.result c.loop-k-test.true c.index-listed-k.is in
    omega (
      arith,
      c.requires.can.few_cycles,
      cycles_before-whole traces c.loop-k.k (length traces) c.index-listed-k.result at c.loop-k-test.true,
      c.loop-k.invariant.first,
    )

pub push_lines-requires-clause-scene : goal.push_lines-requires-clause-scene
push_lines-requires-clause-scene c =
    let traces : List Trace = c.args.listed.now.traces.now in
    let trace : Trace = get_or traces c.loop-k.k c.index-listed-k.result in
    let at : slice_get traces c.loop-k.k ≡ Some trace = slice_get-get_or traces c.loop-k.k c.index-listed-k.result c.loop-k-test.true in
    let few = c.requires.can.few_cycles in
    record {
      rerun = rerun-fits _ traces c.loop-k.k
          (record { at = at; first = c.loop-k.invariant.first; all = c.requires.can.traces; few = few; values = c.requires.values });
      few = c.requires.can.few_signals;
      rows = rows-fit c.args.listed.now.design.now c.args.set.now.values traces c.loop-k.k c.loop-k.first trace at c.loop-k.invariant.first
          c.requires.values;
    }

pub push_lines-requires-clause-simulates : goal.push_lines-requires-clause-simulates
push_lines-requires-clause-simulates c = record {
  design = c.loop-k.invariant.same.design ∙ c.requires.can.design;
  simulable = rw (c.loop-k.invariant.same.design, c.loop-k.invariant.same.order) c.requires.can.simulable;
}

pub loop-k-preserved : goal.loop-k-preserved
loop-k-preserved c =
    let traces : List Trace = c.args.listed.now.traces.now in
    let trace : Trace = get_or traces c.loop-k.k c.index-listed-k.result in
    let at : slice_get traces c.loop-k.k ≡ Some trace = slice_get-get_or traces c.loop-k.k c.index-listed-k.result c.loop-k-test.true in
    record {
      sim = c.push_lines.ensures.sim;
      same = record {
        design = c.push_lines.ensures.same.design ∙ c.loop-k.invariant.same.design;
        order = c.push_lines.ensures.same.order ∙ c.loop-k.invariant.same.order;
      };
      first = ap (λ n. n + trace.cycles) c.loop-k.invariant.first
          ∙ sym (cycles_before-next traces c.loop-k.k trace at);
      stands = λ lines are.
          stands-more (told_of c.args.listed.now c.args.set.now) traces lines c.loop-k.k c.loop-k.first trace
          c.loop-k.lines.items c.push_lines.new.lines.items at (c.loop-k.invariant.stands lines are)
          (rw (c.as_slice.ensures, c.as_slice-in-loop-k.ensures) at c.in_ok-push_lines.ensures.lines);
    }

pub returns-clause-lines : goal.returns-clause-lines
returns-clause-lines c lines are =
    stands-all (told_of c.args.listed.now c.args.set.now) c.args.listed.now.traces.now lines c.loop-k.k c.loop-k.first c.loop-k.lines.items
    (omega (arith, c.loop-k-test.false)) (c.loop-k.invariant.stands lines are)

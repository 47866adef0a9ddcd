use Rattle.std.proofs.Common.{◌∙◌, ◌+◌, ap, sym, length, rules}
use Rattle.trail_core.specs.TrailState.{entry_of}
use Rattle.trail_core.proofs.LayoutLemmas.{values_none, count_none}
use Rattle.trail_core.proofs.plain.PlainTrail.new.Goals as goal

pub invariant_of-result : goal.invariant_of-result
invariant_of-result c = record {
  trail = search rules;
  index = λ i l. c.in_ok-assigned.ensures.none i l ∙ ap (λ es. entry_of es (i + 1)) (sym c.in_ok-entries.ensures.items);
  values = values_none c.in_ok-values.values.items c.in_ok-assigned.assigned.items (c.in_ok-values.ensures.size ∙ sym c.in_ok-assigned.ensures.size) c.in_ok-values.ensures.none c.in_ok-assigned.ensures.none;
  value_size = c.in_ok-values.ensures.size ∙ sym c.in_ok-assigned.ensures.size;
  counted = count_none c.in_ok-assigned.assigned.items c.in_ok-assigned.ensures.none ∙ sym (ap length c.in_ok-entries.ensures.items);
  starts = search rules;
  small = search rules;
  few_clauses = search rules;
  entry_room = search rules;
  start_room = search rules;
}

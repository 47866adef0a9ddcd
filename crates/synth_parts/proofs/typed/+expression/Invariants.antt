use Rattle.std.proofs.Common.{◌≡◌, ◌+◌, ◌≤◌, drop}
use Rattle.std.specs.Prelude.{IsTrue}
use Rattle.std.specs.List.{list_all}
use Rattle.design_core.specs.WellFormed.{typed_fits}
use Rattle.synth_parts.specs.Lists.{all_parts, later_parts, parts_sum}
use Rattle.synth_parts.proofs.typed.+expression.Given as goal

abbrev pub invariant-joined-loop-i : goal.invariant-joined-loop-i
invariant-joined-loop-i l = record {
  most : l.width + parts_sum (drop l.i l.parts) ≤ 128;
  made : all_parts l.at.signals.now l.at.nodes_of.now l.fn.nodes l.parts
      ≡ later_parts l.at.signals.now l.at.nodes_of.now l.nodes l.word l.width (drop l.i l.parts);
  fits : IsTrue (list_all (typed_fits l.at.signals.now) (drop l.i l.parts));
}

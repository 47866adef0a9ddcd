use Rattle.std.proofs.Common.{◌≡◌, ◌-◌, map, drop}
use Rattle.v_syntax.specs.StatementTree.{statement_of, statements_of, case_item_of, case_items_of, head_of}
use Rattle.v_scopes.specs.Around.{frames_of}
use Rattle.v_hierarchy.specs.Unrolled.{unrolled_all, unrolled_arms}
use Rattle.v_hierarchy.specs.Views.{steps_of, arm_of, turn_of}
use Rattle.v_loops.specs.Heads.{IsTurning}
use Rattle.v_loops.specs.Loops.{loop_turns}
use Rattle.v_loops.proofs.GatherSteps.{steps_so_far, arms_so_far, turns_from}
use Rattle.v_loops.proofs.position.Position.+unrolled.Given as goal

abbrev pub invariant-unrolled_all-loop-statement : goal.invariant-unrolled_all-loop-statement
invariant-unrolled_all-loop-statement l = record {
  same : frames_of l.self.scopes ≡ frames_of l.fn.self.scopes;
  rest : steps_so_far (map steps_of l.all) (unrolled_all (frames_of l.fn.self.scopes) (statements_of (map statement_of (drop l.statement-index l.statements))) l.self.left)
      ≡ unrolled_all (frames_of l.fn.self.scopes) (statements_of (map statement_of l.statements)) l.fn.self.left;
}

abbrev pub invariant-unrolled_arms-loop-item : goal.invariant-unrolled_arms-loop-item
invariant-unrolled_arms-loop-item l = record {
  same : frames_of l.self.scopes ≡ frames_of l.fn.self.scopes;
  rest : arms_so_far (map arm_of l.all) (unrolled_arms (frames_of l.fn.self.scopes) (case_items_of (map case_item_of (drop l.item-index l.items))) l.self.left)
      ≡ unrolled_arms (frames_of l.fn.self.scopes) (case_items_of (map case_item_of l.items)) l.fn.self.left;
}

abbrev pub invariant-unrolled_turns-loop-turn : goal.invariant-unrolled_turns-loop-turn
invariant-unrolled_turns-loop-turn l = record {
  same : frames_of l.self.scopes ≡ frames_of l.fn.self.scopes;
  fits : IsTurning l.next.value;
  rest : turns_from (frames_of l.fn.self.scopes) l.span (head_of l.head) (statement_of l.body) (65536 - l._turn) l.next.value l.next.runs (map turn_of l.turns) l.self.left
      ≡ loop_turns (frames_of l.fn.self.scopes) l.span (head_of l.head) (statement_of l.body) (l.fn.first.value, l.fn.first.runs) l.fn.self.left;
}

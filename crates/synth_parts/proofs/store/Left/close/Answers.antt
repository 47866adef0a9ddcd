use Rattle.std.proofs.Common.{◌≡◌, ℕ, List, [], ◌∷◌, ◌++◌, length, ap₂, ◌∙◌}
use Rattle.design_core.specs.declared.signal.Signal.{Signal}
use Rattle.node_map.specs.Entries.{Tracked, put}
use Rattle.synth_parts.specs.declared.statement.Arm.{Arm}
use Rattle.synth_parts.specs.Statement.{maps, merged}
use Rattle.synth_parts.proofs.StatementSteps.{closed-last, arms-last}
use Rattle.synth_parts.proofs.store.Left.close.Goals as goal

pub loop-arm-preserved : goal.loop-arm-preserved
loop-arm-preserved c =
    let S : List Signal = c.args.self.now.signals.now in
    let arm : Arm = c.in-Some.arm in
    let rest : List Arm = c.pop.new.self in
    let is : c.loop-arm.left ≡ rest ++ arm ∷ [] = c.in-Some.ensures in
    let C : List ℕ = c.args.other.now.current.base in
    let L : List ℕ = c.args.other.now.later.base in
    let now : Tracked = c.loop-arm.other.current in
    let past : Tracked = c.loop-arm.other.later in
    let left : maps c.join.new.nodes c.join.new.other.current.now c.join.new.other.later.now
    ≡ merged S arm.test (maps [] (put arm.kept.current C) (put arm.kept.later L)) (maps c.loop-arm.nodes now.now past.now) 0 (length S) =
    c.in_ok-join.ensures.ok
    ∙ ap₂ (λ a b. merged S arm.test (maps [] (put arm.kept.current a) (put arm.kept.later b)) (maps c.loop-arm.nodes now.now past.now) 0 (length S)) c.loop-arm.invariant.base c.loop-arm.invariant.base_later in
    record {
      arms = (arms-last S c.loop-arm.left rest arm is c.loop-arm.invariant.arms).0;
      current = c.in_ok-join.ensures.current;
      later = c.in_ok-join.ensures.later;
      base = c.in_ok-join.ensures.base ∙ c.loop-arm.invariant.base;
      base_later = c.in_ok-join.ensures.base_later ∙ c.loop-arm.invariant.base_later;
      rest = c.loop-arm.invariant.rest
          ∙ closed-last S C L c.loop-arm.left rest arm c.loop-arm.nodes c.join.new.nodes now.now past.now c.join.new.other.current.now c.join.new.other.later.now is left;
    }

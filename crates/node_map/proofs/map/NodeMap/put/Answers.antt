use Rattle.std.proofs.Common.{◌≡◌, ℕ, ◌+◌, ◌-◌, ◌<◌, List, length, drop, ap, ◌∙◌, arith}
use Rattle.std.proofs.lemmas.List.{length-set}
use Rattle.node_map.specs.declared.entry.Entry.{Entry}
use Rattle.node_map.specs.Entries.{put}
use Rattle.node_map.proofs.MapSteps.{put-step}
use Rattle.node_map.proofs.map.NodeMap.put.Goals as goal

pub loop-left-preserved : goal.loop-left-preserved
loop-left-preserved c =
    let E : List Entry = c.args.entries.now in
    let before : List ℕ = c.args.self.now.now in
    let nodes : List ℕ = c.loop-left.self.now in
    let k : ℕ = c.loop-left.left - 1 in
    let entry : Entry = c.nth-entry.result in
    let next : c.loop-left.left ≡ k + 1 = omega (arith, c.loop-left-test.true) in
    let within : k < length E = omega (arith, c.loop-left-test.true, c.loop-left.invariant.most) in
    record {
      most = omega (arith, c.loop-left.invariant.most);
      long = ap length c.in_ok-set.ensures.ok ∙ length-set nodes entry.signal entry.node ∙ c.loop-left.invariant.long;
      base = c.in_ok-set.ensures.base ∙ c.loop-left.invariant.base;
      now = c.in_ok-set.ensures.ok ∙ put-step E k nodes before entry within c.nth-entry.ensures (c.loop-left.invariant.now ∙ ap (λ j. put (drop j E) before) next);
    }

use Rattle.std.proofs.Common.{◌≡◌, ℕ, List, [], ◌∷◌, ◌++◌, length, set, ap, sym, ◌∙◌, subst}
use Rattle.node_map.specs.declared.entry.Entry.{Entry}
use Rattle.node_map.specs.Entries.{put, AreWithin}
use Rattle.node_map.proofs.MapSteps.{undo-next, undo-within, within-set}
use Rattle.node_map.proofs.map.NodeMap.undo.Goals as goal

pub loop-entry-preserved : goal.loop-entry-preserved
loop-entry-preserved c =
    let replaced : List Entry = c.loop-entry.self-inside.replaced in
    let nodes : List ℕ = c.loop-entry.self-inside.nodes in
    let rest : List Entry = c.pop.new.self in
    let entry : Entry = c.in-Some.entry in
    let is : replaced ≡ rest ++ entry ∷ [] = c.in-Some.ensures in
    record {
      within = subst (λ xs. AreWithin (length xs) rest) (sym c.set.ensures) (within-set nodes entry.signal entry.node rest (undo-within (length nodes) replaced rest entry is c.loop-entry.invariant.within).0);
      is = ap (put rest) c.set.ensures ∙ sym (undo-next replaced rest entry nodes is) ∙ c.loop-entry.invariant.is;
    }

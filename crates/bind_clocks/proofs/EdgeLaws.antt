-- The edges of an event list, one event more.
use Rattle.std.proofs.Common.{◌≡◌, ℕ, List, [], ◌∷◌, ◌++◌, refl, ap}
use Rattle.v_syntax.specs.ItemTree.{PlainEvent, edge_event, change_event}
use Rattle.v_binding.specs.Bound.{Root}
use Rattle.v_binding.specs.Clocks.{waited, edges}
use Rattle.v_binding.specs.Names.{Names}

pub edges-more : (roots : List Root) (names : Names) (es : List PlainEvent) (e : PlainEvent)
    → edges roots names (es ++ e ∷ []) ≡ edges roots names es ++ waited roots names e []
edges-more roots names [] e = refl
edges-more roots names (edge_event site edge text ∷ es) e = ap (waited roots names (edge_event site edge text)) (edges-more roots names es e)
edges-more roots names (change_event site text s ∷ es) e = edges-more roots names es e

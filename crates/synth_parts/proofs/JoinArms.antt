-- An arm that is merged at the signals in which it may differ.
use Rattle.std.proofs.Common.{◌≡◌, ℕ, ◌<◌, List, [], length, All, sym, ◌∙◌, ap, ap₂, subst}
use Rattle.std.proofs.lemmas.List.{length-map}
use Rattle.design_core.specs.declared.signal.Signal.{Signal}
use Rattle.node_map.specs.declared.pair.Kept.{Kept}
use Rattle.node_map.specs.Entries.{Tracked, put, entry_at, AreWithin}
use Rattle.node_map.specs.Pairs.{IsBeside}
use Rattle.node_map.proofs.PairSteps.{entries-within}
use Rattle.word_net.specs.declared.node.WordNode.{WordNode}
use Rattle.synth_parts.specs.Statement.{maps, merged}
use Rattle.synth_parts.specs.Rows.{rows_merged}
use Rattle.synth_parts.proofs.RowSteps.{merged-sparse}

-- the entries of an arm have signals of the maps, as many in one list as in the other
pub beside-fits : (n : ℕ) (current later : Tracked) (arm kept : Kept) → IsBeside current later arm kept → length current.now ≡ n → AreWithin n kept.current × (length kept.later ≡ length kept.current)
beside-fits n current later arm kept b wide = (
  subst (AreWithin n) (sym b.entries.current) (entries-within (put arm.current current.base) b.signals n (subst (λ k. All (λ s. s < k) b.signals) wide b.within)),
  ap length b.entries.later ∙ length-map b.signals (entry_at (put arm.later later.base)) ∙ sym (ap length b.entries.current ∙ length-map b.signals (entry_at (put arm.current current.base))),
)

pub joined : (signals : List Signal) (test : ℕ) (current later : Tracked) (arm kept : Kept) (nodes : List WordNode) → IsBeside current later arm kept → length current.now ≡ length signals
    → rows_merged signals test kept.current kept.later (maps nodes current.now later.now)
    ≡ merged signals test (maps [] (put arm.current current.base) (put arm.later later.base)) (maps nodes current.now later.now) 0 (length signals)
joined signals test current later arm kept nodes b wide =
    ap₂ (λ xs ys. rows_merged signals test xs ys (maps nodes current.now later.now)) b.entries.current b.entries.later
    ∙ merged-sparse signals test (maps [] (put arm.current current.base) (put arm.later later.base)) b.signals (maps nodes current.now later.now) b.rises
    (subst (λ k. All (λ s. s < k) b.signals) wide b.within) b.same_current b.same_later

pub ruleset join_steps = (beside-fits, joined)

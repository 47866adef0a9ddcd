-- Steps of the loops over clocked blocks.
use Rattle.std.proofs.Common.{◌≡◌, ℕ, ◌+◌, ◌<◌, ◌≤◌, List, length, get_or, drop, sym, ◌∙◌, ap, subst}
use Rattle.std.specs.Prelude.{IsTrue}
use Rattle.std.specs.List.{list_all}
use Rattle.std.proofs.lemmas.Bool.{and_parts}
use Rattle.std.proofs.lemmas.List.{drop_all}
use Rattle.loc_base.proofs.ShelfLists.{drop-at}
use Rattle.design_core.specs.declared.driver.Clocked.{Clocked}
use Rattle.design_core.specs.declared.design.Design.{Design}
use Rattle.design_core.specs.WellFormed.{clocked_fits}
use Rattle.word_net.specs.declared.node.WordNode.{WordNode}
use Rattle.synth_parts.specs.Store.{Nodes, nodes_made}
use Rattle.v_synth.specs.Clocked.{reset_made, resets_made, body_made, bodies_made}
use Rattle.v_synth.specs.Owned.{BlockFits}

pub block-fits : (d : Design) (blocks : List Clocked) (i : ℕ) (block : Clocked) → i < length blocks → block ≡ get_or blocks i block → IsTrue (list_all (clocked_fits d) (drop i blocks))
    → BlockFits d block × IsTrue (list_all (clocked_fits d) (drop (i + 1) blocks))
block-fits d blocks i block within is h =
    let both = and_parts (clocked_fits d block) (list_all (clocked_fits d) (drop (i + 1) blocks)) (subst (λ bs. IsTrue (list_all (clocked_fits d) bs)) (drop-at blocks i block within is) h) in
    (record { fits = both.0 }, both.1)

pub resets-next : (d : Design) (from : List ℕ) (nodes after : List WordNode) (nodes_of each : List ℕ) (i : ℕ) (blocks : List Clocked) (block : Clocked) → i < length blocks → block ≡ get_or blocks i block
    → nodes_made after each ≡ reset_made d from block block.reset nodes nodes_of
    → resets_made d from nodes nodes_of (drop i blocks) ≡ resets_made d from after each (drop (i + 1) blocks)
unfolding resets_made
resets-next d from nodes after nodes_of each i blocks block within is m =
    ap (resets_made d from nodes nodes_of) (drop-at blocks i block within is) ∙ ap (λ (k : Nodes). resets_made d from k.nodes k.each (drop (i + 1) blocks)) (sym m)

pub resets-end : (d : Design) (from : List ℕ) (nodes : List WordNode) (nodes_of : List ℕ) (i : ℕ) (blocks : List Clocked) → length blocks ≤ i
    → resets_made d from nodes nodes_of (drop i blocks) ≡ nodes_made nodes nodes_of
unfolding resets_made
resets-end d from nodes nodes_of i blocks past = ap (resets_made d from nodes nodes_of) (drop_all i blocks past)

pub ruleset resets_steps = (resets-next, resets-end, block-fits)

pub bodies-next : (d : Design) (from : List ℕ) (nodes after : List WordNode) (nodes_of each : List ℕ) (i : ℕ) (blocks : List Clocked) (block : Clocked) → i < length blocks → block ≡ get_or blocks i block
    → nodes_made after each ≡ body_made d from block block.reset nodes nodes_of
    → bodies_made d from nodes nodes_of (drop i blocks) ≡ bodies_made d from after each (drop (i + 1) blocks)
unfolding bodies_made
bodies-next d from nodes after nodes_of each i blocks block within is m =
    ap (bodies_made d from nodes nodes_of) (drop-at blocks i block within is) ∙ ap (λ (k : Nodes). bodies_made d from k.nodes k.each (drop (i + 1) blocks)) (sym m)

pub bodies-end : (d : Design) (from : List ℕ) (nodes : List WordNode) (nodes_of : List ℕ) (i : ℕ) (blocks : List Clocked) → length blocks ≤ i
    → bodies_made d from nodes nodes_of (drop i blocks) ≡ nodes_made nodes nodes_of
unfolding bodies_made
bodies-end d from nodes nodes_of i blocks past = ap (bodies_made d from nodes nodes_of) (drop_all i blocks past)

pub ruleset bodies_steps = (bodies-next, bodies-end, block-fits)

-- Steps of the loop over the inputs.
use Rattle.std.proofs.Common.{◌≡◌, ℕ, ◌+◌, ◌<◌, ◌≤◌, List, ◌∷◌, length, get_or, drop, sym, ◌∙◌, ap, drop-cons, add-one}
use Rattle.std.proofs.lemmas.List.{drop_all}
use Rattle.design_core.specs.declared.design.Design.{Design}
use Rattle.design_core.specs.Valuation.{width_at}
use Rattle.word_net.specs.declared.node.Operation.TheVariants as operation
use Rattle.word_net.specs.declared.node.WordNode.{WordNode}
use Rattle.word_net.specs.Build.{Made, made, pushed}
use Rattle.v_synth.specs.Clocked.{inputs_made}

pub inputs-next : (d : Design) (nodes after : List WordNode) (place n : ℕ) (inputs : List ℕ) → place < length inputs
    → made after n ≡ pushed nodes (width_at d.signals.items (get_or inputs place 0)) (operation.Input place)
    → inputs_made d nodes place (drop place inputs) ≡ inputs_made d after (place + 1) (drop (place + 1) inputs)
unfolding inputs_made
inputs-next d nodes after place n inputs within is =
    ap (inputs_made d nodes place) (drop-cons inputs place 0 within ∙ ap (λ k. get_or inputs place 0 ∷ drop k inputs) (sym (add-one place)))
    ∙ ap (λ (m : Made). inputs_made d m.nodes (place + 1) (drop (place + 1) inputs)) (sym is)

pub inputs-end : (d : Design) (nodes : List WordNode) (place : ℕ) (inputs : List ℕ) → length inputs ≤ place → inputs_made d nodes place (drop place inputs) ≡ nodes
unfolding inputs_made
inputs-end d nodes place inputs past = ap (inputs_made d nodes place) (drop_all place inputs past)

pub ruleset inputs_steps = (inputs-next, inputs-end)

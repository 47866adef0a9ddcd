-- Steps of the loops over the words of an array.
use Rattle.std.proofs.Common.{◌≡◌, ℕ, suc, ◌+◌, ◌-◌, ◌<◌, List, refl, ap, sym, ◌∙◌, arith}
use Rattle.design_core.specs.declared.signal.Signal.{Signal}
use Rattle.word_net.specs.declared.node.WordNode.{WordNode}
use Rattle.word_net.specs.Build.{Made, made}
use Rattle.synth_parts.specs.declared.array_parts.ArrayPart.{ArrayPart}
use Rattle.synth_parts.specs.Expression.{word_made, words_made}

-- one more word
pub words-step : (signals : List Signal) (nodes_of : List ℕ) (array : ArrayPart) (nodes after : List WordNode) (so_far n place count : ℕ) → place < count
    → made after n ≡ word_made signals nodes_of array nodes so_far place
    → words_made signals nodes_of array nodes so_far place (count - place) ≡ words_made signals nodes_of array after n (place + 1) (count - (place + 1))
unfolding words_made
words-step signals nodes_of array nodes after so_far n place count low is =
    let left : count - place ≡ suc (count - (place + 1)) = omega (arith, low) in
    let rest : Made → Made = λ m. words_made signals nodes_of array m.nodes m.node (place + 1) (count - (place + 1)) in
    ap (words_made signals nodes_of array nodes so_far place) left ∙ ap rest (sym is)

-- none is left
pub words-end : (signals : List Signal) (nodes_of : List ℕ) (array : ArrayPart) (nodes : List WordNode) (so_far place count : ℕ) → place ≡ count
    → words_made signals nodes_of array nodes so_far place (count - place) ≡ made nodes so_far
unfolding words_made
words-end signals nodes_of array nodes so_far place count end =
    let left : count - place ≡ 0 = omega (arith, end) in rw left refl

-- all are left
pub words-all : (signals : List Signal) (nodes_of : List ℕ) (array : ArrayPart) (nodes : List WordNode) (so_far count : ℕ)
    → words_made signals nodes_of array nodes so_far 0 (count - 0) ≡ words_made signals nodes_of array nodes so_far 0 count
words-all signals nodes_of array nodes so_far count = ap (words_made signals nodes_of array nodes so_far 0) (omega arith)

pub ruleset steps = (words-step, words-end, words-all)

-- What the bits of inputs, of states and of places mean.
use Rattle.std.proofs.Common.{◌≡◌, ℕ, zero, suc, ◌+◌, ◌^◌, ◌≤◌, ◌<◌, Bool, true, false, if◌then◌else◌, List, [], ◌∷◌, ◌++◌, take, refl, ◌∙◌}
use Rattle.std.proofs.Math.Nat.{mod-eq_of_lt}
use Rattle.gate_base.specs.declared.literal.Literal.{Literal}
use Rattle.gate_base.specs.declared.node.Node.{Node}
use Rattle.gate_base.specs.Nodes.{Word}
use Rattle.gate_base.specs.Meaning.{Source, MeansAll, GivesAll, none, more}
use Rattle.gate_base.proofs.Meaning.{keep_all, input-means, state-means, free-means}
use Rattle.design_core.specs.Valuation.{bit, number}
use Rattle.design_core.specs.After.{assigned}
use Rattle.design_core.proofs.NumberLaws.{number-bit, number-same}
use Rattle.bit_words.proofs.Meaning.{MeansAll-push, ends, one_more}
use Rattle.word_net.specs.Values.{Source as WordSource}
use Rattle.bit_circuit.specs.Sources.{inputs_made, states_made, frees_made}
use Rattle.bit_circuit.specs.Meaning.{bits_of, IsOf, GivesOf}
use Rattle.bit_circuit.proofs.Bits.{bits_from}
use Rattle.bit_circuit.proofs.WireLaws.{of-bits, low-bits}
use Rattle.bit_circuit.proofs.UnaryLaws.{as-value}

inputs-mean : (count : ℕ) {e : Source} {nodes : List Node} {bits : List Literal} {done : List Bool} (input b : ℕ) → MeansAll e nodes bits done
    → GivesAll e nodes (inputs_made nodes bits input b count) (done ++ bits_from (e.inputs input) b count)
unfolding inputs_made bits_from
inputs-mean zero input b so_far = ends so_far
inputs-mean (suc count) {e} {nodes} {done = done} input b so_far =
    let m = input-means e nodes input b in
    one_more done (e.inputs input b) (bits_from (e.inputs input) (b + 1) count) m.grown (inputs-mean count input (b + 1) (MeansAll-push (keep_all m.grown so_far) m.means))

states-mean : (count : ℕ) {e : Source} {nodes : List Node} {bits : List Literal} {done : List Bool} (state b : ℕ) → MeansAll e nodes bits done
    → GivesAll e nodes (states_made nodes bits state b count) (done ++ bits_from (e.states state) b count)
unfolding states_made bits_from
states-mean zero state b so_far = ends so_far
states-mean (suc count) {e} {nodes} {done = done} state b so_far =
    let m = state-means e nodes state b in
    one_more done (e.states state b) (bits_from (e.states state) (b + 1) count) m.grown (states-mean count state (b + 1) (MeansAll-push (keep_all m.grown so_far) m.means))

frees-mean : (xs : List Literal) {e : Source} {nodes : List Node} {bits : List Literal} {done : List Bool} (f : ℕ → Bool) (place b count : ℕ)
    → MeansAll e nodes bits done → MeansAll e nodes xs (bits_from f b count)
    → GivesAll e nodes (frees_made nodes bits place b xs) (done ++ bits_from (λ i. if e.frees place then e.chosen 0 place i else f i) b count)
unfolding frees_made bits_from
frees-mean [] f place b zero so_far none = ends so_far
frees-mean [] f place b (suc count) so_far mxs = elim mxs [ ]
frees-mean (x ∷ xs) f place b zero so_far mxs = elim mxs [ ]
frees-mean (x ∷ xs) {e} {nodes} {done = done} f place b (suc count) so_far (more mx mxs) =
    let m = free-means 0 place b mx in
    let g : ℕ → Bool = λ i. if e.frees place then e.chosen 0 place i else f i in
    one_more done (g b) (bits_from g (b + 1) count) m.grown (frees-mean xs f place (b + 1) count (MeansAll-push (keep_all m.grown so_far) m.means) (keep_all m.grown mxs))

pub all-gives : {e : Source} {nodes : List Node} {w : Word} (f : ℕ → Bool) (n : ℕ) → GivesAll e nodes w (bits_from f 0 n) → GivesOf e nodes w n (number n f)
all-gives f n g = record { grown = g.grown; is = of-bits f n g.means }

pub input-gives : (e : WordSource) (nodes : List Node) (input width : ℕ) → e.inputs input < 2 ^ width
    → GivesOf (bits_of e) nodes (inputs_made nodes [] input 0 width) width (e.inputs input)
input-gives e nodes input width below =
    as-value (number-bit width (e.inputs input) ∙ mod-eq_of_lt below) (all-gives (bit (e.inputs input)) width (inputs-mean width input 0 none))

pub state-gives : (e : WordSource) (nodes : List Node) (state width : ℕ) → e.states state < 2 ^ width
    → GivesOf (bits_of e) nodes (states_made nodes [] state 0 width) width (e.states state)
state-gives e nodes state width below =
    as-value (number-bit width (e.states state) ∙ mod-eq_of_lt below) (all-gives (bit (e.states state)) width (states-mean width state 0 none))

pub free-gives : (e : WordSource) {nodes : List Node} {xs : List Literal} {long v : ℕ} (place width : ℕ) → width ≤ long → IsOf (bits_of e) nodes xs long v
    → GivesOf (bits_of e) nodes (frees_made nodes [] place 0 (take width xs)) width (number width (bit (assigned e.choice place v)))
free-gives e {xs = xs} {v = v} place width within x =
    as-value (number-same width _ (bit (assigned e.choice place v)) (λ b below. which (e.choice.frees place) b))
    (all-gives _ width (frees-mean (take width xs) (bit v) place 0 width none (low-bits width within x)))
  where
    which : (c : Bool) (b : ℕ) → (if c then bit (e.choice.chosen place) b else bit v b) ≡ bit (if c then e.choice.chosen place else v) b
    which true b = refl
    which false b = refl

-- Steps of the loops over what is kept of a cycle.
use Rattle.std.proofs.Common.{◌≡◌, ℕ, ◌+◌, ◌<◌, ◌≤◌, false, List, [], ◌∷◌, ◌++◌, length, map, get_or, drop, sym, ◌∙◌, ap, arith, add-one, drop-cons, append_assoc, append-nil, length-append, Some, None}
use Rattle.std.proofs.lemmas.List.{drop_all}
use Rattle.gate_base.specs.declared.literal.Literal.{Literal}
use Rattle.gate_base.specs.declared.literal.Literal.TheVariants.{Known}
use Rattle.gate_base.specs.declared.node.Node.{Node}
use Rattle.gate_base.specs.declared.node.Node.TheVariants.{Input}
use Rattle.gate_base.proofs.Chains.{drop-literal}
use Rattle.gate_base.proofs.Counts.{refused-more}
use Rattle.unroller.specs.declared.free_bit.FreeBit.{FreeBit}
use Rattle.unroller.proofs.NodeSteps.{drop-node}
use Rattle.unroller.specs.Cycles.{Frame, translated, words_translated, free_bit, free_bits, and_then, node_unrolled, nodes_unrolled}

pub word-more : (now made xs : List Literal) (i : ℕ) → i < length xs
    → made ++ map (translated now) (drop i xs)
    ≡ (made ++ translated now (get_or xs i (Known false)) ∷ []) ++ map (translated now) (drop (i + 1) xs)
word-more now made xs i within =
    ap (λ ys. made ++ map (translated now) ys) (drop-literal xs i within)
    ∙ sym (append_assoc made (translated now (get_or xs i (Known false)) ∷ [])
    (map (translated now) (drop (i + 1) xs)))

pub word-end : (now made xs : List Literal) (i : ℕ) → length xs ≤ i → made ++ map (translated now) (drop i xs) ≡ made
word-end now made xs i end = ap (λ ys. made ++ map (translated now) ys) (drop_all i xs end) ∙ append-nil made

pub ruleset words = (word-more, word-end)

pub row-more : (now : List Literal) (made words : List (List Literal)) (i : ℕ) → i < length words
    → made ++ words_translated now (drop i words)
    ≡ (made ++ map (translated now) (get_or words i []) ∷ []) ++ words_translated now (drop (i + 1) words)
row-more now made words i within =
    ap (λ ys. made ++ words_translated now ys)
    (drop-cons words i [] within ∙ ap (λ n. get_or words i [] ∷ drop n words) (sym (add-one i)))
    ∙ sym (append_assoc made (map (translated now) (get_or words i []) ∷ [])
    (words_translated now (drop (i + 1) words)))

pub row-end : (now : List Literal) (made words : List (List Literal)) (i : ℕ) → length words ≤ i
    → made ++ words_translated now (drop i words) ≡ made
row-end now made words i end = ap (λ ys. made ++ words_translated now ys) (drop_all i words end) ∙ append-nil made

pub ruleset rows = (row-more, row-end)

-- one more bit
bit-left : (bits : List FreeBit) (nodes : List Node) (i : ℕ) → i < length nodes
    → bits ++ free_bits (drop i nodes) ≡ bits ++ and_then (free_bit (get_or nodes i (Input 0 0))) (free_bits (drop (i + 1) nodes))
bit-left bits nodes i within = ap (λ ns. bits ++ free_bits ns) (drop-node nodes i within)

pub bit-more : (bits : List FreeBit) (nodes : List Node) (i : ℕ) (bit : FreeBit) → i < length nodes
    → free_bit (get_or nodes i (Input 0 0)) ≡ Some bit
    → bits ++ free_bits (drop i nodes) ≡ (bits ++ bit ∷ []) ++ free_bits (drop (i + 1) nodes)
bit-more bits nodes i bit within is =
    bit-left bits nodes i within ∙ ap (λ o. bits ++ and_then o (free_bits (drop (i + 1) nodes))) is
    ∙ sym (append_assoc bits (bit ∷ []) (free_bits (drop (i + 1) nodes)))

pub bit-other : (bits : List FreeBit) (nodes : List Node) (i : ℕ) → i < length nodes
    → free_bit (get_or nodes i (Input 0 0)) ≡ None
    → bits ++ free_bits (drop i nodes) ≡ bits ++ free_bits (drop (i + 1) nodes)
bit-other bits nodes i within is =
    bit-left bits nodes i within ∙ ap (λ o. bits ++ and_then o (free_bits (drop (i + 1) nodes))) is

pub bit-end : (bits : List FreeBit) (nodes : List Node) (i : ℕ) → length nodes ≤ i → bits ++ free_bits (drop i nodes) ≡ bits
bit-end bits nodes i end = ap (λ ns. bits ++ free_bits ns) (drop_all i nodes end) ∙ append-nil bits

pub ruleset bits = (bit-more, bit-other, bit-end)

-- as many literals as nodes
pub length-nodes : (frame : Frame) (rest : List Node) (nodes : List Node) (now : List Literal)
    → length (nodes_unrolled frame nodes now rest).bits ≡ length now + length rest
unfolding nodes_unrolled
length-nodes frame [] nodes now = omega arith
length-nodes frame (node ∷ rest) nodes now =
    let m = node_unrolled frame nodes now node in
    omega (arith, length-nodes frame rest m.nodes (now ++ m.bit ∷ []), length-append now (m.bit ∷ []))

pub ruleset cycles = (refused-more)

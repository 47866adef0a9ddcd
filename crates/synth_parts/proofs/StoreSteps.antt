-- Steps of the loops over the parts of a left side.
use Rattle.std.proofs.Common.{◌≡◌, ℕ, suc, ◌+◌, ◌-◌, ◌<◌, ◌≤◌, Bool, List, [], ◌∷◌, ◌++◌, length, get_or, drop, refl, sym, ◌∙◌, ap, ap₂, subst, arith, drop-cons}
use Rattle.std.specs.Prelude.{nat_le, ℤ, ◌&&◌, IsTrue}
use Rattle.std.specs.List.{list_all}
use Rattle.std.proofs.lemmas.List.{drop_all}
use Rattle.std.proofs.lemmas.Bool.{and_parts, ltb-true, leb-true}
use Rattle.design_core.specs.declared.signal.Signal.{Signal}
use Rattle.design_core.specs.declared.statement.Part.{Part}
use Rattle.design_core.specs.declared.statement.Part.TheVariants as part
use Rattle.design_core.specs.declared.expression.Typed.{Typed}
use Rattle.design_core.specs.Valuation.{width_at}
use Rattle.synth_parts.specs.declared.array_parts.ArrayPart.{ArrayPart}
use Rattle.synth_parts.specs.declared.store.Stored.{Stored}
use Rattle.word_net.specs.declared.node.Operand.{Operand}
use Rattle.design_core.specs.Store.{part_width, parts_width}
use Rattle.design_core.specs.WellFormed.{is_signal, is_width, slice_fits, words_fit, typed_fits, part_fits}
use Rattle.word_net.specs.declared.node.WordNode.{WordNode}
use Rattle.word_net.specs.Build.{Made, made}
use Rattle.synth_parts.specs.Store.{Nodes, index_made, indexes_made, nodes_made, word_stored, words_stored, part_stored, parts_stored}

pub front : (parts : List Part) (i : ℕ) (part : Part) → i < length parts → part ≡ get_or parts i part → drop i parts ≡ part ∷ drop (i + 1) parts
front parts i part within is =
    let next : suc i ≡ i + 1 = omega arith in
    drop-cons parts i part within ∙ ap (λ (e : Part). e ∷ drop (suc i) parts) (sym is) ∙ ap (λ k. part ∷ drop k parts) next

pub indexes-next : (signals : List Signal) (nodes_of : List ℕ) (nodes after : List WordNode) (all : List ℕ) (n i : ℕ) (parts : List Part) (part : Part) → i < length parts → part ≡ get_or parts i part
    → made after n ≡ index_made signals nodes_of nodes part
    → indexes_made signals nodes_of nodes all (drop i parts) ≡ indexes_made signals nodes_of after (all ++ n ∷ []) (drop (i + 1) parts)
unfolding indexes_made
indexes-next signals nodes_of nodes after all n i parts part within is m =
    ap (indexes_made signals nodes_of nodes all) (front parts i part within is)
    ∙ ap (λ (m : Made). indexes_made signals nodes_of m.nodes (all ++ m.node ∷ []) (drop (i + 1) parts)) (sym m)

pub indexes-end : (signals : List Signal) (nodes_of : List ℕ) (nodes : List WordNode) (all : List ℕ) (i : ℕ) (parts : List Part) → length parts ≤ i
    → indexes_made signals nodes_of nodes all (drop i parts) ≡ nodes_made nodes all
unfolding indexes_made
indexes-end signals nodes_of nodes all i parts past = ap (indexes_made signals nodes_of nodes all) (drop_all i parts past)

pub fits-next : (signals : List Signal) (parts : List Part) (i : ℕ) (part : Part) → i < length parts → part ≡ get_or parts i part → IsTrue (list_all (part_fits signals) (drop i parts))
    → IsTrue (part_fits signals part) × IsTrue (list_all (part_fits signals) (drop (i + 1) parts))
fits-next signals parts i part within is h =
    and_parts (part_fits signals part) (list_all (part_fits signals) (drop (i + 1) parts)) (subst (λ ps. IsTrue (list_all (part_fits signals) ps)) (front parts i part within is) h)

pub ruleset indexes_steps = (indexes-next, indexes-end, fits-next)

-- ---- words of an array

pub words-next : (signals : List Signal) (array : ArrayPart) (stored : Stored) (nodes after : List WordNode) (nodes_of each : List ℕ) (place count : ℕ) → place < count
    → nodes_made after each ≡ word_stored signals array stored nodes nodes_of place
    → words_stored signals array stored nodes nodes_of place (count - place) ≡ words_stored signals array stored after each (place + 1) (count - (place + 1))
unfolding words_stored
words-next signals array stored nodes after nodes_of each place count low is =
    let left : count - place ≡ suc (count - (place + 1)) = omega (arith, low) in
    ap (words_stored signals array stored nodes nodes_of place) left
    ∙ ap (λ (m : Nodes). words_stored signals array stored m.nodes m.each (place + 1) (count - (place + 1))) (sym is)

pub words-end : (signals : List Signal) (array : ArrayPart) (stored : Stored) (nodes : List WordNode) (nodes_of : List ℕ) (place count : ℕ) → place ≡ count
    → words_stored signals array stored nodes nodes_of place (count - place) ≡ nodes_made nodes nodes_of
unfolding words_stored
words-end signals array stored nodes nodes_of place count end = let left : count - place ≡ 0 = omega (arith, end) in rw left refl

pub words-all : (signals : List Signal) (array : ArrayPart) (stored : Stored) (nodes : List WordNode) (nodes_of : List ℕ) (count : ℕ)
    → words_stored signals array stored nodes nodes_of 0 (count - 0) ≡ words_stored signals array stored nodes nodes_of 0 count
words-all signals array stored nodes nodes_of count = ap (words_stored signals array stored nodes nodes_of 0) (omega arith)

pub ruleset words_steps = (words-next, words-end, words-all)

-- ---- what fits in a part

pub whole-in : (signals : List Signal) (s : ℕ) → IsTrue (part_fits signals (part.Whole s)) → s < length signals
whole-in signals s fits = ltb-true s (length signals) fits

pub slice-in : (signals : List Signal) (s from width : ℕ) → IsTrue (part_fits signals (part.Slice s from width)) → s < length signals
slice-in signals s from width fits =
    ltb-true s (length signals) (and_parts (is_signal signals s) (is_width width) (and_parts (is_signal signals s && is_width width) (nat_le (from + width) (width_at signals s)) fits).0).0

pub pick-in : (signals : List Signal) (s : ℕ) (index : Typed) (offsets : List ℤ) → IsTrue (part_fits signals (part.Pick s index offsets)) → s < length signals
pick-in signals s index offsets fits =
    ltb-true s (length signals) (and_parts (is_signal signals s) (is_width (length offsets)) (and_parts (is_signal signals s && is_width (length offsets)) (typed_fits signals index) fits).0).0

pub word-in : (signals : List Signal) (first count : ℕ) (low : ℤ) (index : Typed) (from width : ℕ) → IsTrue (part_fits signals (part.Word first count low index from width)) → first + count ≤ length signals
word-in signals first count low index from width fits =
    let a : Bool = nat_le 1 count in
    let b : Bool = nat_le (first + count) (length signals) in
    let g = (and_parts (words_fit signals first count from width) (typed_fits signals index) fits).0 in
    let k = and_parts (a && b) (slice_fits signals first from width) (and_parts (a && b && slice_fits signals first from width) _ g).0 in
    leb-true (first + count) (length signals) (and_parts a b k.0).1

pub ruleset part_steps = (whole-in, slice-in, pick-in, word-in)

-- ---- widths

pub pick-width : (signals : List Signal) (s : ℕ) (index : Typed) (offsets : List ℤ) → IsTrue (part_fits signals (part.Pick s index offsets)) → length offsets ≤ 128
pick-width signals s index offsets fits =
    leb-true (length offsets) 128
    (and_parts (nat_le 1 (length offsets)) (nat_le (length offsets) 128) (and_parts (is_signal signals s) (is_width (length offsets)) (and_parts (is_signal signals s && is_width (length offsets)) (typed_fits signals index) fits).0).1).1

pub ruleset width_steps = (whole-in, pick-width)

pub sum-next : (signals : List Signal) (parts : List Part) (i : ℕ) (p : Part) → i < length parts → p ≡ get_or parts i p → parts_width signals (drop i parts) ≡ part_width signals p + parts_width signals (drop (i + 1) parts)
sum-next signals parts i p within is = ap (parts_width signals) (front parts i p within is)

pub sum-end : (signals : List Signal) (parts : List Part) (i : ℕ) → length parts ≤ i → parts_width signals (drop i parts) ≡ 0
sum-end signals parts i past = ap (parts_width signals) (drop_all i parts past)

pub ruleset sum_steps = (sum-next, sum-end, fits-next)

-- ---- all parts

pub parts-next : (signals : List Signal) (nodes after : List WordNode) (nodes_of each : List ℕ) (parts : List Part) (indexes : List ℕ) (word : Operand) (i : ℕ) (p : Part)
    → i < length parts → i < length indexes → p ≡ get_or parts i p
    → nodes_made after each ≡ part_stored signals nodes nodes_of p (get_or indexes i 0) (record { word = word; offset = parts_width signals (drop (i + 1) parts) })
    → parts_stored signals nodes nodes_of (drop i parts) (drop i indexes) word ≡ parts_stored signals after each (drop (i + 1) parts) (drop (i + 1) indexes) word
unfolding parts_stored
parts-next signals nodes after nodes_of each parts indexes word i p within inside is m =
    let next : suc i ≡ i + 1 = omega arith in
    let numbers : drop i indexes ≡ get_or indexes i 0 ∷ drop (i + 1) indexes = drop-cons indexes i 0 inside ∙ ap (λ k. get_or indexes i 0 ∷ drop k indexes) next in
    ap₂ (λ (ps : List Part) (ns : List ℕ). parts_stored signals nodes nodes_of ps ns word) (front parts i p within is) numbers
    ∙ ap (λ (q : Nodes). parts_stored signals q.nodes q.each (drop (i + 1) parts) (drop (i + 1) indexes) word) (sym m)

pub parts-end : (signals : List Signal) (nodes : List WordNode) (nodes_of : List ℕ) (parts : List Part) (indexes : List ℕ) (word : Operand) (i : ℕ) → length parts ≤ i
    → parts_stored signals nodes nodes_of (drop i parts) (drop i indexes) word ≡ nodes_made nodes nodes_of
unfolding parts_stored
parts-end signals nodes nodes_of parts indexes word i past = ap (λ (ps : List Part). parts_stored signals nodes nodes_of ps (drop i indexes) word) (drop_all i parts past)

pub ruleset parts_steps = (parts-next, parts-end, sum-next, sum-end, fits-next)

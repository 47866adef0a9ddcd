-- Steps of the loop over the parts of a concatenation.
use Rattle.std.proofs.Common.{◌≡◌, ℕ, suc, ◌+◌, ◌<◌, ◌≤◌, List, [], ◌∷◌, length, get_or, drop, sym, ◌∙◌, ap, subst, arith, drop-cons}
use Rattle.std.proofs.lemmas.List.{drop_all}
use Rattle.std.specs.Prelude.{IsTrue}
use Rattle.std.specs.List.{list_all}
use Rattle.std.proofs.lemmas.Bool.{and_parts}
use Rattle.design_core.specs.declared.signal.Signal.{Signal}
use Rattle.design_core.specs.declared.expression.Typed.{Typed}
use Rattle.design_core.specs.WellFormed.{typed_fits}
use Rattle.word_net.specs.declared.node.Operation.TheVariants as operation
use Rattle.word_net.specs.declared.node.WordNode.{WordNode}
use Rattle.word_net.specs.Build.{Made, made, pushed}
use Rattle.synth_parts.specs.Expression.{unsigned, typed_made}
use Rattle.synth_parts.specs.Lists.{part_joined, later_parts, all_parts, parts_sum}

-- the first part
pub parts-first : (signals : List Signal) (nodes_of : List ℕ) (nodes after : List WordNode) (word : ℕ) (parts : List Typed) (part : Typed) → 0 < length parts → part ≡ get_or parts 0 part
    → made after word ≡ typed_made signals nodes_of nodes part → all_parts signals nodes_of nodes parts ≡ later_parts signals nodes_of after word part.width (drop 1 parts)
unfolding all_parts
parts-first signals nodes_of nodes after word [] part some is p = absurd (omega (arith, some))
parts-first signals nodes_of nodes after word (first ∷ parts) part some is p =
    ap (λ (e : Typed). let m = typed_made signals nodes_of nodes e in later_parts signals nodes_of m.nodes m.node e.width parts) (sym is)
    ∙ ap (λ (m : Made). later_parts signals nodes_of m.nodes m.node part.width parts) (sym p)

-- a further part
pub parts-next : (signals : List Signal) (nodes_of : List ℕ) (nodes below after : List WordNode) (left width low n i : ℕ) (parts : List Typed) (part : Typed) → i < length parts → part ≡ get_or parts i part
    → made below low ≡ typed_made signals nodes_of nodes part → made after n ≡ pushed below (width + part.width) (operation.Join (unsigned left width) (unsigned low part.width))
    → later_parts signals nodes_of nodes left width (drop i parts) ≡ later_parts signals nodes_of after n (width + part.width) (drop (i + 1) parts)
unfolding later_parts part_joined
parts-next signals nodes_of nodes below after left width low n i parts part within is p j =
    let next : suc i ≡ i + 1 = omega arith in
    let rest : List Typed = drop (i + 1) parts in
    let front : drop i parts ≡ part ∷ rest = drop-cons parts i part within ∙ ap (λ (e : Typed). e ∷ drop (suc i) parts) (sym is) ∙ ap (λ k. part ∷ drop k parts) next in
    let joined : Made → Made = λ m. pushed m.nodes (width + part.width) (operation.Join (unsigned left width) (unsigned m.node part.width)) in
    ap (later_parts signals nodes_of nodes left width) front
    ∙ ap (λ (m : Made). later_parts signals nodes_of (joined m).nodes (joined m).node (width + part.width) rest) (sym p)
    ∙ ap (λ (m : Made). later_parts signals nodes_of m.nodes m.node (width + part.width) rest) (sym j)

-- no part is left
pub parts-end : (signals : List Signal) (nodes_of : List ℕ) (nodes : List WordNode) (left width i : ℕ) (parts : List Typed) → length parts ≤ i
    → later_parts signals nodes_of nodes left width (drop i parts) ≡ made nodes left
unfolding later_parts
parts-end signals nodes_of nodes left width i parts past = ap (later_parts signals nodes_of nodes left width) (drop_all i parts past)

-- widths and fits of what is left
pub sum-first : (parts : List Typed) (part : Typed) → 0 < length parts → part ≡ get_or parts 0 part → parts_sum parts ≡ part.width + parts_sum (drop 1 parts)
sum-first [] part some is = absurd (omega (arith, some))
sum-first (first ∷ parts) part some is = ap (λ (e : Typed). e.width + parts_sum parts) (sym is)

pub sum-next : (parts : List Typed) (i : ℕ) (part : Typed) → i < length parts → part ≡ get_or parts i part → parts_sum (drop i parts) ≡ part.width + parts_sum (drop (i + 1) parts)
sum-next parts i part within is =
    let next : suc i ≡ i + 1 = omega arith in
    ap parts_sum (drop-cons parts i part within) ∙ ap (λ (e : Typed). e.width + parts_sum (drop (suc i) parts)) (sym is) ∙ ap (λ k. part.width + parts_sum (drop k parts)) next

pub fits-first : (signals : List Signal) (parts : List Typed) (part : Typed) → 0 < length parts → part ≡ get_or parts 0 part → IsTrue (list_all (typed_fits signals) parts)
    → IsTrue (typed_fits signals part) × IsTrue (list_all (typed_fits signals) (drop 1 parts))
fits-first signals [] part some is h = absurd (omega (arith, some))
fits-first signals (first ∷ parts) part some is h =
    let f = and_parts (typed_fits signals first) (list_all (typed_fits signals) parts) h in (subst (λ (e : Typed). IsTrue (typed_fits signals e)) (sym is) f.0, f.1)

pub fits-next : (signals : List Signal) (parts : List Typed) (i : ℕ) (part : Typed) → i < length parts → part ≡ get_or parts i part → IsTrue (list_all (typed_fits signals) (drop i parts))
    → IsTrue (typed_fits signals part) × IsTrue (list_all (typed_fits signals) (drop (i + 1) parts))
fits-next signals parts i part within is h =
    let next : suc i ≡ i + 1 = omega arith in
    let front : drop i parts ≡ part ∷ drop (i + 1) parts = drop-cons parts i part within ∙ ap (λ (e : Typed). e ∷ drop (suc i) parts) (sym is) ∙ ap (λ k. part ∷ drop k parts) next in
    and_parts (typed_fits signals part) (list_all (typed_fits signals) (drop (i + 1) parts)) (subst (λ ps. IsTrue (list_all (typed_fits signals) ps)) front h)

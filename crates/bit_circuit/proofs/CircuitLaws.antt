-- What the literals of a whole net mean.
use Rattle.std.proofs.Common.{◌≡◌, ℕ, zero, suc, ◌≤◌, List, [], ◌∷◌, ◌++◌, length, get_or, Some, refl, sym, ◌∙◌, ap, subst, arith, ◌⊎◌, inl, inr, length-append, append_assoc, append-nil}
use Rattle.std.specs.Prelude.{IsTrue, slice_get}
use Rattle.std.proofs.lemmas.Grind.{common_steps}
use Rattle.std.proofs.lemmas.Option.{slice_get_within}
use Rattle.std.proofs.lemmas.List.{get_or_append_left}
use Rattle.std.proofs.Math.Seq.{get_or-append_seam}
use Rattle.loc_base.proofs.ShelfOptions.{Some-same}
use Rattle.gate_base.specs.declared.literal.Literal.{Literal}
use Rattle.gate_base.specs.declared.node.Node.{Node}
use Rattle.gate_base.specs.Nodes.{Word, AreOrdered}
use Rattle.gate_base.specs.Meaning.{Source, Grown}
use Rattle.gate_base.proofs.Meaning.{grown-none, grown-then}
use Rattle.design_core.specs.WellFormed.{is_width}
use Rattle.word_net.specs.declared.node.WordNode.{WordNode}
use Rattle.word_net.specs.Values.{Source as WordSource, values, word_value, net_values}
use Rattle.word_net.specs.Fits.{AllFit, widths_of}
use Rattle.word_net.specs.Nets.{IsNet}
use Rattle.bit_circuit.specs.Nodes.{literals_made}
use Rattle.bit_circuit.specs.Circuits.{Expanded, expanded, words_at, circuit_of}
use Rattle.bit_circuit.specs.Meaning.{bits_of, AreOfWidth, IsOf, GivesOf, AreOf, GivenNet, MeanNodes}
use Rattle.bit_circuit.proofs.PickLaws.{keep-of}
use Rattle.bit_circuit.proofs.OperationLaws.{operation-means}

-- an entry is one of those before, or the last
last-or : (xs : List ℕ) (x i y : ℕ) → slice_get (xs ++ x ∷ []) i ≡ Some y → (slice_get xs i ≡ Some y) ⊎ ((i ≡ length xs) × (x ≡ y))
last-or [] x zero y is = inr (refl, Some-same is)
last-or [] x (suc i) y is = absurd (omega (arith, slice_get_within (x ∷ []) (suc i) y is))
last-or (z ∷ xs) x zero y is = inl is
last-or (z ∷ xs) x (suc i) y is = elim (last-or xs x i y is) [ inl p ↦ inl p | inr p ↦ inr (ap suc p.0, p.1) ]

pub push-are : {e : Source} {nodes : List Node} {words : List (List Literal)} {widths known : List ℕ} {w : Word} (width v : ℕ)
    → AreOf e nodes words widths known → 1 ≤ width → GivesOf e nodes w width v
    → AreOf e w.nodes (words ++ w.bits ∷ []) (widths ++ width ∷ []) (known ++ v ∷ [])
push-are {e} {nodes} {words} {widths} {known} {w} width v are some g = record {
  as_many = omega (arith, length-append words (w.bits ∷ []), length-append widths (width ∷ []), are.as_many);
  as_known = omega (arith, length-append known (v ∷ []), length-append widths (width ∷ []), are.as_known);
  some = λ i n there. elim (last-or widths width i n there) [
    | inl before ↦ are.some i n before
    | inr last ↦ subst (λ k. 1 ≤ k) last.1 some
  ];
  is = λ i n there. elim (last-or widths width i n there) [
    | inl before ↦ old i n before
    | inr last ↦ new i n last.0 last.1
  ];
}
  where
    old : (i n : ℕ) → slice_get widths i ≡ Some n → IsOf e w.nodes (get_or (words ++ w.bits ∷ []) i []) n (get_or (known ++ v ∷ []) i 0)
    old i n before =
        let low = slice_get_within widths i n before in
        rw (get_or_append_left words (w.bits ∷ []) [] i (omega (arith, low, are.as_many)))
        (rw (get_or_append_left known (v ∷ []) 0 i (omega (arith, low, are.as_known))) (keep-of g.grown (are.is i n before)))

    new : (i n : ℕ) → i ≡ length widths → width ≡ n → IsOf e w.nodes (get_or (words ++ w.bits ∷ []) i []) n (get_or (known ++ v ∷ []) i 0)
    new i n at same =
        rw (ap (λ k. get_or (words ++ w.bits ∷ []) k []) (at ∙ sym are.as_many) ∙ get_or-append_seam words w.bits [] [])
        (rw (ap (λ k. get_or (known ++ v ∷ []) k 0) (at ∙ sym are.as_known) ∙ get_or-append_seam known v [] 0)
        (subst (λ k. IsOf e w.nodes w.bits k v) same g.is))

pub some-width : (w : ℕ) → IsTrue (is_width w) → 1 ≤ w
some-width w is = grind (arith, common_steps)

-- the nodes grow, and each node's literals mean its value
pub record ExpandedMeans (e : Source) (nodes : List Node) (x : Expanded) (widths known : List ℕ) : Type 0 where
  pub grown : Grown nodes x.nodes
  pub are : AreOf e x.nodes x.words widths known

pub expanded-means : (rest : List WordNode) (e : WordSource) {nodes : List Node} {words : List (List Literal)} {widths known : List ℕ}
    → AreOf (bits_of e) nodes words widths known → AllFit widths rest → AreOfWidth e rest
    → ExpandedMeans (bits_of e) nodes (expanded nodes words rest) (widths ++ widths_of rest) (values e known rest)
unfolding expanded values word_value
expanded-means [] e {nodes} {words} {widths} {known} are fits given =
    record { grown = grown-none nodes; are = subst (λ ws. AreOf (bits_of e) nodes words ws known) (sym (append-nil widths)) are }
expanded-means (node ∷ rest) e {nodes} {words} {widths} {known} are fits given =
    let g = operation-means e are node.width node.operation fits.0.operation given.0 in
    let m = literals_made nodes words node in
    let v = word_value e known node in
    let pushed = push-are node.width v are (some-width node.width fits.0.width) g in
    let r = expanded-means rest e pushed fits.1 given.1 in
    record {
      grown = grown-then g.grown r.grown;
      are = subst (λ ws. AreOf (bits_of e) (expanded m.nodes (words ++ m.bits ∷ []) rest).nodes (expanded m.nodes (words ++ m.bits ∷ []) rest).words ws (values e (known ++ v ∷ []) rest))
          (append_assoc widths (node.width ∷ []) (widths_of rest)) r.are;
    }

pub net-means : (of : GivenNet) → IsNet of.net → AreOfWidth of.source of.net.nodes
    → ExpandedMeans (bits_of of.source) [] (expanded [] [] of.net.nodes) (widths_of of.net.nodes) (net_values of.source of.net.nodes)
net-means of net given = expanded-means of.net.nodes of.source none_are net.nodes given
  where
    none_are : AreOf (bits_of of.source) [] [] [] []
    none_are = record {
      as_many = refl;
      as_known = refl;
      some = λ i width there. absurd (omega (arith, slice_get_within [] i width there));
      is = λ i width there. absurd (omega (arith, slice_get_within [] i width there));
    }

pub circuit-ordered : (of : GivenNet) → IsNet of.net → AreOfWidth of.source of.net.nodes → AreOrdered (circuit_of of.net).nodes
unfolding circuit_of
circuit-ordered of net given = (net-means of net given).grown.ordered tt

picked_word : (words : List (List Literal)) (numbers : List ℕ) (i n : ℕ) → slice_get numbers i ≡ Some n → get_or (words_at words numbers) i [] ≡ get_or words n []
picked_word words [] i n is = absurd (omega (arith, slice_get_within [] i n is))
picked_word words (m ∷ numbers) zero n is = ap (λ k. get_or words k []) (Some-same is)
picked_word words (m ∷ numbers) (suc i) n is = picked_word words numbers i n is

words-mean : (of : GivenNet) → IsNet of.net → AreOfWidth of.source of.net.nodes → (numbers : List ℕ) → MeanNodes of numbers (words_at (expanded [] [] of.net.nodes).words numbers)
unfolding circuit_of
words-mean of net given numbers i n width is wide =
    rw (picked_word (expanded [] [] of.net.nodes).words numbers i n is) ((net-means of net given).are.is n width wide)

pub outputs-mean : (of : GivenNet) → IsNet of.net → AreOfWidth of.source of.net.nodes → MeanNodes of of.net.outputs (circuit_of of.net).outputs
unfolding circuit_of
outputs-mean of net given = words-mean of net given of.net.outputs

pub next-mean : (of : GivenNet) → IsNet of.net → AreOfWidth of.source of.net.nodes → MeanNodes of of.net.next (circuit_of of.net).next
unfolding circuit_of
next-mean of net given = words-mean of net given of.net.next

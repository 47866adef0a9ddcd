-- Each bit of a free node of a net is a free node of the net's circuit.
use Rattle.std.proofs.Common.{◌≡◌, ◌⊎◌, inl, inr, ℕ, zero, suc, ◌+◌, ◌≤◌, ◌<◌, List, [], ◌∷◌, ◌++◌, length, take, Some, refl, sym, ◌∙◌, ap, subst, arith}
use Rattle.std.specs.Prelude.{slice_get}
use Rattle.std.proofs.lemmas.Bool.{cases_eq}
use Rattle.std.proofs.lemmas.List.{length-take-le}
use Rattle.std.proofs.lemmas.Option.{slice_get_within}
use Rattle.loc_base.proofs.ShelfOptions.{Some-same}
use Rattle.gate_base.specs.declared.literal.Literal.{Literal}
use Rattle.gate_base.specs.declared.node.Node.{Node}
use Rattle.gate_base.specs.declared.node.Node.TheVariants as gate
use Rattle.gate_base.specs.Meaning.{Grown}
use Rattle.word_net.specs.declared.node.Operand.{Operand}
use Rattle.word_net.specs.declared.node.Operation.{Operation}
use Rattle.word_net.specs.declared.node.Operation.TheVariants.{Free}
use Rattle.word_net.specs.declared.node.WordNode.{WordNode}
use Rattle.word_net.specs.Fits.{AllFit, OperationFits}
use Rattle.word_net.specs.Nets.{IsNet, Net}
use Rattle.word_net.specs.Values.{Source as WordSource, word_value}
use Rattle.bit_circuit.specs.Circuits.{expanded, circuit_of}
use Rattle.bit_circuit.specs.Meaning.{AreOf, AreOfWidth, bits_of}
use Rattle.bit_circuit.specs.Nodes.{bits_at, operation_made}
use Rattle.bit_circuit.proofs.Added.{free_nodes, operation-adds}
use Rattle.bit_circuit.proofs.CircuitLaws.{expanded-means, push-are, some-width}
use Rattle.bit_circuit.proofs.ExpandSteps.{nothing, nothing-given}
use Rattle.bit_circuit.proofs.OperationLaws.{operation-means}

-- an entry of the first of two lists, and one of the second
entry-before : {X : Type 0} (xs ys : List X) (i : ℕ) (x : X) → slice_get xs i ≡ Some x → slice_get (xs ++ ys) i ≡ Some x
entry-before [] ys i x there = absurd (omega (arith, slice_get_within [] i x there))
entry-before (y ∷ xs) ys zero x there = there
entry-before (y ∷ xs) ys (suc i) x there = entry-before xs ys i x there

entry-behind : {X : Type 0} (xs ys : List X) (i : ℕ) (x : X) → slice_get ys i ≡ Some x → slice_get (xs ++ ys) (length xs + i) ≡ Some x
entry-behind [] ys i x there = let same : 0 + i ≡ i = omega arith in ap (slice_get ys) same ∙ there
entry-behind (y ∷ xs) ys i x there =
    let same : suc (length xs) + i ≡ suc (length xs + i) = omega arith in ap (slice_get (y ∷ xs ++ ys)) same ∙ entry-behind xs ys i x there

-- a node is a bit of a place
pub record FreeAt (nodes : List Node) (p b : ℕ) : Type 0 where
  pub at : ℕ
  pub computed : Literal
  pub there : slice_get nodes at ≡ Some (gate.Free 0 p b computed)

free-grown : {before after : List Node} {p b : ℕ} → Grown before after → FreeAt before p b → FreeAt after p b
free-grown {before} {after} {p} {b} grown f = record {
  at = f.at;
  computed = f.computed;
  there = ap (λ ns. slice_get ns f.at) grown.is ∙ entry-before before grown.more f.at (gate.Free 0 p b f.computed) f.there;
}

-- among the nodes that are added for a place
free-among : (xs : List Literal) (p from b : ℕ) → from ≤ b → b < from + length xs → FreeAt (free_nodes p from xs) p b
free-among [] p from b low high = absurd (omega (arith, low, high))
free-among (x ∷ xs) p from b low high =
    at (cases_eq from b) (λ apart. free-among xs p (from + 1) b (omega (arith, low, apart)) (omega (arith, high)))
  where
    at : (from ≡ b) ⊎ (from ≡ b → ⊥) → ((from ≡ b → ⊥) → FreeAt (free_nodes p (from + 1) xs) p b) → FreeAt (free_nodes p from (x ∷ xs)) p b
    at (inl same) rest = record { at = 0; computed = x; there = ap (λ k. Some (gate.Free 0 p k x)) same }
    at (inr apart) rest = let f = rest apart in record { at = suc f.at; computed = f.computed; there = f.there }

-- those of a free node, where the operand has a width
free-made : (nodes : List Node) (words : List (List Literal)) (width long p b : ℕ) (computed : Operand)
    → length (bits_at words computed) ≡ long → width ≤ long → b < width
    → FreeAt (operation_made nodes words width (Free p computed)).nodes p b
free-made nodes words width long p b computed is within low =
    let xs : List Literal = take width (bits_at words computed) in
    let many : length xs ≡ width = length-take-le width (bits_at words computed) (omega (arith, is, within)) in
    let f = free-among xs p 0 b (omega arith) (omega (arith, low, many)) in
    record {
      at = length nodes + f.at;
      computed = f.computed;
      there = ap (λ ns. slice_get ns (length nodes + f.at)) (operation-adds nodes words width (Free p computed))
          ∙ entry-behind nodes (free_nodes p 0 xs) f.at (gate.Free 0 p b f.computed) f.there;
    }

free-of_node : (e : WordSource) {nodes : List Node} {words : List (List Literal)} {widths known : List ℕ} (width p b : ℕ)
    (operation : Operation) (computed : Operand)
    → AreOf (bits_of e) nodes words widths known → OperationFits widths width operation → operation ≡ Free p computed → b < width
    → FreeAt (operation_made nodes words width operation).nodes p b
free-of_node e {nodes} {words} {widths} width p b operation computed are fits is low =
    let own : OperationFits widths width (Free p computed) = subst (OperationFits widths width) is fits in
    subst (λ op. FreeAt (operation_made nodes words width op).nodes p b) (sym is)
    (free-made nodes words width computed.width p b computed (are.is computed.node computed.width own.0).wide own.1 low)

free-in : (rest : List WordNode) (e : WordSource) {nodes : List Node} {words : List (List Literal)} {widths known : List ℕ}
    → AreOf (bits_of e) nodes words widths known → AllFit widths rest → AreOfWidth e rest
    → (i : ℕ) (node : WordNode) (p b : ℕ) (computed : Operand) → slice_get rest i ≡ Some node → node.operation ≡ Free p computed
    → b < node.width
    → FreeAt (expanded nodes words rest).nodes p b
unfolding expanded word_value
free-in [] e are fits given i node p b computed there is low = absurd (omega (arith, slice_get_within [] i node there))
free-in (first ∷ rest) e {nodes} {words} {widths} {known} are fits given zero node p b computed there is low =
    let same : first ≡ node = Some-same there in
    let g = operation-means e are first.width first.operation fits.0.operation given.0 in
    let pushed = push-are first.width (word_value e known first) are (some-width first.width fits.0.width) g in
    let later = expanded-means rest e pushed fits.1 given.1 in
    free-grown later.grown
    (free-of_node e first.width p b first.operation computed are fits.0.operation (ap (λ (n : WordNode). n.operation) same ∙ is)
    (subst (λ (n : WordNode). b < n.width) (sym same) low))
free-in (first ∷ rest) e {nodes} {words} {widths} {known} are fits given (suc i) node p b computed there is low =
    let g = operation-means e are first.width first.operation fits.0.operation given.0 in
    let pushed = push-are first.width (word_value e known first) are (some-width first.width fits.0.width) g in
    free-in rest e pushed fits.1 given.1 i node p b computed there is low

-- in the circuit of a net
pub free-there : (net : Net) → IsNet net → (i : ℕ) (node : WordNode) (p b : ℕ) (computed : Operand) → slice_get net.nodes i ≡ Some node
    → node.operation ≡ Free p computed → b < node.width
    → FreeAt (circuit_of net).nodes p b
unfolding circuit_of
free-there net is i node p b computed there free low =
    free-in net.nodes nothing none_are is.nodes (nothing-given net.nodes) i node p b computed there free low
  where
    none_are : AreOf (bits_of nothing) [] [] [] []
    none_are = record {
      as_many = refl;
      as_known = refl;
      some = λ k width at. absurd (omega (arith, slice_get_within [] k width at));
      is = λ k width at. absurd (omega (arith, slice_get_within [] k width at));
    }

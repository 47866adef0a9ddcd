-- A problem has one form: the net of its design is one, and all else is made of it.
use Rattle.std.proofs.Common.{◌≡◌, ℕ, ◌^◌, ◌<◌, ◌≤◌, List, [], ◌∷◌, map, refl, sym, ap, ap₂, ◌∙◌}
use Rattle.std.proofs.Props.{props}
use mathlib.Core.HLevel.{is_prop→PathP}
use Rattle.loc_base.specs.declared.bits.Bits.{Bits}
use Rattle.loc_base.specs.Bits.{value_of, width_of}
use Rattle.design_core.specs.declared.design.Design.{Design}
use Rattle.clause_base.specs.declared.literal.Lit.{Lit}
use Rattle.word_net.specs.Nets.{Net}
use Rattle.bit_circuit.specs.Circuits.{BitNet, circuit_of}
use Rattle.v_synth.specs.Matches.{IsNetOf}
use Rattle.unroller.specs.Unrolls.{variables_of}
use Rattle.debug_core.specs.Problems.{IsCircuitFor, IsFormFor, Problem, clauses_for, unrolling_for}

-- words of one width and one value are the same
word-same : (one other : Bits) → width_of one ≡ width_of other → value_of one ≡ value_of other → one ≡ other
word-same one other width value =
    λ i. record {
      width = width i;
      value = value i;
      at_least_one = is_prop→PathP (λ j. 1 ≤ width j) (λ j. hlevel props) one.at_least_one other.at_least_one i;
      at_most_128 = is_prop→PathP (λ j. width j ≤ 128) (λ j. hlevel props) one.at_most_128 other.at_most_128 i;
      in_range = is_prop→PathP (λ j. value j < 2 ^ width j) (λ j. hlevel props) one.in_range other.in_range i;
    }

words-same : (one other : List Bits) → map width_of one ≡ map width_of other → map value_of one ≡ map value_of other → one ≡ other
words-same [] [] widths values = refl
words-same [] (y ∷ ys) widths values = cc
words-same (x ∷ xs) [] widths values = cc
words-same (x ∷ xs) (y ∷ ys) widths values =
    ap₂ (λ (word : Bits) (words : List Bits). word ∷ words) (word-same x y (first widths) (first values)) (words-same xs ys (behind widths) (behind values))
  where
    first : {a b : ℕ} {xs ys : List ℕ} → a ∷ xs ≡ b ∷ ys → a ≡ b
    first e = cc

    behind : {a b : ℕ} {xs ys : List ℕ} → a ∷ xs ≡ b ∷ ys → xs ≡ ys
    behind e = cc

net-same : (d : Design) (order : List ℕ) (one other : Net) → IsNetOf d order one → IsNetOf d order other → one ≡ other
net-same d order one other a b =
    let nodes : one.nodes ≡ other.nodes = a.nodes ∙ sym b.nodes in
    let outputs : one.outputs ≡ other.outputs = a.outputs ∙ sym b.outputs in
    let next : one.next ≡ other.next = a.next ∙ sym b.next in
    let start : one.start ≡ other.start = words-same one.start other.start (a.widths ∙ sym b.widths) (a.start ∙ sym b.start) in
    λ i. record { nodes = nodes i; outputs = outputs i; next = next i; start = start i }

circuit-same : (p : Problem) (one other : BitNet) → IsCircuitFor p one → IsCircuitFor p other → one ≡ other
circuit-same p one other a b = a.is ∙ ap circuit_of (net-same p.design p.order a.net b.net a.of_design b.of_design) ∙ sym b.is

module _ (p : Problem) (vars other_vars : ℕ) (form other : List (List Lit)) (one : IsFormFor p vars form) (two : IsFormFor p other_vars other) where
  same : one.circuit ≡ two.circuit
  same = circuit-same p one.circuit two.circuit one.of_design two.of_design

  pub vars-same : vars ≡ other_vars
  vars-same = one.vars_are ∙ ap (λ (c : BitNet). variables_of (unrolling_for p c)) same ∙ sym two.vars_are

  pub form-same : form ≡ other
  form-same = one.clauses_are ∙ ap (clauses_for p) same ∙ sym two.clauses_are

-- Each bit of a place stands in one column of a form; so an assignment of the form tells which bits were chosen.
use Rattle.std.proofs.Common.{◌≡◌, ◌⊎◌, inl, inr, ℕ, zero, suc, ◌+◌, ◌==◌, Bool, true, false, if◌then◌else◌, List, [], ◌∷◌, length, take, get_or, Some, refl, sym, ◌∙◌, ap, ap₂}
use Rattle.std.specs.Prelude.{slice_get}
use Rattle.std.proofs.lemmas.Bool.{cases_Bool, and_from, and_parts, eq-eqb}
use Rattle.loc_base.proofs.ShelfOptions.{Some-same}
use Rattle.loc_base.proofs.ShelfBools.{equal-true}
use Rattle.gate_base.specs.declared.literal.Literal.{Literal}
use Rattle.gate_base.specs.declared.literal.Literal.TheVariants.{Known}
use Rattle.gate_base.specs.declared.node.Node.{Node}
use Rattle.gate_base.specs.declared.node.Node.TheVariants.{Input, State, And, Free}
use Rattle.bit_circuit.specs.Circuits.{BitNet, IsCircuit}
use Rattle.unroller.specs.declared.free_bit.FreeBit.{FreeBit}
use Rattle.unroller.specs.Cycles.{free_bits}
use Rattle.unroller.specs.Unrolls.{Unrolling}
use Rattle.form_laws.specs.Models.{literal_in, is_bit, column_of, HasOneColumnEach}
use Rattle.form_laws.proofs.Frees.{Owned}

abbrev pub free : ℕ → ℕ → FreeBit
free place bit = record { place = place; bit = bit }

-- the node of a free bit, and as many free bits stand before it as before the bit
pub record NodeOf (nodes : List Node) (column place bit : ℕ) : Type 0 where
  pub at : ℕ
  pub moment : ℕ
  pub computed : Literal
  pub there : slice_get nodes at ≡ Some (Free moment place bit computed)
  pub count : column ≡ length (free_bits (take at nodes))

behind : (node : Node) (nodes : List Node) (column place bit : ℕ) → free_bits (node ∷ nodes) ≡ free_bits nodes
    → ((ns : List Node) → free_bits (node ∷ ns) ≡ free_bits ns)
    → NodeOf nodes column place bit → NodeOf (node ∷ nodes) column place bit
behind node nodes column place bit same each of = record {
  at = suc of.at;
  moment = of.moment;
  computed = of.computed;
  there = of.there;
  count = of.count ∙ ap length (sym (each (take of.at nodes)));
}

pub node-of : (nodes : List Node) (column place bit : ℕ) → slice_get (free_bits nodes) column ≡ Some (free place bit)
    → NodeOf nodes column place bit
node-of [] column place bit there = cc
node-of (Input input b ∷ nodes) column place bit there =
    behind (Input input b) nodes column place bit refl (λ ns. refl) (node-of nodes column place bit there)
node-of (State state b ∷ nodes) column place bit there =
    behind (State state b) nodes column place bit refl (λ ns. refl) (node-of nodes column place bit there)
node-of (And left right ∷ nodes) column place bit there =
    behind (And left right) nodes column place bit refl (λ ns. refl) (node-of nodes column place bit there)
node-of (Free moment p b computed ∷ nodes) zero place bit there = record {
  at = 0;
  moment = moment;
  computed = computed;
  there = ap (λ (x : FreeBit). Some (Free moment x.place x.bit computed)) (Some-same there);
  count = refl;
}
node-of (Free moment p b computed ∷ nodes) (suc column) place bit there =
    let of = node-of nodes column place bit there in
    record { at = suc of.at; moment = of.moment; computed = of.computed; there = of.there; count = ap suc of.count }

-- in a circuit a bit of a place has one column at most
pub one-column : (circuit : BitNet) → IsCircuit circuit → (one other place bit : ℕ)
    → slice_get (free_bits circuit.nodes) one ≡ Some (free place bit)
    → slice_get (free_bits circuit.nodes) other ≡ Some (free place bit) → one ≡ other
one-column circuit kept one other place bit in_one in_other =
    let a = node-of circuit.nodes one place bit in_one in
    let b = node-of circuit.nodes other place bit in_other in
    let same : a.at ≡ b.at = kept.frees a.at b.at a.moment b.moment place bit a.computed b.computed a.there b.there in
    a.count ∙ ap (λ n. length (free_bits (take n circuit.nodes))) same ∙ sym b.count

-- ---- the first column of a bit

bit-same : (x : FreeBit) (place bit : ℕ) → is_bit place bit x ≡ true → x ≡ free place bit
bit-same x place bit is =
    let (one, two) = and_parts (x.place == place) (x.bit == bit) is in
    ap₂ free (equal-true x.place place one) (equal-true x.bit bit two)

bit-is : (place bit : ℕ) → is_bit place bit (free place bit) ≡ true
bit-is place bit = and_from (place == place) (bit == bit) (eq-eqb place place refl) (eq-eqb bit bit refl)

true-false : true ≡ false → ⊥
true-false is = cc

column-at : (x : FreeBit) (bits : List FreeBit) (place bit : ℕ)
    → ((column : ℕ) → slice_get bits column ≡ Some (free place bit) → slice_get bits (column_of bits place bit) ≡ Some (free place bit))
    → (is_bit place bit x ≡ true) ⊎ (is_bit place bit x ≡ false) → (column : ℕ) → slice_get (x ∷ bits) column ≡ Some (free place bit)
    → slice_get (x ∷ bits) (if is_bit place bit x then 0 else suc (column_of bits place bit)) ≡ Some (free place bit)
column-at x bits place bit behind_x (inl is) column there =
    ap (λ b. slice_get (x ∷ bits) (if b then 0 else suc (column_of bits place bit))) is ∙ ap Some (bit-same x place bit is)
column-at x bits place bit behind_x (inr other) zero there =
    absurd (true-false (sym (bit-is place bit) ∙ ap (is_bit place bit) (sym (Some-same there)) ∙ other))
column-at x bits place bit behind_x (inr other) (suc column) there =
    ap (λ b. slice_get (x ∷ bits) (if b then 0 else suc (column_of bits place bit))) other ∙ behind_x column there

pub column-there : (bits : List FreeBit) (column place bit : ℕ) → slice_get bits column ≡ Some (free place bit)
    → slice_get bits (column_of bits place bit) ≡ Some (free place bit)
column-there [] column place bit there = cc
column-there (x ∷ bits) column place bit there =
    column-at x bits place bit (λ c at. column-there bits c place bit at) (cases_Bool (is_bit place bit x)) column there

-- ---- what an assignment chooses

-- the bit that the assignment gives to the literal that is kept for the bit of a place in a cycle
abbrev pub model_chosen : (ℕ → Bool) → Unrolling → ℕ → ℕ → ℕ → Bool
model_chosen a u moment place bit =
    literal_in a u.base (get_or (get_or u.frees moment []) (column_of u.bits place bit) (Known false))

module _ (a : ℕ → Bool) (circuit : BitNet) (kept : IsCircuit circuit) (u : Unrolling) (bits : u.bits ≡ free_bits circuit.nodes) where
  pub one-column-each : HasOneColumnEach u
  one-column-each one other place bit in_one in_other =
      one-column circuit kept one other place bit (ap (λ bs. slice_get bs one) (sym bits) ∙ in_one)
      (ap (λ bs. slice_get bs other) (sym bits) ∙ in_other)

  first-column : (column place bit : ℕ) → slice_get u.bits column ≡ Some (free place bit) → column_of u.bits place bit ≡ column
  first-column column place bit there =
      one-column-each (column_of u.bits place bit) column place bit (column-there u.bits column place bit there) there

  -- it is that of any column of the bit
  pub chosen-at : (moment column place bit : ℕ) → slice_get u.bits column ≡ Some (free place bit)
      → model_chosen a u moment place bit ≡ literal_in a u.base (get_or (get_or u.frees moment []) column (Known false))
  chosen-at moment column place bit there =
      ap (λ c. literal_in a u.base (get_or (get_or u.frees moment []) c (Known false))) (first-column column place bit there)

  -- and the value of the definition
  pub chosen-own : Owned u → (i moment place bit : ℕ) (computed : Literal)
      → slice_get u.definitions i ≡ Some (Free moment place bit computed) → model_chosen a u moment place bit ≡ a (u.base + i)
  chosen-own owned i moment place bit computed there =
      let (within, own) = owned.own i moment place bit computed there in
      chosen-at moment own.column place bit own.of_bit ∙ ap (literal_in a u.base) own.is

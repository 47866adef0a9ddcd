-- Whether what the nodes of a net read is given.
use Rattle.std.proofs.Common.{◌≡◌, ℕ, ◌+◌, ◌<◌, ◌≤◌, Bool, true, false, List, length, get_or, Some, None, refl, sym, ◌∙◌, ap, subst, arith, ◌⊎◌, inl, inr}
use Rattle.std.specs.Prelude.{◌↔◌, IsTrue, slice_get, option_map}
use Rattle.std.proofs.lemmas.Bool.{cases_lt}
use Rattle.std.proofs.lemmas.Option.{slice_get_within, slice_get-map}
use Rattle.loc_base.specs.declared.bits.Bits.{Bits}
use Rattle.loc_base.specs.Bits.{width_of}
use Rattle.loc_base.proofs.ShelfLists.{slice_get-at}
use Rattle.loc_base.proofs.ShelfOptions.{Some-same}
use Rattle.word_net.specs.declared.node.WordNode.{WordNode}
use Rattle.word_net.specs.Given.{Given, HasWord, IsGiven, AreGiven}

-- ---- a word

pub word-there : (words : List Bits) (i width : ℕ) (x : Bits) → slice_get words i ≡ Some x → width_of x ≡ width → HasWord words i width
word-there words i width x at is = slice_get-map width_of words i ∙ ap (option_map width_of) at ∙ ap Some is

pub word-width : (words : List Bits) (i width : ℕ) (x : Bits) → slice_get words i ≡ Some x → HasWord words i width → width_of x ≡ width
word-width words i width x at has = Some-same (ap (option_map width_of) (sym at) ∙ sym (slice_get-map width_of words i) ∙ has)

pub word-lacking : (words : List Bits) (i width : ℕ) → slice_get words i ≡ None → HasWord words i width → ⊥
word-lacking words i width at has =
    let none : Some width ≡ None = sym has ∙ slice_get-map width_of words i ∙ ap (option_map width_of) at in cc

pub ruleset word_steps = (word-there, word-width, word-lacking)

-- ---- the nodes of a net

-- the nodes before one are given
pub record GivenBelow (g : Given) (nodes : List WordNode) (i : ℕ) : Type 0 where
  pub each : (k : ℕ) (node : WordNode) → k < i → slice_get nodes k ≡ Some node → IsGiven g node.width node.operation

pub given-none : (g : Given) (nodes : List WordNode) → GivenBelow g nodes 0
given-none g nodes = record { each = λ k node low at. absurd (omega (arith, low)) }

pub given-next : (g : Given) (nodes : List WordNode) (i : ℕ) (one : WordNode) (answer : Bool) → i < length nodes → one ≡ get_or nodes i one → answer ≡ true
    → IsTrue answer ↔ IsGiven g one.width one.operation → GivenBelow g nodes i → GivenBelow g nodes (i + 1)
given-next g nodes i one answer within is holds tells below = record { each = λ k node low at. cases k node low at (cases_lt k i) }
  where
    cases : (k : ℕ) (node : WordNode) → k < i + 1 → slice_get nodes k ≡ Some node → (k < i) ⊎ (i ≤ k) → IsGiven g node.width node.operation
    cases k node low at (inl lower) = below.each k node lower at
    cases k node low at (inr high) =
        let here : k ≡ i = omega (arith, low, high) in
        let same : one ≡ node = Some-same (sym (slice_get-at nodes i one within is) ∙ ap (slice_get nodes) (sym here) ∙ at) in
        subst (λ (n : WordNode). IsGiven g n.width n.operation) same (tells.0 holds)

pub given-all : (g : Given) (nodes all : List WordNode) (i : ℕ) → nodes ≡ all → length nodes ≤ i → GivenBelow g nodes i → IsTrue true ↔ AreGiven g all
given-all g nodes all i same past below =
    (λ _. subst (AreGiven g) same (λ k node at. below.each k node (omega (arith, past, slice_get_within nodes k node at)) at), λ _. refl)

pub given-not : (g : Given) (nodes all : List WordNode) (i : ℕ) (one : WordNode) (answer : Bool) → nodes ≡ all → i < length nodes → one ≡ get_or nodes i one → answer ≡ false
    → IsTrue answer ↔ IsGiven g one.width one.operation → IsTrue false ↔ AreGiven g all
given-not g nodes all i one answer same within is fails tells =
    (λ h. absurd cc, λ whole. sym fails ∙ tells.1 (subst (AreGiven g) (sym same) whole i one (slice_get-at nodes i one within is)))

pub ruleset net_steps = (given-none, given-next, given-all, given-not)

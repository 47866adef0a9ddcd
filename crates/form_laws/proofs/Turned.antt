-- The outputs of a cycle are right in an assignment exactly where they are in the run.
use Rattle.std.proofs.Common.{◌≡◌, ℕ, zero, suc, Bool, List, [], ◌∷◌, map, Some, refl, sym, ◌∙◌, ap, subst}
use Rattle.std.specs.Prelude.{slice_get}
use Rattle.loc_base.proofs.ShelfOptions.{Some-same}
use Rattle.gate_base.specs.declared.literal.Literal.{Literal}
use Rattle.gate_base.specs.Meaning.{Source, bit_value}
use Rattle.design_core.specs.declared.trace.Checked.{Checked}
use Rattle.design_core.specs.Given.{row}
use Rattle.clause_base.specs.Satisfaction.{Satisfies}
use Rattle.bit_circuit.specs.Circuits.{BitNet}
use Rattle.unroller.specs.Cycles.{translated, words_translated}
use Rattle.unroller.specs.Unrolls.{Unrolling}
use Rattle.clause_form.specs.Clauses.{words_clauses}
use Rattle.form_laws.specs.Runs.{AreRight}
use Rattle.form_laws.specs.Models.{literal_in}
use Rattle.form_laws.proofs.Definitions.{HasValues, literal-in}
use Rattle.form_laws.proofs.Checks.{words-say, words-hold}
use Rattle.form_laws.proofs.Cycles.{CycleStands}

get-map : {X Y : Type 0} (f : X → Y) (xs : List X) (i : ℕ) (x : X) → slice_get xs i ≡ Some x → slice_get (map f xs) i ≡ Some (f x)
get-map f [] i x there = cc
get-map f (y ∷ xs) zero x there = ap (λ z. Some (f z)) (Some-same there)
get-map f (y ∷ xs) (suc i) x there = get-map f xs i x there

-- an element of the images is one of an element
record Image {X Y : Type 0} (f : X → Y) (xs : List X) (i : ℕ) (y : Y) : Type 0 where
  of : X
  there : slice_get xs i ≡ Some of
  is : f of ≡ y

map-get : {X Y : Type 0} (f : X → Y) (xs : List X) (i : ℕ) (y : Y) → slice_get (map f xs) i ≡ Some y → Image f xs i y
map-get f [] i y there = cc
map-get f (x ∷ xs) zero y there = record { of = x; there = refl; is = Some-same there }
map-get f (x ∷ xs) (suc i) y there = let m = map-get f xs i y there in record { of = m.of; there = m.there; is = m.is }

module _ (one other : Literal → Bool) (now : List Literal) (same : (l : Literal) → one (translated now l) ≡ other l)
    (words : List (List Literal)) (expected : List Checked) where
  abbrev turn : Literal → Literal
  turn = translated now

  pub from-turned : AreRight one (words_translated now words) expected → AreRight other words expected
  from-turned right i b word checked l in_words in_expected in_word is =
      sym (same l)
      ∙ right i b (map turn word) checked (turn l) (get-map (map turn) words i word in_words) in_expected (get-map turn word b l in_word) is

  pub to-turned : AreRight other words expected → AreRight one (words_translated now words) expected
  to-turned right i b word checked l in_words in_expected in_word is =
      let w : Image (map turn) words i word = map-get (map turn) words i word in_words in
      let x : Image turn w.of b l = map-get turn w.of b l (ap (λ ls. slice_get ls b) w.is ∙ in_word) in
      ap one (sym x.is) ∙ same x.of ∙ right i b w.of checked x.of w.there in_expected x.there is

module _ (a : ℕ → Bool) (e : Source) (circuit : BitNet) (u : Unrolling) (has : HasValues a u.base e u.definitions)
    (moment : ℕ) (source : Source) (expected : List Checked) (stands : CycleStands e circuit u moment source expected) where
  abbrev value : Literal → Bool
  value l = bit_value source circuit.nodes l

  same-value : (l : Literal) → literal_in a u.base (translated stands.now l) ≡ value l
  unfolding bit_value
  same-value l =
      let m = stands.means l in
      literal-in a u.base e u.definitions has (translated stands.now l) m.within ∙ m.value

  abbrev Holds : Type 0
  Holds = Satisfies a (words_clauses u.base (row u.expected u.each moment) (row u.outputs u.each moment))

  pub cycle-right : Holds → AreRight value circuit.outputs expected
  cycle-right holds =
      from-turned (literal_in a u.base) value stands.now same-value circuit.outputs expected
      (subst (λ ws. AreRight (literal_in a u.base) ws expected) stands.outputs
      (subst (λ xs. AreRight (literal_in a u.base) (row u.outputs u.each moment) xs) stands.expected_is
      (words-say a u.base (row u.expected u.each moment) (row u.outputs u.each moment) holds)))

  pub right-cycle : AreRight value circuit.outputs expected → Holds
  right-cycle right =
      words-hold a u.base (row u.expected u.each moment) (row u.outputs u.each moment)
      (subst (λ xs. AreRight (literal_in a u.base) (row u.outputs u.each moment) xs) (sym stands.expected_is)
      (subst (λ ws. AreRight (literal_in a u.base) ws expected) (sym stands.outputs)
      (to-turned (literal_in a u.base) value stands.now same-value circuit.outputs expected right)))

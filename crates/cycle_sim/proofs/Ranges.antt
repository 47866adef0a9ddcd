-- A range for each of some clocked blocks.
use Rattle.std.proofs.Common.{◌≡◌, ℕ, ◌+◌, ◌<◌, List, [], ◌∷◌, ◌++◌, length, arith, sym, ◌∙◌, ap, subst, inl, inr}
use Rattle.std.specs.Prelude.{slice_get, Some}
use Rattle.std.proofs.lemmas.Bool.{cases_lt}
use Rattle.std.proofs.lemmas.List.{length-append}
use Rattle.std.proofs.lemmas.Option.{slice_get_within}
use Rattle.loc_base.proofs.ShelfLists.{slice_get-some}
use Rattle.loc_base.proofs.ShelfOptions.{Some-same}
use Rattle.design_core.specs.declared.driver.Clocked.{Clocked}
use Rattle.cycle_code.specs.Program.{Program, Grown}
use Rattle.cycle_code.proofs.GrowthLaws.{Grows-push, last-stands}
use Rattle.cycle_code.specs.declared.range.Range.{Range}
use Rattle.cycle_sim.specs.Compiled.{Carries, CarriesReset, AreBodies}
use Rattle.cycle_sim.proofs.Pushing.{Carries-grown}

-- ---- the first of some blocks
-- the range of a block's body carries it out
abbrev pub CarriesBody : Program → Range → Clocked → Type 0
CarriesBody p range block = Carries p range block.body

-- a range with a property for each of the first of some blocks
pub record RangesSoFar (IsFor : Range → Clocked → Type 0) (blocks : List Clocked) (ranges : List Range) (count : ℕ) : Type 0 where
  pub many : length ranges ≡ count
  pub each : (i : ℕ) (block : Clocked) (range : Range) → slice_get blocks i ≡ Some block → slice_get ranges i ≡ Some range
      → IsFor range block

-- one more, which may need more of a program than those before it
pub RangesSoFar-more : (IsFor IsAlso : Range → Clocked → Type 0) (blocks : List Clocked) (ranges : List Range) (count : ℕ)
    (block : Clocked) (range : Range)
    → slice_get blocks count ≡ Some block → RangesSoFar IsFor blocks ranges count
    → ((r : Range) (b : Clocked) → IsFor r b → IsAlso r b) → IsAlso range block
    → RangesSoFar IsAlso blocks (ranges ++ range ∷ []) (count + 1)
RangesSoFar-more IsFor IsAlso blocks ranges count block range at so_far also last = record {
  many = length-append ranges (range ∷ []) ∙ ap (λ n. n + 1) so_far.many;
  each = λ i b r one other. elim (cases_lt i (length ranges)) [
    | inl low ↦
        let found = slice_get-some ranges i low in
        let same = Some-same (sym (Grows-push ranges range i found.0 found.1) ∙ other) in
        also r b (so_far.each i b r one (found.1 ∙ ap Some same))
    | inr high ↦
        let within : i < length (ranges ++ range ∷ []) = slice_get_within (ranges ++ range ∷ []) i r other in
        let here : i ≡ length ranges = omega (arith, length-append ranges (range ∷ [])) in
        let there : i ≡ count = here ∙ so_far.many in
        subst (λ (x : Range). IsAlso x b) (Some-same
        (sym (last-stands ranges range) ∙ sym (ap (slice_get (ranges ++ range ∷ [])) here) ∙ other))
        (subst (λ (x : Clocked). IsAlso range x) (Some-same (sym at ∙ sym (ap (slice_get blocks) there) ∙ one)) last)
  ];
}

-- ---- as a program grows
pub CarriesReset-grown : (p q : Program) (range : Range) (block : Clocked) → Grown p q → CarriesReset p range block
    → CarriesReset q range block
CarriesReset-grown p q range block grown carries reset is = Carries-grown p q range reset.values grown (carries reset is)

pub AreBodies-grown : (p q : Program) (blocks : List Clocked) (ranges : List Range) → Grown p q → AreBodies p blocks ranges
    → AreBodies q blocks ranges
AreBodies-grown p q blocks ranges grown bodies = record {
  many = bodies.many;
  each = λ i block range one other. Carries-grown p q range block.body grown (bodies.each i block range one other);
}

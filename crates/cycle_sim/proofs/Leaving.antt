-- A statement of a clocked block carried out among the cells.
use Rattle.std.proofs.Common.{◌≡◌, ℕ, ◌<◌, List, length, take, map, arith, sym, ◌∙◌, ap, subst}
use Rattle.std.specs.Prelude.{Bool, false, slice_get, slice_index_or, Some}
use Rattle.std.proofs.lemmas.Option.{slice_get-get_or}
use Rattle.std.specs.Option.{option_map_or}
use Rattle.loc_base.specs.declared.bits.Bits.{Bits}
use Rattle.loc_base.specs.Bits.{width_of}
use Rattle.design_core.specs.declared.statement.Stmt.{Stmt}
use Rattle.design_core.specs.declared.driver.Clocked.{Clocked}
use Rattle.design_core.specs.declared.driver.Reset.{Reset}
use Rattle.design_core.specs.Valuation.{Valuation}
use Rattle.design_core.specs.Given.{CanRun}
use Rattle.design_core.specs.After.{Choice, after}
use Rattle.design_core.specs.Words.{valuation_of}
use Rattle.plain_sim.specs.EvaluateCycle.{blended}
use Rattle.plain_values.proofs.EvaluateStore.{updates}
use Rattle.cycle_code.specs.Program.{Program, signals_of, count_of}
use Rattle.cycle_code.specs.Cells.{updates_in, HasConstants}
use Rattle.cycle_code.specs.Fitting.{IsSound}
use Rattle.cycle_code.specs.Running.{run}
use Rattle.cycle_code.proofs.CellLaws.{updates-same}
use Rattle.cycle_code.proofs.GrowthLaws.{Grown-refl}
use Rattle.cycle_code.proofs.ConstantLaws.{constants-run}
use Rattle.cycle_sim.specs.declared.mask.Mask.{Mask}
use Rattle.cycle_code.specs.declared.range.Range.{Range}
use Rattle.cycle_sim.specs.Masks.{assigns_now, covers, AreBlockMasks}
use Rattle.cycle_sim.specs.Compiled.{AreCells, Carries, CarriesWithin, LeftBy, now_in, later_in, room_in}
use Rattle.design_core.specs.Cycle.{is_active}
use Rattle.cycle_sim.proofs.CellWords.{now-valuation}
use Rattle.cycle_sim.proofs.BlockSteps.{restored, now-same, left-is, body-fits, values-fit}

-- the cells after a run
pub AreCells-run : (p : Program) (choice : Choice) (to from : ℕ) (cells new : List Bits) → IsSound p → AreCells p cells
    → map width_of new ≡ p.widths
    → valuation_of new ≡ run p choice to from (valuation_of cells) → AreCells p new
AreCells-run p choice to from cells new sound are widths ran = record {
  widths = widths;
  constants = subst (HasConstants p) (sym ran) (constants-run p choice to from (valuation_of cells) sound are.constants);
}

-- the bits that are assigned by `=` are kept in the room meanwhile
pub left-by : (p : Program) (choice : Choice) (range : Range) (at_once current : List Mask) (statement : Stmt) (V V1 V2 V3 : Valuation)
    → CarriesWithin p range at_once statement → HasConstants p V1 → now_in p V1 ≡ now_in p V → later_in p V1 ≡ later_in p V
    → room_in p V1 ≡ blended (covers at_once) (now_in p V) (room_in p V) → V2 ≡ run p choice range.to range.from V1
    → now_in p V3 ≡ blended (covers at_once) (room_in p V2) (now_in p V2)
    → later_in p V3 ≡ blended (covers current) (now_in p V2) (later_in p V2)
    → LeftBy p choice current statement V V3
left-by p choice range at_once current statement V V1 V2 V3 within has now later room ran now3 later3 = record {
  same =
      restored at_once (now_in p V) (room_in p V) (now_in p V2) (room_in p V2) (now_in p V3) kept now3
      (now-same (signals_of p) p.design.places.items choice statement at_once (now_in p V) (later_in p V) (now_in p V2)
      (later_in p V2) within.fits within.all carried);
  left = left-is (signals_of p) choice statement current (now_in p V) (later_in p V) (now_in p V2) (later_in p V2)
      (later_in p V3) carried later3;
}
  where
    carried : updates (now_in p V2) (later_in p V2) ≡ after (signals_of p) choice statement (updates (now_in p V) (later_in p V))
    carried =
        ap (updates_in (count_of p)) ran
        ∙ within.carries.updates p choice V1 (Grown-refl p) has
        ∙ ap (after (signals_of p) choice statement) (updates-same now later)

    kept : room_in p V2 ≡ blended (covers at_once) (now_in p V) (room_in p V)
    kept = ap (room_in p) ran ∙ (within.carries.spares p choice V1 (Grown-refl p) has).room ∙ room

-- the range of a block's body, and that of its reset's values
pub body-within : (p : Program) (range : Range) (i : ℕ) (block : Clocked) (own once current : List Mask) → CanRun p.design
    → slice_get p.design.clocked.items i ≡ Some block
    → AreBlockMasks p.design block own once current → Carries p range block.body → CarriesWithin p range once block.body
body-within p range i block own once current can at masks carries = record {
  carries = carries;
  fits = body-fits p.design i block can at;
  all = λ s b off. (masks.at_once s b off).body;
}

pub reset-within : (p : Program) (range : Range) (i : ℕ) (block : Clocked) (r : Reset) (own once current : List Mask) → CanRun p.design
    → slice_get p.design.clocked.items i ≡ Some block → block.reset ≡ Some r → AreBlockMasks p.design block own once current
    → Carries p range r.values
    → CarriesWithin p range once r.values
reset-within p range i block r own once current can at is masks carries = record {
  carries = carries;
  fits = values-fit p.design i block r can at is;
  all = λ s b off.
      sym (ap (λ o. option_map_or (λ (x : Reset). assigns_now (signals_of p) s b x.values) o false) is) ∙ (masks.at_once s b off).reset;
}

-- the range of a block
pub range-at : (ranges : List Range) (blocks : List Clocked) (i : ℕ) (none : Range) → length ranges ≡ length blocks → i < length blocks
    → slice_get ranges i ≡ Some (slice_index_or ranges i none)
range-at ranges blocks i none many within = slice_get-get_or ranges i none (omega (arith, many, within))

-- whether a block's reset is active, by the words that are read
pub active-in : (p : Program) (cells : List Bits) (n : ℕ) (block : Clocked) (r : Bool) → n ≡ count_of p
    → r ≡ is_active (valuation_of (take n cells)) block
    → is_active (now_in p (valuation_of cells)) block ≡ r
active-in p cells n block r same e =
    sym (e ∙ ap (λ V. is_active V block) (ap (λ k. valuation_of (take k cells)) same ∙ now-valuation p cells))

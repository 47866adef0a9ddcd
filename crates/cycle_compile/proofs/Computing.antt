-- The computing of an expression: an instruction of its own behind the computing of its operands.
use Rattle.std.proofs.Common.{◌≡◌, ℕ, ◌^◌, ◌<◌, ◌≤◌, [], ◌∷◌, ◌++◌, length, sym, refl, ◌∙◌, ap, subst}
use Rattle.std.specs.Prelude.{true, false, IsTrue, slice_get}
use Rattle.std.specs.Option.{option_map_or}
use Rattle.std.proofs.lemmas.Bool.{ltb-true}
use Rattle.design_core.specs.declared.expression.Typed.{Typed}
use Rattle.design_core.specs.Valuation.{Valuation}
use Rattle.design_core.specs.Value.{value}
use Rattle.design_core.specs.After.{Choice}
use Rattle.design_core.specs.WellFormed.{typed_fits}
use Rattle.cycle_code.specs.declared.instruction.Instruction.{Instruction}
use Rattle.cycle_code.specs.declared.instruction.Instruction.TheVariants as instruction
use Rattle.cycle_code.specs.Program.{Program, signals_of, count_of, Grown, with_instruction, with_tree}
use Rattle.cycle_code.specs.Cells.{width_in, below, HasConstants}
use Rattle.cycle_code.specs.Effects.{held_in, with_held_in, effect, next}
use Rattle.cycle_code.specs.Fitting.{IsSound}
use Rattle.cycle_code.proofs.CellLaws.{held-with_small, with_held-other}
use Rattle.cycle_code.proofs.GrowthLaws.{width_in-grown, Grown-trans, Grown-refl, last-stands}
use Rattle.cycle_compile.specs.Compiling.{is_leaf, value_in, IsPlaceFor, Leads, Keeps, LeavesValue, Values}
use Rattle.cycle_compile.proofs.Leading.{Leads-none, Leads-on, Leads-at, Leads-pushed, widths-grown, Keeps-on, Keeps-fewer, held-kept, value_in-kept, Keeps-placed}
use Rattle.cycle_compile.proofs.Wide.{fits-grown_program, value_in-small}

-- ---- the instruction
-- an instruction that was pushed for an expression: `before` is the program where its cell is known, `old` the one with the cells
-- of its operands, and `new` the one with the instruction
pub record IsOwn (i : Instruction) (before old new : Program) (e : Typed) (cell : ℕ) : Type 0 where
  pub made : new ≡ with_instruction i old
  pub sound : IsSound new
  pub same : old.instructions ≡ before.instructions
  pub grown : Grown before new
  pub place : IsPlaceFor before e cell
  pub inner : is_leaf e.node ≡ false
  pub fits : IsTrue (typed_fits (signals_of before) e)

-- it puts the value into the cell, and the run goes on below it
pub record Puts (p : Program) (choice : Choice) (i : Instruction) (at : ℕ) (V W : Valuation) (e : Typed) (cell : ℕ) : Type 0 where
  pub goes_on : next p i at W ≡ at
  pub leaves : effect p choice i W ≡ with_held_in p cell (value_in p V e) W

pub leaves-own : (i : Instruction) (before old new last p : Program) (choice : Choice) (V W : Valuation) (e : Typed) (cell : ℕ)
    → IsOwn i before old new e cell → Grown new p → Leads p choice (length last.instructions) V (length new.instructions) W
    → Keeps (length before.widths) V W → Puts p choice i (length old.instructions) V W e cell
    → LeavesValue p choice before last e cell V
leaves-own i before old new last p choice V W e cell own grown leads keeps puts =
    let whole : Grown before p = Grown-trans before new p own.grown grown in
    let wide : width_in p.widths cell ≡ e.width = width_in-grown before p cell whole own.place.is_there ∙ own.place.width in
    let small : value_in p V e < 2 ^ width_in p.widths cell =
    subst (λ w. value_in p V e < 2 ^ w) (sym wide) (value_in-small p V e (fits-grown_program before p e whole own.fits)) in
    let length_same : length old.instructions ≡ length before.instructions = ap length own.same in
    record {
      W = effect p choice i W;
      leads = Leads-on leads
          (Leads-at (length new.instructions) (length before.instructions) refl (puts.goes_on ∙ length_same)
          (Leads-pushed i old new p choice W own.made own.sound grown leads.constants));
      value = ap (λ U. held_in p U cell) puts.leaves ∙ held-with_small p.widths cell (value_in p V e) W small;
      keeps = λ c b h other.
          ap (λ U. U c b) puts.leaves ∙ ap (λ f. f b) (with_held-other p.widths cell (value_in p V e) W c other) ∙ keeps c b h;
      still = λ leaf. absurd (differ (sym leaf ∙ own.inner));
    }
  where
    differ : true ≡ false → ⊥
    differ same = absurd cc

-- ---- no instruction
-- a value that stands in its cell already
pub Values-leaf : (p : Program) (e : Typed) (cell : ℕ) → is_leaf e.node ≡ true → IsPlaceFor p e cell → Values p p e cell
Values-leaf p e cell leaf at = record {
  grown = Grown-refl p;
  leaves = λ q choice V grown has. record {
    W = V;
    leads = Leads-none (length p.instructions) has;
    value = at.stands leaf q V grown has;
    keeps = λ c b h other. refl;
    still = λ _ c b h. refl;
  };
}

-- ---- no operand
pub Values-own : (i : Instruction) (before old new : Program) (e : Typed) (cell : ℕ) → IsOwn i before old new e cell
    → ((p : Program) (choice : Choice) (V : Valuation) → Grown new p → Puts p choice i (length old.instructions) V V e cell)
    → Values before new e cell
Values-own i before old new e cell own puts = record {
  grown = own.grown;
  leaves = λ p choice V grown has.
      leaves-own i before old new new p choice V V e cell own grown (Leads-none (length new.instructions) has) (λ c b h. refl)
      (puts p choice V grown);
}

-- ---- one operand
-- a cell that was given for an operand behind a program
pub record IsPlaced (before placed : Program) (e : Typed) (cell : ℕ) : Type 0 where
  pub place : IsPlaceFor placed e cell
  pub fresh : is_leaf e.node ≡ false → length before.widths ≤ cell
  pub grown : Grown before placed

pub Values-one : (i : Instruction) (before old new last : Program) (e : Typed) (cell : ℕ) (arg : Typed) (operand : ℕ)
    → IsOwn i before old new e cell → IsPlaced before old arg operand → Grown old new → Values new last arg operand
    → ((p : Program) (choice : Choice) (V W : Valuation) → Grown old p → width_in p.widths operand ≡ arg.width
    → held_in p W operand ≡ value_in p V arg
    → Puts p choice i (length old.instructions) V W e cell)
    → Values before last e cell
Values-one i before old new last e cell arg operand own one more values puts = record {
  grown = Grown-trans before new last own.grown values.grown;
  leaves = λ p choice V grown has.
      let leaves = values.leaves p choice V grown has in
      let later : Grown new p = Grown-trans new last p values.grown grown in
      let all : Grown old p = Grown-trans old new p more later in
      leaves-own i before old new last p choice V leaves.W e cell own later leaves.leads
      (Keeps-placed before own.grown one.fresh leaves)
      (puts p choice V leaves.W all (width_in-grown old p operand all one.place.is_there ∙ one.place.width) leaves.value);
}

-- ---- two operands
-- a run leaves the values of two operands in their cells, and keeps each cell that was there before these were given
pub record LeavesBoth (p : Program) (choice : Choice) (before new last : Program) (left : Typed) (high : ℕ) (right : Typed)
    (low : ℕ) (V : Valuation) : Type 0 where
  pub W : Valuation
  pub leads : Leads p choice (length last.instructions) V (length new.instructions) W
  pub keeps : Keeps (length before.widths) V W
  pub high_held : held_in p W high ≡ value_in p V left
  pub low_held : held_in p W low ≡ value_in p V right

pub both-left : (before between old new middle last : Program) (left : Typed) (high : ℕ) (right : Typed) (low : ℕ)
    → IsSound before → IsPlaced before between left high → IsPlaced between old right low → Grown old new
    → Values new middle right low → Values middle last left high
    → (p : Program) (choice : Choice) (V : Valuation) → Grown last p → HasConstants p V
    → LeavesBoth p choice before new last left high right low V
both-left before between old new middle last left high right low sound one other more rights_values lefts_values p choice V grown has =
    let after_right : Grown middle p = Grown-trans middle last p lefts_values.grown grown in
    let later : Grown new p = Grown-trans new middle p rights_values.grown after_right in
    let second : Grown between new = Grown-trans between old new other.grown more in
    let first : Grown before new = Grown-trans before between new one.grown second in
    let lefts = lefts_values.leaves p choice V grown has in
    let rights = rights_values.leaves p choice lefts.W after_right lefts.leads.constants in
    let left_keeps : Keeps (length before.widths) V lefts.W =
    Keeps-placed before (Grown-trans before new middle first rights_values.grown) one.fresh lefts in
    let right_keeps : Keeps (length between.widths) lefts.W rights.W = Keeps-placed between second other.fresh rights in
    let there : high < length between.widths = ltb-true high (length between.widths) one.place.is_there in
    let fewer : length before.widths ≤ length between.widths = widths-grown before between one.grown in
    record {
      W = rights.W;
      leads = Leads-on lefts.leads rights.leads;
      keeps = Keeps-on (length before.widths) V lefts.W rights.W left_keeps
          (Keeps-fewer (length before.widths) (length between.widths) lefts.W rights.W fewer right_keeps);
      high_held = held-kept p.widths (length between.widths) lefts.W rights.W high there right_keeps ∙ lefts.value;
      low_held = rights.value ∙ value_in-kept before p V lefts.W right sound (Grown-trans before new p first later) left_keeps;
    }

pub Values-two : (i : Instruction) (before between old new middle last : Program) (e : Typed) (cell : ℕ) (left : Typed)
    (high : ℕ) (right : Typed) (low : ℕ)
    → IsSound before → IsOwn i before old new e cell → IsPlaced before between left high → IsPlaced between old right low → Grown old new
    → Values new middle right low → Values middle last left high
    → ((p : Program) (choice : Choice) (V W : Valuation) → Grown old p
    → width_in p.widths high ≡ left.width → held_in p W high ≡ value_in p V left
    → width_in p.widths low ≡ right.width → held_in p W low ≡ value_in p V right
    → Puts p choice i (length old.instructions) V W e cell)
    → Values before last e cell
Values-two i before between old new middle last e cell left high right low sound own one other more rights_values lefts_values
    puts = record {
      grown = Grown-trans before new last own.grown (Grown-trans new middle last rights_values.grown lefts_values.grown);
      leaves = λ p choice V grown has.
          let later : Grown new p = Grown-trans new middle p rights_values.grown (Grown-trans middle last p lefts_values.grown grown) in
          let all : Grown old p = Grown-trans old new p more later in
          let second : Grown between p = Grown-trans between old p other.grown all in
          let both = both-left before between old new middle last left high right low sound one other more rights_values
          lefts_values p choice V grown has in
          leaves-own i before old new last p choice V both.W e cell own later both.leads both.keeps
          (puts p choice V both.W all
          (width_in-grown between p high second one.place.is_there ∙ one.place.width) both.high_held
          (width_in-grown old p low all other.place.is_there ∙ other.place.width) both.low_held);
    }

-- ---- the whole expression by one instruction
pub Values-tree : (before old new : Program) (e : Typed) (tree cell : ℕ) → tree ≡ length before.trees → old ≡ with_tree e before
    → IsOwn (instruction.Value tree cell) before old new e cell → Grown old new → Values before new e cell
Values-tree before old new e tree cell here is own more =
    Values-own (instruction.Value tree cell) before old new e cell own
    (λ p choice V grown. record {
      goes_on = refl;
      leaves = ap (λ o. option_map_or (λ x. with_held_in p cell (value (signals_of p) (below (count_of p) V) x) V) o V)
          (grown.trees tree e (more.trees tree e
          (ap (λ (q : Program). slice_get q.trees tree) is ∙ ap (slice_get (before.trees ++ e ∷ [])) here ∙ last-stands before.trees e)));
    })

-- An expression by a condition: one of two values is put into its cell.
use Rattle.std.proofs.Common.{◌≡◌, ℕ, ◌^◌, ◌<◌, List, length, arith, sym, refl, ◌∙◌, ap, subst}
use Rattle.std.specs.Prelude.{Bool, true, false, if◌then◌else◌, IsTrue}
use Rattle.design_core.specs.declared.signal.Signal.{Signal}
use Rattle.design_core.specs.declared.expression.Typed.{Typed}
use Rattle.design_core.specs.declared.expression.Node.TheVariants as node
use Rattle.design_core.specs.Valuation.{Valuation}
use Rattle.design_core.specs.Operator.{is_true}
use Rattle.design_core.specs.Value.{node_value}
use Rattle.design_core.specs.After.{Choice}
use Rattle.design_core.specs.WellFormed.{typed_fits}
use Rattle.design_core.proofs.ExpressionSteps.{value_choose}
use Rattle.plain_values.proofs.EvaluateNodes.{choose-widths, choose-test, choose-second, choose-last}
use Rattle.cycle_code.specs.declared.instruction.Instruction.TheVariants as instruction
use Rattle.cycle_code.specs.Program.{Program, signals_of, count_of, Grown, with_instruction}
use Rattle.cycle_code.specs.Cells.{width_in, below, HasConstants}
use Rattle.cycle_code.specs.Effects.{held_in, with_held_in}
use Rattle.cycle_code.specs.Fitting.{is_cell, IsSound}
use Rattle.cycle_code.proofs.CellLaws.{held-with_small, with_held-other}
use Rattle.cycle_code.proofs.GrowthLaws.{Grown-trans, width_in-grown}
use Rattle.cycle_compile.specs.Compiling.{is_leaf, value_in, Leads, Keeps, Values, LeavesValue, Decides}
use Rattle.cycle_compile.specs.Carrying.{Jumps}
use Rattle.cycle_compile.specs.Computing.{Fills}
use Rattle.cycle_compile.proofs.Leading.{Leads-on, Leads-at, Leads-pushed, Keeps-fewer, widths-grown, value_in-kept}
use Rattle.cycle_compile.proofs.Computing.{IsPlaced}
use Rattle.cycle_compile.proofs.OperatorFits.{node-known}
use Rattle.cycle_compile.proofs.Wide.{fits-grown_program, value_in-small}

-- ---- one value
-- what was computed in its own cell
pub Fills-computed : (old new : Program) (e : Typed) (cell : ℕ) → Values old new e cell → Fills old new e cell
Fills-computed old new e cell values = record {
  grown = values.grown;
  leaves = λ p choice V grown has.
      let leaves = values.leaves p choice V grown has in
      record { W = leaves.W; leads = leaves.leads; value = leaves.value; keeps = leaves.keeps };
}

-- a copy of what stands in another cell
pub Fills-copied : (before placed new : Program) (e : Typed) (from cell : ℕ) → is_leaf e.node ≡ true → IsPlaced before placed e from
    → placed.instructions ≡ before.instructions → IsTrue (is_cell before cell) → width_in before.widths cell ≡ e.width
    → IsTrue (typed_fits (signals_of before) e)
    → new ≡ with_instruction (instruction.Move from cell) placed → IsSound new → Grown placed new → Fills before new e cell
Fills-copied before placed new e from cell leaf at same there size fits made sound grown = record {
  grown = Grown-trans before placed new at.grown grown;
  leaves = λ p choice V more has.
      let later : Grown placed p = Grown-trans placed new p grown more in
      let whole : Grown before p = Grown-trans before placed p at.grown later in
      let value : held_in p V from ≡ value_in p V e = at.place.stands leaf p V later has in
      let wide : width_in p.widths cell ≡ e.width = width_in-grown before p cell whole there ∙ size in
      let small : held_in p V from < 2 ^ width_in p.widths cell =
      subst (λ n. n < 2 ^ width_in p.widths cell) (sym value)
      (subst (λ w. value_in p V e < 2 ^ w) (sym wide) (value_in-small p V e (fits-grown_program before p e whole fits))) in
      record {
        W = with_held_in p cell (held_in p V from) V;
        leads = Leads-at (length new.instructions) (length before.instructions) refl (ap length same)
            (Leads-pushed (instruction.Move from cell) placed new p choice V made sound more has);
        value = held-with_small p.widths cell (held_in p V from) V small ∙ value;
        keeps = λ c b h other. ap (λ f. f b) (with_held-other p.widths cell (held_in p V from) V c other);
      };
}

-- ---- one of two values
-- what is known of the operands
pub record ChooseKnown (signals : List Signal) (e test on_true on_false : Typed) : Type 0 where
  pub test_fits : IsTrue (typed_fits signals test)
  pub true_fits : IsTrue (typed_fits signals on_true)
  pub false_fits : IsTrue (typed_fits signals on_false)
  pub true_width : on_true.width ≡ e.width
  pub false_width : on_false.width ≡ e.width

pub choose-known : (signals : List Signal) (e test on_true on_false : Typed) → e.node ≡ node.Choose test on_true on_false
    → IsTrue (typed_fits signals e)
    → ChooseKnown signals e test on_true on_false
choose-known signals e test on_true on_false is fits =
    let known = node-known signals e (node.Choose test on_true on_false) is fits in
    let widths = choose-widths signals e.width e.signed test on_true on_false known in
    record {
      test_fits = choose-test signals e.width e.signed test on_true on_false known;
      true_fits = choose-second signals e.width e.signed test on_true on_false known;
      false_fits = choose-last signals e.width e.signed test on_true on_false known;
      true_width = widths.0;
      false_width = widths.1;
    }

pub Values-choose : (before second jumped first last : Program) (e : Typed) (cell : ℕ) (test on_true on_false : Typed)
    → e.node ≡ node.Choose test on_true on_false → IsSound before
    → Fills before second on_false cell → Jumps second jumped (length before.instructions) → Fills jumped first on_true cell
    → Decides first last test (length first.instructions) (length second.instructions)
    → Values before last e cell
Values-choose before second jumped first last e cell test on_true on_false is sound falses jumps trues decides =
    let to_jumped : Grown before jumped = Grown-trans before second jumped falses.grown jumps.grown in
    let to_first : Grown before first = Grown-trans before jumped first to_jumped trues.grown in
    record {
      grown = Grown-trans before first last to_first decides.grown;
      leaves = λ p choice V grown has. by p choice V grown has (is_true (value_in p V test)) refl;
    }
  where
    differ : true ≡ false → ⊥
    differ same = absurd cc

    by : (p : Program) (choice : Choice) (V : Valuation) → Grown last p → HasConstants p V → (b : Bool) → is_true (value_in p V test) ≡ b
        → LeavesValue p choice before last e cell V
    by p choice V grown has true known =
        let all : Grown first p = Grown-trans first last p decides.grown grown in
        let later : Grown jumped p = Grown-trans jumped first p trues.grown all in
        let whole : Grown before p = Grown-trans before jumped p (Grown-trans before second jumped falses.grown jumps.grown) later in
        let g = decides.goes p choice V grown has in
        let most = widths-grown before jumped (Grown-trans before second jumped falses.grown jumps.grown) in
        let more = widths-grown jumped first trues.grown in
        let keeps : Keeps (length before.widths) V g.W =
        Keeps-fewer (length before.widths) (length first.widths) V g.W (omega arith) g.keeps in
        let f = trues.leaves p choice g.W all g.leads.constants in
        let value : value_in p V e ≡ value_in p V on_true =
        ap (node_value (signals_of p) (below (count_of p) V) e.width) is
        ∙ value_choose (signals_of p) (below (count_of p) V) e.width test on_true on_false
        ∙ ap (λ t. if t then value_in p V on_true else value_in p V on_false) known in
        record {
          W = f.W;
          leads = Leads-on
              (subst (λ t. Leads p choice (length last.instructions) V
              (if t then length first.instructions else length second.instructions) g.W) known g.leads)
              (Leads-on f.leads (jumps.goes p choice f.W later f.leads.constants));
          value = f.value ∙ value_in-kept before p V g.W on_true sound whole keeps ∙ sym value;
          keeps = λ c b h other. f.keeps c b (omega arith) other ∙ keeps c b h;
          still = λ leaf. absurd (differ (sym leaf ∙ ap is_leaf is));
        }
    by p choice V grown has false known =
        let all : Grown first p = Grown-trans first last p decides.grown grown in
        let later : Grown second p = Grown-trans second jumped p jumps.grown (Grown-trans jumped first p trues.grown all) in
        let whole : Grown before p = Grown-trans before second p falses.grown later in
        let g = decides.goes p choice V grown has in
        let most = widths-grown before first (Grown-trans before second first falses.grown
        (Grown-trans second jumped first jumps.grown trues.grown)) in
        let keeps : Keeps (length before.widths) V g.W =
        Keeps-fewer (length before.widths) (length first.widths) V g.W (omega arith) g.keeps in
        let f = falses.leaves p choice g.W later g.leads.constants in
        let value : value_in p V e ≡ value_in p V on_false =
        ap (node_value (signals_of p) (below (count_of p) V) e.width) is
        ∙ value_choose (signals_of p) (below (count_of p) V) e.width test on_true on_false
        ∙ ap (λ t. if t then value_in p V on_true else value_in p V on_false) known in
        record {
          W = f.W;
          leads = Leads-on
              (subst (λ t. Leads p choice (length last.instructions) V
              (if t then length first.instructions else length second.instructions) g.W) known g.leads)
              f.leads;
          value = f.value ∙ value_in-kept before p V g.W on_false sound whole keeps ∙ sym value;
          keeps = λ c b h other. f.keeps c b h other ∙ keeps c b h;
          still = λ leaf. absurd (differ (sym leaf ∙ ap is_leaf is));
        }

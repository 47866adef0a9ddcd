-- A concatenation: each part is joined to what stands to its left.
use Rattle.std.proofs.Common.{◌≡◌, ℕ, zero, suc, ◌+◌, ◌*◌, ◌^◌, ◌<◌, ◌≤◌, List, [], ◌∷◌, ◌++◌, length, arith, sym, refl, ◌∙◌, ap, subst, get_or, take}
use Rattle.std.specs.Prelude.{Bool, true, false, IsTrue, nat_le}
use Rattle.std.proofs.Math.Path.{fun_ext}
use Rattle.std.proofs.lemmas.Bool.{ltb-true, leb-true, and_parts}
use Rattle.std.proofs.lemmas.Nat.{mul-add-lt, pow-add}
use Rattle.std.specs.List.{list_all}
use Rattle.loc_base.proofs.ShelfLists.{slice_get-at, take-at, Contains-first, Contains-at, list_all-member}
use Rattle.design_core.specs.declared.signal.Signal.{Signal}
use Rattle.design_core.specs.WellFormed.{typed_fits}
use Rattle.cycle_compile.proofs.Wide.{node-wide}
use Rattle.design_core.specs.declared.expression.Typed.{Typed}
use Rattle.design_core.specs.declared.expression.Node.TheVariants as node
use Rattle.design_core.specs.Valuation.{Valuation, number}
use Rattle.design_core.specs.Value.{value, node_value}
use Rattle.design_core.specs.After.{Choice}
use Rattle.design_core.proofs.NumberLaws.{number-below}
use Rattle.plain_values.specs.Evaluate.{join_parts, parts_sum}
use Rattle.plain_values.proofs.EvaluateParts.{join-value}
use Rattle.cycle_code.specs.declared.instruction.Instruction.TheVariants as instruction
use Rattle.cycle_code.specs.Program.{Program, signals_of, count_of, Grown, with_instruction}
use Rattle.cycle_code.specs.Cells.{width_in, below}
use Rattle.cycle_code.specs.Effects.{held_in, with_held_in}
use Rattle.cycle_code.specs.Fitting.{is_cell, is_own, fits, IsSound}
use Rattle.cycle_code.proofs.CellLaws.{held-with_small, with_held-other}
use Rattle.cycle_code.proofs.GrowthLaws.{Grown-trans, width_in-grown, is_own-grown, is_own-cell}
use Rattle.cycle_compile.specs.Compiling.{is_leaf, value_in, Keeps, Values, LeavesValue}
use Rattle.cycle_compile.specs.Computing.{Fills, Joins, AwaitsPart, AwaitsPair}
use Rattle.cycle_compile.proofs.Leading.{Leads-on, Leads-at, Leads-pushed, widths-grown, value_in-kept, Keeps-placed}
use Rattle.cycle_compile.proofs.Computing.{IsPlaced, both-left}
use Rattle.cycle_compile.proofs.Placing.{IsPlaceFor-grown}

-- one more part
join_parts-last : (signals : List Signal) (V : Valuation) (left : ℕ) (parts : List Typed) (part : Typed)
    → join_parts signals V left (parts ++ part ∷ []) ≡ join_parts signals V left parts * 2 ^ part.width + value signals V part
join_parts-last signals V left [] part = refl
join_parts-last signals V left (x ∷ parts) part = join_parts-last signals V (left * 2 ^ x.width + value signals V x) parts part

-- a single part
pub Joins-one : (old new : Program) (part : Typed) (cell : ℕ) → Fills old new part cell → Joins old new (part ∷ []) cell
Joins-one old new part cell fills = record {
  grown = fills.grown;
  leaves = λ p choice V grown has.
      let leaves = fills.leaves p choice V grown has in
      let none : 0 * 2 ^ part.width + value_in p V part ≡ value_in p V part = omega arith in
      record { W = leaves.W; leads = leaves.leads; value = leaves.value ∙ sym none; keeps = leaves.keeps };
}

-- two cells joined have no more bits than both together
joined-small : (p : Program) (V : Valuation) (cell high low : ℕ) → width_in p.widths cell ≡ width_in p.widths low + width_in p.widths high
    → held_in p V high * 2 ^ width_in p.widths low + held_in p V low < 2 ^ width_in p.widths cell
joined-small p V cell high low wide =
    let n = held_in p V high * 2 ^ width_in p.widths low + held_in p V low in
    subst (λ w. n < w) (sym (ap (λ k. 2 ^ k) wide ∙ pow-add 2 (width_in p.widths low) (width_in p.widths high)))
    (mul-add-lt (held_in p V high) (2 ^ width_in p.widths low) (held_in p V low) (2 ^ width_in p.widths high)
    (number-below (width_in p.widths high) (V high)) (number-below (width_in p.widths low) (V low)))

-- the instruction that joins a part to what stands to its left: `placed` has the cell of the part, and `old` also the other one
pub Joins-part : (before placed old new middle last : Program) (parts : List Typed) (part : Typed) (cell high low : ℕ)
    → IsSound before → IsTrue (is_own before cell) → IsPlaced before placed part low → Grown placed old → length placed.widths ≤ high
    → IsTrue (is_cell old high) → width_in before.widths cell ≡ width_in old.widths high + part.width
    → old.instructions ≡ before.instructions → new ≡ with_instruction (instruction.Join high low cell) old → IsSound new → Grown old new
    → Values new middle part low → Joins middle last parts high → Joins before last (parts ++ part ∷ []) cell
Joins-part before placed old new middle last parts part cell high low sound own at more past there sizes same made sound_new
    grown_new values joins =
    let to_old : Grown before old = Grown-trans before placed old at.grown more in
    let to_new : Grown before new = Grown-trans before old new to_old grown_new in
    let to_middle : Grown before middle = Grown-trans before new middle to_new values.grown in
    record {
      grown = Grown-trans before middle last to_middle joins.grown;
      leaves = λ p choice V grown has.
          let after_low : Grown middle p = Grown-trans middle last p joins.grown grown in
          let later : Grown new p = Grown-trans new middle p values.grown after_low in
          let later_old : Grown old p = Grown-trans old new p grown_new later in
          let whole : Grown before p = Grown-trans before new p to_new later in
          let ones = joins.leaves p choice V grown has in
          let others = values.leaves p choice ones.W after_low ones.leads.constants in
          let fewer : length before.widths ≤ length placed.widths = widths-grown before placed at.grown in
          let enough : length placed.widths ≤ length middle.widths = widths-grown placed middle
          (Grown-trans placed old middle more (Grown-trans old new middle grown_new values.grown)) in
          let enough_new : length placed.widths ≤ length new.widths = widths-grown placed new (Grown-trans placed old new more grown_new) in
          let ones_keep : Keeps (length before.widths) V ones.W = λ c b h. ones.keeps c b (omega arith) (λ e. absurd (omega arith)) in
          let others_keep : Keeps (length before.widths) ones.W others.W = Keeps-placed before to_new at.fresh others in
          let high_kept : held_in p others.W high ≡ held_in p ones.W high =
          ap (number (width_in p.widths high)) (fun_ext (λ b. high-stays p choice ones.W others (is_leaf part.node) refl b)) in
          let low_same : value_in p ones.W part ≡ value_in p V part = value_in-kept before p V ones.W part sound whole ones_keep in
          let low_wide : width_in p.widths low ≡ part.width =
          width_in-grown placed p low (Grown-trans placed old p more later_old) at.place.is_there ∙ at.place.width in
          let wide : width_in p.widths cell ≡ width_in p.widths low + width_in p.widths high =
          width-sum (width_in p.widths cell) (width_in before.widths cell) (width_in old.widths high) (width_in p.widths high)
          (width_in p.widths low) part.width
          (width_in-grown before p cell whole (is_own-cell before cell own)) sizes (width_in-grown old p high later_old there) low_wide in
          let n = held_in p others.W high * 2 ^ width_in p.widths low + held_in p others.W low in
          let small : n < 2 ^ width_in p.widths cell = joined-small p others.W cell high low wide in
          record {
            W = with_held_in p cell n others.W;
            leads = Leads-on ones.leads (Leads-on others.leads
                (Leads-at (length new.instructions) (length before.instructions) refl (ap length same)
                (Leads-pushed (instruction.Join high low cell) old new p choice others.W made sound_new later others.leads.constants)));
            value = held-with_small p.widths cell n others.W small
                ∙ ap (λ w. held_in p others.W high * 2 ^ w + held_in p others.W low) low_wide
                ∙ ap (λ k. k * 2 ^ part.width + held_in p others.W low) (high_kept ∙ ones.value)
                ∙ ap (λ k. join_parts (signals_of p) (below (count_of p) V) 0 parts * 2 ^ part.width + k) (others.value ∙ low_same)
                ∙ sym (join_parts-last (signals_of p) (below (count_of p) V) 0 parts part);
            keeps = λ c b h other. ap (λ f. f b) (with_held-other p.widths cell n others.W c other) ∙ others_keep c b h ∙ ones_keep c b h;
          };
    }
  where
    width-sum : (cell before_cell old_high high low part : ℕ) → cell ≡ before_cell → before_cell ≡ old_high + part
        → high ≡ old_high → low ≡ part → cell ≡ low + high
    width-sum cell before_cell old_high high low part one second third last = omega arith

    high-stays : (p : Program) (choice : Choice) (V : Valuation) (others : LeavesValue p choice new middle part low V)
        (leaf : Bool) → is_leaf part.node ≡ leaf
        → (b : ℕ) → others.W high b ≡ V high b
    high-stays p choice V others true known b =
        let inside : high < length old.widths = ltb-true high (length old.widths) there in
        let most : length old.widths ≤ length new.widths = widths-grown old new grown_new in
        others.still known high b (omega arith)
    high-stays p choice V others false known b =
        let inside : high < length old.widths = ltb-true high (length old.widths) there in
        let most : length old.widths ≤ length new.widths = widths-grown old new grown_new in
        let lower : low < length placed.widths = ltb-true low (length placed.widths) at.place.is_there in
        others.keeps high b (omega arith) (λ e. absurd (omega arith))

-- the instruction that joins the first two parts: `placed` has the cells of both
Joins-pair : (before between placed new middle last : Program) (left right : Typed) (cell high low : ℕ) → IsSound before
    → IsTrue (is_own before cell)
    → IsPlaced before between left high → IsPlaced between placed right low → width_in before.widths cell ≡ left.width + right.width
    → placed.instructions ≡ before.instructions → new ≡ with_instruction (instruction.Join high low cell) placed → IsSound new
    → Grown placed new
    → Values new middle right low → Values middle last left high → Joins before last (left ∷ right ∷ []) cell
Joins-pair before between placed new middle last left right cell high low sound own one other sizes same made sound_new grown rights lefts =
    let to_new : Grown before new = Grown-trans before between new one.grown (Grown-trans between placed new other.grown grown) in
    record {
      grown = Grown-trans before new last to_new (Grown-trans new middle last rights.grown lefts.grown);
      leaves = λ p choice V more has.
          let both = both-left before between placed new middle last left high right low sound one other grown rights lefts p
          choice V more has in
          let later : Grown new p = Grown-trans new middle p rights.grown (Grown-trans middle last p lefts.grown more) in
          let after_low : Grown placed p = Grown-trans placed new p grown later in
          let after_high : Grown between p = Grown-trans between placed p other.grown after_low in
          let high_wide : width_in p.widths high ≡ left.width =
          width_in-grown between p high after_high one.place.is_there ∙ one.place.width in
          let low_wide : width_in p.widths low ≡ right.width =
          width_in-grown placed p low after_low other.place.is_there ∙ other.place.width in
          let kept : width_in p.widths cell ≡ width_in before.widths cell =
          width_in-grown before p cell (Grown-trans before new p to_new later) (is_own-cell before cell own) in
          let wide : width_in p.widths cell ≡ width_in p.widths low + width_in p.widths high = omega arith in
          let n = held_in p both.W high * 2 ^ width_in p.widths low + held_in p both.W low in
          let small : n < 2 ^ width_in p.widths cell = joined-small p both.W cell high low wide in
          let none : 0 * 2 ^ left.width + value_in p V left ≡ value_in p V left = omega arith in
          record {
            W = with_held_in p cell n both.W;
            leads = Leads-on both.leads
                (Leads-at (length new.instructions) (length before.instructions) refl (ap length same)
                (Leads-pushed (instruction.Join high low cell) placed new p choice both.W made sound_new later both.leads.constants));
            value = held-with_small p.widths cell n both.W small
                ∙ ap (λ w. held_in p both.W high * 2 ^ w + held_in p both.W low) low_wide
                ∙ ap (λ k. k * 2 ^ right.width + held_in p both.W low) both.high_held
                ∙ ap (λ k. value_in p V left * 2 ^ right.width + k) both.low_held
                ∙ ap (λ k. k * 2 ^ right.width + value_in p V right) (sym none);
            keeps = λ c b h other. ap (λ f. f b) (with_held-other p.widths cell n both.W c other) ∙ both.keeps c b h;
          };
    }

-- the same as what a call leaves to be done
pub AwaitsPair-pushed : (before between placed new : Program) (left right : Typed) (cell high low : ℕ) → IsSound before
    → IsTrue (is_own before cell)
    → IsPlaced before between left high → IsPlaced between placed right low → width_in before.widths cell ≡ left.width + right.width
    → placed.instructions ≡ before.instructions → new ≡ with_instruction (instruction.Join high low cell) placed → IsSound new
    → Grown placed new
    → AwaitsPair before new left right cell high low
AwaitsPair-pushed before between placed new left right cell high low sound own one other sizes same made sound_new grown =
    let later : Grown between new = Grown-trans between placed new other.grown grown in
    record {
      grown = Grown-trans before between new one.grown later;
      left_place = IsPlaceFor-grown between new left high later one.place;
      right_place = IsPlaceFor-grown placed new right low grown other.place;
      serves = λ middle last.
          Joins-pair before between placed new middle last left right cell high low sound own one other sizes same made sound_new grown;
    }

-- a concatenation is one of its parts
pub Values-join : (old new : Program) (e : Typed) (parts : List Typed) (cell : ℕ) → e.node ≡ node.Join parts
    → Joins old new parts cell → Values old new e cell
Values-join old new e parts cell is joins = record {
  grown = joins.grown;
  leaves = λ p choice V grown has.
      let leaves = joins.leaves p choice V grown has in
      record {
        W = leaves.W;
        leads = leaves.leads;
        value = leaves.value
            ∙ sym (ap (node_value (signals_of p) (below (count_of p) V) e.width) is
            ∙ join-value (signals_of p) (below (count_of p) V) e.width parts);
        keeps = leaves.keeps;
        still = λ leaf. absurd (differ (sym leaf ∙ ap is_leaf is));
      };
}
  where
    differ : true ≡ false → ⊥
    differ same = absurd cc

-- the same as what a call leaves to be done
pub AwaitsPart-pushed : (before placed old new : Program) (part : Typed) (cell left high low : ℕ)
    → IsSound before → IsTrue (is_own before cell) → IsPlaced before placed part low → Grown placed old → length placed.widths ≤ high
    → IsTrue (is_own old high) → width_in old.widths high ≡ left → width_in before.widths cell ≡ left + part.width
    → old.instructions ≡ before.instructions → new ≡ with_instruction (instruction.Join high low cell) old → IsSound new → Grown old new
    → AwaitsPart before new part cell left high low
AwaitsPart-pushed before placed old new part cell left high low sound own at more past high_own high_width sizes same made
    sound_new grown_new = record {
      grown = Grown-trans before old new (Grown-trans before placed old at.grown more) grown_new;
      part_place = IsPlaceFor-grown placed new part low (Grown-trans placed old new more grown_new) at.place;
      high_own = is_own-grown old new high grown_new high_own;
      high_width = width_in-grown old new high grown_new (is_own-cell old high high_own) ∙ high_width;
      serves = λ parts middle last values joins.
          Joins-part before placed old new middle last parts part cell high low sound own at more past (is_own-cell old high high_own)
          (sizes ∙ ap (λ n. n + part.width) (sym high_width)) same made sound_new grown_new values joins;
    }

-- ---- the parts of one
parts_sum-last : (parts : List Typed) (part : Typed) → parts_sum (parts ++ part ∷ []) ≡ parts_sum parts + part.width
parts_sum-last [] part = omega arith
parts_sum-last (x ∷ parts) part = let rest = parts_sum-last parts part in omega arith

-- what is known of the part at a number, and of those to its left
pub record JoinStep (signals : List Signal) (parts : List Typed) (count : ℕ) (part : Typed) (left : ℕ) : Type 0 where
  pub split : take (count + 1) parts ≡ take count parts ++ part ∷ []
  pub sum : left ≡ parts_sum (take count parts) + part.width
  pub some : 1 ≤ parts_sum (take count parts)
  pub fits : IsTrue (typed_fits signals part)

some-width : (signals : List Signal) (parts : List Typed) (count : ℕ) → 0 < count → 0 < length parts
    → IsTrue (list_all (typed_fits signals) parts)
    → 1 ≤ parts_sum (take count parts)
some-width signals [] count h more fits = absurd (omega arith)
some-width signals (x ∷ parts) zero h more fits = absurd (omega arith)
some-width signals (x ∷ parts) (suc count) h more fits =
    let fit = list_all-member (typed_fits signals) (x ∷ parts) x fits (Contains-first x parts) in
    let wide : 1 ≤ x.width =
    leb-true 1 x.width (and_parts (nat_le 1 x.width) (nat_le x.width 128) (node-wide signals x.width x.signed x.node fit)).0 in
    omega arith

pub join-step : (signals : List Signal) (parts : List Typed) (count : ℕ) (part : Typed) (left : ℕ) → 0 < count → count < length parts
    → part ≡ get_or parts count part → IsTrue (list_all (typed_fits signals) parts) → parts_sum (take (count + 1) parts) ≡ left
    → JoinStep signals parts count part left
join-step signals parts count part left some within is fits sum =
    let split : take (count + 1) parts ≡ take count parts ++ part ∷ [] = take-at parts count part within is in
    record {
      split = split;
      sum = sym sum ∙ ap parts_sum split ∙ parts_sum-last (take count parts) part;
      some = some-width signals parts count some (omega arith) fits;
      fits = list_all-member (typed_fits signals) parts part fits (Contains-at parts count part (slice_get-at parts count part within is));
    }

-- what is known of the only part that is left
pub first-known : (signals : List Signal) (parts : List Typed) (part : Typed) → 0 < length parts → part ≡ get_or parts 0 part
    → IsTrue (list_all (typed_fits signals) parts) → (take (0 + 1) parts ≡ part ∷ []) × IsTrue (typed_fits signals part)
first-known signals parts part some is fits = (
  take-at parts 0 part some is,
  list_all-member (typed_fits signals) parts part fits (Contains-at parts 0 part (slice_get-at parts 0 part some is)),
)

-- what is known of the only two parts that are left
pub pair-known : (signals : List Signal) (parts : List Typed) (left right : Typed) (width : ℕ) → 1 < length parts
    → left ≡ get_or parts 0 left
    → right ≡ get_or parts 1 right → IsTrue (list_all (typed_fits signals) parts) → parts_sum (take 2 parts) ≡ width
    → (take 2 parts ≡ left ∷ right ∷ []) × (width ≡ left.width + right.width) × IsTrue (typed_fits signals left) × IsTrue
    (typed_fits signals right)
pair-known signals parts left right width more one other fits sum =
    let first = first-known signals parts left (omega arith) one fits in
    let step = join-step signals parts 1 right width (omega arith) more other fits sum in
    let split : take 2 parts ≡ left ∷ right ∷ [] = step.split ∙ ap (λ xs. xs ++ right ∷ []) first.0 in
    (split, sym sum ∙ ap parts_sum split ∙ omega arith, first.1, step.fits)

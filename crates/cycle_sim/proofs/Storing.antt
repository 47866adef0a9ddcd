-- Left sides that were pushed, alone and behind the clearing of bits.
use Rattle.std.proofs.Common.{◌≡◌, ℕ, ◌+◌, ◌<◌, ◌≤◌, ◌^◌, List, length, arith, sym, refl, ◌∙◌, ap, subst, inl, inr}
use Rattle.std.specs.Prelude.{Bool, true, false, ◌&&◌, IsTrue, slice_get, Option, Some, None}
use Rattle.std.specs.Option.{option_map_or}
use Rattle.std.specs.List.{list_all, list_any}
use Rattle.std.proofs.Math.Nat.{mod-eq_of_lt}
use Rattle.std.proofs.Math.Path.{fun_ext}
use Rattle.std.proofs.lemmas.Bool.{cases_Bool, eq-eqb, le-ltb, ltb-true}
use Rattle.design_core.specs.declared.signal.Signal.{Signal}
use Rattle.design_core.specs.declared.design.Design.{Design}
use Rattle.design_core.specs.declared.expression.Typed.{Typed}
use Rattle.design_core.specs.declared.statement.Part.{Part}
use Rattle.design_core.specs.Constant.{zeros}
use Rattle.design_core.specs.Valuation.{Valuation, bit, number, width_at}
use Rattle.design_core.specs.Store.{store}
use Rattle.design_core.specs.After.{Choice, Updates, assigned, after_set}
use Rattle.design_core.specs.Cycle.{cont_assigned}
use Rattle.design_core.specs.Drives.{part_drives}
use Rattle.design_core.specs.WellFormed.{part_fits}
use Rattle.design_core.proofs.NumberLaws.{number-below}
use Rattle.design_core.proofs.StoreOutside.{store-outside}
use Rattle.plain_sim.specs.EvaluateCycle.{blended}
use Rattle.plain_sim.proofs.EvaluateSamples.{width-signal}
use Rattle.cycle_code.specs.declared.instruction.Instruction.{Instruction}
use Rattle.cycle_code.specs.declared.instruction.Instruction.TheVariants as instruction
use Rattle.cycle_code.specs.Program.{Program, count_of, signals_of, Grown, with_cell, with_instruction, with_target}
use Rattle.cycle_code.specs.Cells.{width_in, below, updates_in, with_updates}
use Rattle.cycle_code.specs.Effects.{held_in, with_assigned, effect, next}
use Rattle.cycle_code.specs.Fitting.{is_cell, is_own, fits, IsSound}
use Rattle.cycle_code.proofs.CellLaws.{with_updates-past}
use Rattle.cycle_code.proofs.GrowthLaws.{both, is_cell-grown, is_own-cell, is_own-grown, is_own-past, width_in-grown, Grown-refl, Grown-trans, last-stands}
use Rattle.cycle_compile.specs.Compiling.{is_leaf, IsPlaceFor, Values}
use Rattle.cycle_compile.proofs.Assigning.{IsBelow, updates_in-with_updates}
use Rattle.cycle_compile.proofs.Leading.{count-grown, widths-grown}
use Rattle.cycle_compile.proofs.Placing.{new-own}
use Rattle.cycle_sim.specs.declared.mask.Mask.{Mask}
use Rattle.cycle_sim.specs.Masks.{covers}
use Rattle.cycle_sim.specs.Compiled.{now_in, Turned, Pushes, none, cleared_now, stored_now, parts_now}
use Rattle.cycle_sim.proofs.Assigned.{Pushes-earlier, Pushes-computed}
use Rattle.cycle_sim.proofs.Clearing.{Pushes-own}
use Rattle.cycle_sim.proofs.DrivesBelow.{parts-below}
use Rattle.cycle_sim.proofs.Pushing.{Pushes-on, Pushes-one}

-- ---- what is stored
-- a left side that fits drives no bit past the signals
none-past : (signals : List Signal) (s b : ℕ) (parts : List Part) → list_all (part_fits signals) parts ≡ true
    → length signals ≤ s → list_any (part_drives signals s b) parts ≡ false
none-past signals s b parts fits past = elim (cases_Bool (list_any (part_drives signals s b) parts)) [
  | inl drives ↦
      let low : b < width_at signals s = parts-below signals s b parts fits drives in
      absurd (omega (arith, past, width-signal signals s (omega (arith, low))))
  | inr off ↦ off
]

-- no word that is read stands there
below-past : (count : ℕ) (V : Valuation) → IsBelow count (below count V)
below-past count V s b past = ap (λ t. t && V s b) (le-ltb s count past)

-- and none after it was stored
store-past : (signals : List Signal) (V : Valuation) (parts : List Part) (bits : ℕ → Bool) → list_all (part_fits signals) parts ≡ true
    → IsBelow (length signals) (store signals (below (length signals) V) (below (length signals) V) parts bits)
store-past signals V parts bits fits s b past =
    let N : Valuation = below (length signals) V in
    store-outside signals N N parts bits s b fits (none-past signals s b parts fits past) ∙ below-past (length signals) V s b past

-- a number assigned to a left side in the words that are read
Turned-stored : (p : Program) (parts : List Part) (n count : ℕ) (V : Valuation) → IsTrue (list_all (part_fits (signals_of p)) parts)
    → Turned p count (store (signals_of p) (now_in p V) (now_in p V) parts (bit n)) none V (with_assigned p parts n false V)
Turned-stored p parts n count V fits =
    let m : Updates = after_set (signals_of p) parts (bit n) false (updates_in (count_of p) V) in
    let later = below-past (count_of p) (λ k. V (count_of p + k)) in
    let left : updates_in (count_of p) (with_updates (count_of p) m V) ≡ m =
    updates_in-with_updates (count_of p) m V (store-past (signals_of p) V parts (bit n) fits) later in
    record {
      now = ap (λ (u : Updates). u.now) left;
      later = λ s b off. ap (λ (u : Updates). u.later s b) left;
      keeps = λ cell b from to. ap (λ f. f b) (with_updates-past (count_of p) m V cell from);
    }

-- ---- its instruction
-- an instruction of a left side that was pushed before it
Pushes-stored : (i : Instruction) (old mid new : Program) (parts : List Part) (place : Option ℕ) (cell : ℕ)
    → mid.instructions ≡ old.instructions → new ≡ with_instruction i mid → IsSound new → Grown old mid → Grown mid new
    → IsTrue (list_all (part_fits (signals_of old)) parts)
    → ((p : Program) (q : ℕ) (V : Valuation) → next p i q V ≡ q)
    → ((p : Program) (choice : Choice) (V : Valuation) → Grown mid p
    → effect p choice i V ≡ with_assigned p parts (cont_assigned choice place (held_in p V cell)) false V)
    → Pushes old new (stored_now parts place cell) none
Pushes-stored i old mid new parts place cell same made fine placed grown fits on leaves =
    Pushes-earlier old mid new (stored_now parts place cell) none placed same
    (Pushes-one i mid new (stored_now parts place cell) made fine grown on (λ p choice V more has.
    let from : Grown mid p = Grown-trans mid new p grown more in
    let design : p.design ≡ old.design = (Grown-trans old mid p placed from).design in
    let here = ap (λ (d : Design). list_all (part_fits d.signals.items) parts) design ∙ fits in
    subst (Turned p (length mid.widths) (stored_now parts place cell p choice V) none V) (sym (leaves p choice V from))
    (Turned-stored p parts (cont_assigned choice place (held_in p V cell)) (length mid.widths) V here)))

-- a left side that was pushed is there
target-there : (old mid p : Program) (target : ℕ) (parts : List Part) → target ≡ length old.targets
    → mid ≡ with_target parts old → Grown mid p → slice_get p.targets target ≡ Some parts
target-there old mid p target parts at made grown =
    grown.targets target parts
    (ap (λ (q : Program). slice_get q.targets target) made
    ∙ ap (slice_get (with_target parts old).targets) at
    ∙ last-stands old.targets parts)

-- what a place assigns
pub Pushes-assign : (old mid new : Program) (target place cell : ℕ) (parts : List Part) → target ≡ length old.targets
    → mid ≡ with_target parts old → Grown old mid
    → new ≡ with_instruction (instruction.Assign target place cell false) mid → IsSound new → Grown mid new
    → IsTrue (list_all (part_fits (signals_of old)) parts) → Pushes old new (stored_now parts (Some place) cell) none
Pushes-assign old mid new target place cell parts at there placed made fine grown fits =
    let same = ap (λ (q : Program). q.instructions) there in
    Pushes-stored (instruction.Assign target place cell false) old mid new parts (Some place) cell same made fine placed grown fits
    (λ p q V. refl) (λ p choice V more.
    ap (λ o. option_map_or (λ ps. with_assigned p ps (assigned choice place (held_in p V cell)) false V) o V)
    (target-there old mid p target parts at there more))

-- and where there is no place
pub Pushes-store : (old mid new : Program) (target cell : ℕ) (parts : List Part) → target ≡ length old.targets
    → mid ≡ with_target parts old → Grown old mid
    → new ≡ with_instruction (instruction.Store target cell false) mid → IsSound new → Grown mid new
    → IsTrue (list_all (part_fits (signals_of old)) parts) → Pushes old new (stored_now parts None cell) none
Pushes-store old mid new target cell parts at there placed made fine grown fits =
    let same = ap (λ (q : Program). q.instructions) there in
    Pushes-stored (instruction.Store target cell false) old mid new parts None cell same made fine placed grown fits
    (λ p q V. refl) (λ p choice V more.
    ap (λ o. option_map_or (λ ps. with_assigned p ps (held_in p V cell) false V) o V) (target-there old mid p target parts at there more))

-- that instruction fits
pub store-fits : (old mid : Program) (q target cell : ℕ) (parts : List Part) → target ≡ length old.targets
    → mid ≡ with_target parts old → Grown old mid → IsTrue (is_cell old cell) → IsTrue (list_all (part_fits (signals_of old)) parts)
    → IsTrue (fits mid q (instruction.Store target cell false))
store-fits old mid q target cell parts at there grown is_one fit =
    let found = target-there old mid mid target parts at there (Grown-refl mid) in
    both (is_cell-grown old mid cell grown is_one)
    (ap (λ o. option_map_or (list_all (part_fits (signals_of mid))) o false) found
    ∙ ap (λ (d : Design). list_all (part_fits d.signals.items) parts) grown.design
    ∙ fit)

-- ---- behind the clearing of bits
-- words in which a left side takes what is assigned for a number
abbrev stored_over : Program → Choice → List Part → Option ℕ → Valuation → ℕ → Valuation
stored_over p choice parts place N n = store (signals_of p) N N parts (bit (cont_assigned choice place n))

-- the words where it does, the bits of some masks being put at 0 first
abbrev refilled : List Mask → List Part → Option ℕ → ℕ → Program → Choice → Valuation → Valuation
refilled masks parts place cell p choice V = stored_over p choice parts place (cleared_now masks p choice V) (held_in p V cell)

-- the word of a cell of the code's own, which no clearing changes
Pushes-refilled : (old stored cleared : Program) (masks : List Mask) (parts : List Part) (place : Option ℕ) (word : ℕ)
    → IsTrue (is_own old word) → Pushes old stored (stored_now parts place word) none → Pushes stored cleared (cleared_now masks) none
    → Pushes old cleared (refilled masks parts place word) none
Pushes-refilled old stored cleared masks parts place word own lower upper =
    Pushes-on old stored cleared (cleared_now masks) (stored_now parts place word) (refilled masks parts place word) none none
    none lower upper
    (λ p choice V W grown turned.
    let from : Grown old p = Grown-trans old stored p lower.grown (Grown-trans stored cleared p upper.grown grown) in
    let same : count_of p ≡ count_of old = count-grown old p from in
    let past : count_of old + count_of old + count_of old ≤ word = is_own-past old word own in
    let within : word < length old.widths = ltb-true word (length old.widths) (is_own-cell old word own) in
    let more : length old.widths ≤ length stored.widths = widths-grown old stored lower.grown in
    let kept : W word ≡ V word = fun_ext (λ b. turned.keeps word b (omega (arith, same, past)) (omega (arith, within, more))) in
    ap (λ N. stored_over p choice parts place N (held_in p W word)) turned.now
    ∙ ap (λ f. stored_over p choice parts place (cleared_now masks p choice V) (number (width_in p.widths word) f)) kept)
    (λ s b off. (refl, refl))

-- a cell of the code's own that takes the word of another one of its width
pub record IsCopy (p : Program) (cell word : ℕ) : Type 0 where
  pub own : IsTrue (is_own p word)
  pub there : IsTrue (is_cell p cell)
  pub width : width_in p.widths cell ≡ width_in p.widths word

pub IsCopy-grown : (p q : Program) (cell word : ℕ) → Grown p q → IsCopy p cell word → IsCopy q cell word
IsCopy-grown p q cell word grown copy = record {
  own = is_own-grown p q word grown copy.own;
  there = is_cell-grown p q cell grown copy.there;
  width =
      width_in-grown p q cell grown copy.there
      ∙ copy.width
      ∙ sym (width_in-grown p q word grown (is_own-cell p word copy.own));
}

-- one that was made for the value of an expression
pub is-copy : (placed worded : Program) (e : Typed) (cell word : ℕ) → IsSound placed → IsPlaceFor placed e cell
    → word ≡ length placed.widths → worded ≡ with_cell false e.width 0 placed → Grown placed worded → IsCopy worded cell word
is-copy placed worded e cell word sound place at made grown =
    let own = new-own placed worded e.width word sound made at in
    record {
      own = own.0;
      there = is_cell-grown placed worded cell grown place.is_there;
      width = width_in-grown placed worded cell grown place.is_there ∙ place.width ∙ sym own.1;
    }

-- the instruction that moves the word fits
pub move-fits : (p : Program) (q cell word : ℕ) → IsCopy p cell word → IsTrue (fits p q (instruction.Move cell word))
move-fits p q cell word copy =
    both (both copy.own copy.there) (eq-eqb (width_in p.widths cell) (width_in p.widths word) copy.width)

-- the word that is moved is kept while the bits are put at 0
Pushes-moved : (before cleared moved : Program) (masks : List Mask) (parts : List Part) (place : Option ℕ) (cell word : ℕ)
    → IsSound before → length before.widths ≤ word → IsCopy cleared cell word → Pushes before cleared (refilled masks parts place word) none
    → moved ≡ with_instruction (instruction.Move cell word) cleared → IsSound moved → Grown cleared moved
    → Pushes before moved (refilled masks parts place cell) none
Pushes-moved before cleared moved masks parts place cell word sound past copy lower made fine grown =
    Pushes-own (instruction.Move cell word) before cleared moved word (λ p V. held_in p V cell) (refilled masks parts place word)
    (refilled masks parts place cell) sound past made fine grown lower (λ p q V. refl) (λ p choice V. refl)
    (λ p choice V W more has now held.
    let copy' = IsCopy-grown cleared p cell word (Grown-trans cleared moved p grown more) copy in
    let small : held_in p V cell < 2 ^ width_in p.widths word =
    subst (λ w. held_in p V cell < 2 ^ w) copy'.width (number-below (width_in p.widths cell) (V cell)) in
    ap (λ N. stored_over p choice parts place (blended (covers masks) zeros N) (held_in p W word)) now
    ∙ ap (stored_over p choice parts place (cleared_now masks p choice V)) (held ∙ mod-eq_of_lt small))

-- an assignment to any left side: its value was computed, moved, and stored where the bits were put at 0
pub Pushes-parts : (old placed worded stored cleared moved new : Program) (masks : List Mask) (parts : List Part) (place : Option ℕ)
    (e : Typed) (cell word : ℕ) → IsSound old → IsSound placed → Grown old placed → placed.instructions ≡ old.instructions
    → (is_leaf e.node ≡ false → length old.widths ≤ cell) → IsPlaceFor placed e cell
    → word ≡ length placed.widths → worded ≡ with_cell false e.width 0 placed → Grown placed worded
    → Pushes worded stored (stored_now parts place word) none → Pushes stored cleared (cleared_now masks) none
    → moved ≡ with_instruction (instruction.Move cell word) cleared → IsSound moved → Grown cleared moved
    → Values moved new e cell → Pushes old new (parts_now masks parts place e) none
Pushes-parts old placed worded stored cleared moved new masks parts place e cell word sound placed_sound more same fresh holds
    at made wider lower upper is fine grown values =
    let copy = is-copy placed worded e cell word placed_sound holds at made wider in
    let copy' = IsCopy-grown worded cleared cell word (Grown-trans worded stored cleared lower.grown upper.grown) copy in
    let refills = Pushes-refilled worded stored cleared masks parts place word copy.own lower upper in
    let behind = Pushes-earlier placed worded cleared (refilled masks parts place word) none wider
    (ap (λ (q : Program). q.instructions) made) refills in
    let moves = Pushes-moved placed cleared moved masks parts place cell word placed_sound (omega (arith, at)) copy' behind is fine grown in
    Pushes-computed old moved new e cell (refilled masks parts place cell) (parts_now masks parts place e) sound fresh
    (Pushes-earlier old placed moved (refilled masks parts place cell) none more same moves) values (λ p choice V W now held.
    ap (λ N. stored_over p choice parts place (blended (covers masks) zeros N) (held_in p W cell)) now
    ∙ ap (stored_over p choice parts place (cleared_now masks p choice V)) held)

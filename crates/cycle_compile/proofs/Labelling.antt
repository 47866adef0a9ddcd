-- Tests of the labels of case items.
use Rattle.std.proofs.Common.{◌≡◌, ◌≢◌, ℕ, suc, ◌+◌, ◌-◌, ◌<◌, ◌≤◌, List, [], ◌∷◌, length, drop, get_or, arith, sym, refl, ◌∙◌, ap, subst}
use Rattle.std.specs.Int.Bits.{or_zero_r}
use Rattle.std.specs.Prelude.{Bool, true, false, not, ◌&&◌, ◌||◌, ◌==◌, bit_or, if◌then◌else◌, IsTrue, slice_get, Some}
use Rattle.std.specs.Option.{option_map_or}
use Rattle.std.proofs.Math.Seq.{drop-cons}
use Rattle.std.proofs.lemmas.List.{length-append}
use Rattle.std.proofs.lemmas.Bool.{and_parts, ne_eqb, le-leb, lt-ltb, eq-eqb, eqb-true}
use Rattle.loc_base.specs.Bits.{width_of, value_of}
use Rattle.design_core.specs.declared.statement.Label.{Label}
use Rattle.design_core.specs.declared.statement.CaseItem.{CaseItem}
use Rattle.design_core.specs.declared.place.Place.{Place}
use Rattle.design_core.specs.declared.signal.Signal.{Signal}
use Rattle.design_core.specs.declared.design.Design.{Design}
use Rattle.design_core.specs.WellFormed.{typed_fits, label_fits, statement_fits}
use Rattle.design_core.specs.Valuation.{Valuation}
use Rattle.std.specs.List.{list_any, list_all}
use Rattle.loc_base.proofs.ShelfBools.{or-true}
use Rattle.design_core.specs.After.{Choice, matches}
use Rattle.plain_values.specs.Evaluate.{item_fits}
use Rattle.cycle_code.specs.declared.instruction.Instruction.TheVariants.{JumpUnlike, JumpNoMatch}
use Rattle.cycle_code.specs.Program.{Program, Grown, signals_of, count_of, with_instruction, with_cell}
use Rattle.cycle_code.specs.Cells.{width_in, below, HasConstants}
use Rattle.cycle_code.specs.Effects.{held_in, jumped}
use Rattle.cycle_code.specs.Fitting.{is_cell, fits, IsSound}
use Rattle.cycle_code.proofs.RunSteps.{jumped-at}
use Rattle.cycle_code.proofs.GrowthLaws.{Grown-refl, Grown-trans, both, of_three, is_cell-grown, width_in-grown, last-stands}
use Rattle.cycle_compile.specs.Compiling.{is_leaf, Leads, Keeps, Values}
use Rattle.cycle_compile.specs.Carrying.{Jumps, Passes, Tests, equal_outside, label_equal, some_equal, label_suits, item_suits, has_wild}
use Rattle.cycle_compile.proofs.Leading.{Leads-none, Leads-on, Leads-pushed, widths-grown, Keeps-fewer, held-kept, below-kept, Keeps-placed}
use Rattle.cycle_compile.proofs.Jumping.{more-instructions}
use Rattle.cycle_compile.proofs.Carrying.{signals-within}

-- ---- one instruction
-- a jump where a test fails leads as one where it passes
flipped : (t : Bool) (q miss : ℕ) → (if not t then miss else q) ≡ (if t then q else miss)
flipped true q miss = refl
flipped false q miss = refl

-- a jump where two cells differ
pub unlike-tests : (old new : Program) (subject cell wild miss : ℕ) → wild ≡ 0 → miss ≤ length old.instructions
    → new ≡ with_instruction (JumpUnlike subject cell miss) old → IsSound new → Grown old new
    → Tests old new (length new.instructions) (equal_outside wild subject cell) (length old.instructions) miss
unlike-tests old new subject cell wild miss none h is sound grown = record {
  grown = grown;
  within = omega arith;
  goes = λ p choice V more has.
      let q : ℕ = length old.instructions in
      let left : ℕ = held_in p V subject in
      let right : ℕ = held_in p V cell in
      let same : (left == right) ≡ (bit_or left wild == bit_or right wild) =
      ap (λ n. n == right) (sym (or_zero_r left)) ∙ ap (λ n. bit_or left 0 == n) (sym (or_zero_r right))
      ∙ ap (λ w. bit_or left w == bit_or right w) (sym none) in
      let there : jumped q miss (not (left == right)) ≡ (if bit_or left wild == bit_or right wild then q else miss) =
      jumped-at q miss (not (left == right)) h ∙ flipped (left == right) q miss ∙ ap (λ t. if t then q else miss) same in
      record {
        W = V;
        leads = subst (λ n. Leads p choice (length new.instructions) V n V) there
            (Leads-pushed (JumpUnlike subject cell miss) old new p choice V is sound more has);
        keeps = λ c b within. refl;
      };
}

-- a jump where two cells differ outside the bits of a constant
pub no_match-tests : (old mid new : Program) (subject cell place width wild miss : ℕ) → IsSound old → place ≡ length old.widths
    → mid ≡ with_cell true width wild old → Grown old mid → miss ≤ length old.instructions
    → new ≡ with_instruction (JumpNoMatch subject cell place miss) mid → IsSound new → Grown mid new
    → Tests old new (length new.instructions) (equal_outside wild subject cell) (length old.instructions) miss
no_match-tests old mid new subject cell place width wild miss first at there placed h is sound grown = record {
  grown = Grown-trans old mid new placed grown;
  within = omega arith;
  goes = λ p choice V more has.
      let q : ℕ = length mid.instructions in
      let size : q ≡ length old.instructions = ap (λ (x : Program). length x.instructions) there in
      let from : Grown mid p = Grown-trans mid new p grown more in
      let left : ℕ = held_in p V subject in
      let right : ℕ = held_in p V cell in
      let word : held_in p V place ≡ wild =
      has.constants place wild (from.fixed place true fixed-there) (from.values place wild value-there) in
      let there' : jumped q miss (not (bit_or left (held_in p V place) == bit_or right (held_in p V place)))
      ≡ (if bit_or left wild == bit_or right wild then length old.instructions else miss) =
      jumped-at q miss (not (bit_or left (held_in p V place) == bit_or right (held_in p V place))) (omega (arith, h, size))
      ∙ flipped (bit_or left (held_in p V place) == bit_or right (held_in p V place)) q miss
      ∙ ap (λ w. if bit_or left w == bit_or right w then q else miss) word
      ∙ ap (λ k. if bit_or left wild == bit_or right wild then k else miss) size in
      record {
        W = V;
        leads = subst (λ n. Leads p choice (length new.instructions) V n V) there'
            (Leads-pushed (JumpNoMatch subject cell place miss) mid new p choice V is sound more has);
        keeps = λ c b within. refl;
      };
}
  where
    fixed-there : slice_get mid.fixed place ≡ Some true
    fixed-there =
        ap (λ (x : Program). slice_get x.fixed place) there
        ∙ ap (slice_get (with_cell true width wild old).fixed) (at ∙ sym first.fixed)
        ∙ last-stands old.fixed true

    value-there : slice_get mid.values place ≡ Some wild
    value-there =
        ap (λ (x : Program). slice_get x.values place) there
        ∙ ap (slice_get (with_cell true width wild old).values) (at ∙ sym first.values)
        ∙ last-stands old.values wild

-- ---- a label
pub label-tests : (old p0 p1 p2 new : Program) (subject cell : ℕ) (label : Label) (hit miss : ℕ) → IsSound old → subject < length old.widths
    → Grown old p0 → (is_leaf label.value.node ≡ false → length old.widths ≤ cell) → Jumps p0 p1 hit
    → Tests p1 p2 (length p2.instructions) (equal_outside (value_of label.wild) subject cell) (length p1.instructions) miss
    → Values p2 new label.value cell → Tests old new (length new.instructions) (label_equal subject label) hit miss
label-tests old p0 p1 p2 new subject cell label hit miss sound within placed fresh jumps tests values = record {
  grown = Grown-trans old p2 new first values.grown;
  within = omega arith;
  goes = λ p choice V grown has.
      let from2 : Grown p2 p = Grown-trans p2 new p values.grown grown in
      let from1 : Grown p1 p = Grown-trans p1 p2 p tests.grown from2 in
      let one = values.leaves p choice V grown has in
      let keeps = Keeps-placed old first fresh one in
      let held = held-kept p.widths (length old.widths) V one.W subject within keeps in
      let goes = tests.goes p choice one.W from2 one.leads.constants in
      let same : equal_outside (value_of label.wild) subject cell p one.W ≡ label_equal subject label p V =
      ap (λ n. bit_or n (value_of label.wild) == bit_or (held_in p one.W cell) (value_of label.wild)) held
      ∙ ap (λ n. bit_or (held_in p V subject) (value_of label.wild) == bit_or n (value_of label.wild)) one.value in
      let leads = by p choice goes.W from1 goes.leads.constants (equal_outside (value_of label.wild) subject cell p one.W)
      (Leads-on one.leads goes.leads) in
      let less : length old.widths ≤ length p1.widths = widths-grown old p1 (Grown-trans old p0 p1 placed jumps.grown) in
      record {
        W = goes.W;
        leads = subst (λ (t : Bool). Leads p choice (length new.instructions) V (if t then hit else miss) goes.W) same leads;
        keeps = λ c b h. goes.keeps c b (omega (arith, h, less)) ∙ keeps c b h;
      };
}
  where
    first : Grown old p2
    first = Grown-trans old p1 p2 (Grown-trans old p0 p1 placed jumps.grown) tests.grown

    by : (p : Program) (choice : Choice) {V : Valuation} (W : Valuation) → Grown p1 p → HasConstants p W → (t : Bool)
        → Leads p choice (length new.instructions) V (if t then length p1.instructions else miss) W
        → Leads p choice (length new.instructions) V (if t then hit else miss) W
    by p choice W from has true leads = Leads-on leads (jumps.goes p choice W from has)
    by p choice W from has false leads = leads

-- ---- labels
pub labels-none : (old : Program) (subject hit miss : ℕ) → miss ≤ length old.instructions
    → Tests old old miss (some_equal subject []) hit miss
labels-none old subject hit miss h = record {
  grown = Grown-refl old;
  within = h;
  goes = λ p choice V grown has. record { W = V; leads = Leads-none miss has; keeps = λ c b within. refl };
}

pub labels-more : (old mid new : Program) (at subject : ℕ) (label : Label) (rest : List Label) (hit miss : ℕ) → subject < length old.widths
    → IsSound old → Tests old mid at (some_equal subject rest) hit miss
    → Tests mid new (length new.instructions) (label_equal subject label) hit at
    → Tests old new (length new.instructions) (some_equal subject (label ∷ rest)) hit miss
labels-more old mid new at subject label rest hit miss within sound tests one = record {
  grown = Grown-trans old mid new tests.grown one.grown;
  within = omega arith;
  goes = λ p choice V grown has.
      let goes = one.goes p choice V grown has in
      by p choice V grown goes.W goes.keeps (label_equal subject label p V) goes.leads;
}
  where
    less : length old.widths ≤ length mid.widths
    less = widths-grown old mid tests.grown

    by : (p : Program) (choice : Choice) (V : Valuation) → Grown new p → (W : Valuation) → Keeps (length mid.widths) V W → (t : Bool)
        → Leads p choice (length new.instructions) V (if t then hit else at) W
        → Passes p choice (length new.instructions) (if t || some_equal subject rest p V then hit else miss) (length old.widths) V
    by p choice V grown W keeps true leads =
        let few = less in
        record { W = W; leads = leads; keeps = λ c b h. keeps c b (omega (arith, h, few)) }
    by p choice V grown W keeps false leads =
        let few = less in
        let from : Grown mid p = Grown-trans mid new p one.grown grown in
        let next = tests.goes p choice W from leads.constants in
        let kept = Keeps-fewer (length old.widths) (length mid.widths) V W few keeps in
        let words = below-kept (count_of p) (length old.widths) V W (less-signals p (Grown-trans old mid p tests.grown from)) kept in
        let held = held-kept p.widths (length old.widths) V W subject within kept in
        let same : some_equal subject rest p W ≡ some_equal subject rest p V =
        ap (λ U. list_any (matches (signals_of p) U (held_in p W subject)) rest) words
        ∙ ap (λ n. list_any (matches (signals_of p) (below (count_of p) V) n) rest) held in
        record {
          W = next.W;
          leads = Leads-on leads (subst (λ (t : Bool). Leads p choice at W (if t then hit else miss) next.W) same next.leads);
          keeps = λ c b h. next.keeps c b h ∙ kept c b h;
        }
      where
        less-signals : (p : Program) → Grown old p → count_of p ≤ length old.widths
        less-signals p grown = let most = signals-within old p sound grown in omega (arith, most)

pub labels-end : (old mid new : Program) (at subject : ℕ) (labels : List Label) (hit miss : ℕ)
    → Tests old mid at (some_equal subject labels) hit miss
    → Jumps mid new at → Tests old new (length new.instructions) (some_equal subject labels) hit miss
labels-end old mid new at subject labels hit miss tests jumps = record {
  grown = Grown-trans old mid new tests.grown jumps.grown;
  within = omega arith;
  goes = λ p choice V grown has.
      let from : Grown mid p = Grown-trans mid new p jumps.grown grown in
      let goes = tests.goes p choice V from has in
      record { W = goes.W; leads = Leads-on (jumps.goes p choice V grown has) goes.leads; keeps = goes.keeps };
}

-- ---- what fits
-- the instruction of a jump to a label's miss fits
pub no_match-fits : (old mid : Program) (subject cell place width wild miss : ℕ) → place ≡ length old.widths
    → mid ≡ with_cell true width wild old → Grown old mid
    → miss ≤ length old.instructions → IsTrue (is_cell old subject) → IsTrue (is_cell old cell)
    → width_in old.widths cell ≡ width_in old.widths subject
    → width ≡ width_in old.widths subject → IsTrue (fits mid (length mid.instructions) (JumpNoMatch subject cell place miss))
no_match-fits old mid subject cell place width wild miss at there grown low one other same wide =
    let more = more-instructions old mid grown in
    let size : length mid.widths ≡ length old.widths + 1 =
    ap (λ (x : Program). length x.widths) there ∙ length-append old.widths (width ∷ []) in
    let entry : slice_get mid.widths place ≡ Some width =
    ap (λ (x : Program). slice_get x.widths place) there ∙ ap (slice_get (with_cell true width wild old).widths)
    at ∙ last-stands old.widths width in
    let subject_width : width_in mid.widths subject ≡ width_in old.widths subject = width_in-grown old mid subject grown one in
    both
    (both
    (both
    (both (both (le-leb miss (length mid.instructions) (omega (arith, low, more))) (is_cell-grown old mid subject grown one))
    (is_cell-grown old mid cell grown other))
    (lt-ltb place (length mid.widths) (omega (arith, at, size))))
    (eq-eqb (width_in mid.widths cell) (width_in mid.widths subject) (width_in-grown old mid cell grown other ∙ same ∙ sym subject_width)))
    (eq-eqb (width_in mid.widths place) (width_in mid.widths subject)
    (ap (λ o. option_map_or (λ w. w) o 0) entry ∙ wide ∙ sym subject_width))

-- the widths of a label that has wild bits
pub label-widths : (signals : List Signal) (width : ℕ) (label : Label) → IsTrue (label_suits signals width label) → value_of label.wild ≢ 0
    → (label.value.width ≡ width) × (width_of label.wild ≡ width)
label-widths signals width label suits wild =
    let same : Bool = label.value.width == width && width_of label.wild == width in
    let t = and_parts (typed_fits signals label.value) (value_of label.wild == 0 || same) suits in
    let u = and_parts (label.value.width == width) (width_of label.wild == width)
    (ap (λ b. b || same) (sym (ne_eqb (value_of label.wild) 0 wild)) ∙ t.1) in
    (eqb-true label.value.width width u.0, eqb-true (width_of label.wild) width u.1)

-- labels that can be compared with a cell go on to be
pub label-suits-grown : (old mid : Program) (subject : ℕ) (label : Label) → Grown old mid → IsTrue (is_cell old subject)
    → IsTrue (label_suits (signals_of old) (width_in old.widths subject) label)
    → IsTrue (label_suits (signals_of mid) (width_in mid.widths subject) label)
label-suits-grown old mid subject label grown one suits =
    ap (λ (d : Design). label_suits d.signals.items (width_in mid.widths subject) label) grown.design
    ∙ ap (λ w. label_suits (signals_of old) w label) (width_in-grown old mid subject grown one)
    ∙ suits

-- ---- what a subject's labels can be compared with
-- what passes one test passes another one, where a fact that follows from a mark is known of the marked
all-where : {X : Type 0} (mark test want : X → Bool) (P : Type 0) → ((x : X) → (mark x ≡ true → P) → IsTrue (test x) → IsTrue (want x))
    → (xs : List X) → (list_any mark xs ≡ true → P) → IsTrue (list_all test xs) → IsTrue (list_all want xs)
all-where mark test want P each [] known all = refl
all-where mark test want P each (x ∷ xs) known all =
    let t = and_parts (test x) (list_all test xs) all in
    both (each x (λ h. known (ap (λ b. b || list_any mark xs) h)) t.0)
    (all-where mark test want P each xs (λ h. known (ap (λ b. mark x || b) h ∙ or-true (mark x))) t.1)

label-suits : (signals : List Signal) (width other : ℕ) (label : Label) → (not (value_of label.wild == 0) ≡ true → other ≡ width)
    → IsTrue (label_fits signals width label) → IsTrue (label_suits signals other label)
label-suits signals width other label same fits =
    let t = of_three (typed_fits signals label.value) (label.value.width == width) (width_of label.wild == width) fits in
    both t.0 (by (value_of label.wild == 0) refl (both t.1 t.2))
  where
    by : (b : Bool) → (value_of label.wild == 0) ≡ b → IsTrue (label.value.width == width && width_of label.wild == width)
        → IsTrue (b || label.value.width == other && width_of label.wild == other)
    by true e wide = refl
    by false e wide = subst (λ n. IsTrue (label.value.width == n && width_of label.wild == n)) (sym (same (ap not e))) wide

pub items-suit : (signals : List Signal) (places : List Place) (width other : ℕ) (items : List CaseItem)
    → (list_any has_wild items ≡ true → other ≡ width)
    → IsTrue (list_all (item_fits signals places width) items) → IsTrue (list_all (item_suits signals places other) items)
items-suit signals places width other =
    all-where has_wild (item_fits signals places width) (item_suits signals places other) (other ≡ width) (λ item same fits.
    let t = and_parts (list_all (label_fits signals width) item.labels) (statement_fits signals places item.body) fits in
    both (all-where (λ label. not (value_of label.wild == 0)) (label_fits signals width) (label_suits signals other) (other ≡ width)
    (label-suits signals width other) item.labels same t.0) t.1)

-- one entry more of a list that is gone through from its end
pub drop-back : {X : Type 0} (xs : List X) (i : ℕ) (x : X) → 0 < i → i ≤ length xs → x ≡ get_or xs (i - 1) x
    → drop (i - 1) xs ≡ x ∷ drop i xs
drop-back xs i x high within is =
    let next : suc (i - 1) ≡ i = omega (arith, high) in
    drop-cons xs (i - 1) x (omega (arith, high, within)) ∙ ap (λ k. get_or xs (i - 1) x ∷ drop k xs) next ∙ ap (λ y. y ∷ drop i xs) (sym is)

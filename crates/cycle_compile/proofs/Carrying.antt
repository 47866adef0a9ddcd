-- What pieces of a statement leave, joined.
use Rattle.std.proofs.Common.{◌≡◌, ℕ, ◌+◌, ◌<◌, ◌≤◌, List, ◌∷◌, length, find, cond, arith, refl, ◌∙◌, ap, subst}
use Rattle.std.specs.Prelude.{Bool, true, false, if◌then◌else◌, Option, Some, None}
use Rattle.std.specs.Option.{option_map_or}
use Rattle.loc_base.proofs.ShelfOptions.{Some-same}
use Rattle.design_core.specs.declared.expression.Typed.{Typed}
use Rattle.design_core.specs.declared.statement.CaseItem.{CaseItem}
use Rattle.design_core.specs.declared.statement.Stmt.{Stmt}
use Rattle.design_core.specs.declared.statement.Part.{Part}
use Rattle.design_core.specs.Valuation.{Valuation, bit}
use Rattle.design_core.specs.Operator.{is_true}
use Rattle.design_core.specs.After.{Choice, Updates, assigned, after, after_set}
use Rattle.plain_values.specs.Evaluate.{after_list, item_matches}
use Rattle.cycle_code.specs.Program.{Program, Grown, signals_of, count_of}
use Rattle.cycle_code.specs.Cells.{below, updates_in, HasConstants}
use Rattle.cycle_code.specs.Effects.{held_in}
use Rattle.cycle_code.specs.Fitting.{IsSound}
use Rattle.cycle_code.proofs.GrowthLaws.{Grown-trans}
use Rattle.cycle_code.proofs.SoundLaws.{sound-cells}
use Rattle.cycle_compile.specs.Compiling.{is_leaf, value_in, Leads, Keeps, Values, Decides, Leaves, Runs}
use Rattle.cycle_compile.specs.Carrying.{Jumps, Passes, Carried, Carries, list_left, assigned_left, Tests, some_equal, first_equal, TakesItem, TakesFirst}
use Rattle.cycle_compile.specs.Computing.{IsBare}
use Rattle.cycle_compile.proofs.Leading.{Leads-none, Leads-on, count-grown, widths-grown, updates_in-kept, below-kept, held-kept, Keeps-placed}

-- ---- one run after another
pub Carried-same : {p : Program} {choice : Choice} {at lower count : ℕ} {left left' : Updates} {V : Valuation} → left ≡ left'
    → Carried p choice at lower count left V → Carried p choice at lower count left' V
Carried-same same one = record { W = one.W; leads = one.leads; updates = one.updates ∙ same; keeps = one.keeps }

pub Carried-fewer : {p : Program} {choice : Choice} {at lower : ℕ} (fewer count : ℕ) {left : Updates} {V : Valuation} → fewer ≤ count
    → Carried p choice at lower count left V → Carried p choice at lower fewer left V
Carried-fewer fewer count less one = record {
  W = one.W;
  leads = one.leads;
  updates = one.updates;
  keeps = λ cell b past h. one.keeps cell b past (omega (arith, h, less));
}

pub Carried-on : {p : Program} {choice : Choice} {at middle lower : ℕ} (fewer count : ℕ) {left left' : Updates}
    {V : Valuation} → fewer ≤ count
    → (one : Carried p choice at middle count left V) → Carried p choice middle lower fewer left' one.W
    → Carried p choice at lower fewer left' V
Carried-on fewer count less one other = record {
  W = other.W;
  leads = Leads-on one.leads other.leads;
  updates = other.updates;
  keeps = λ cell b past h. other.keeps cell b past h ∙ one.keeps cell b past (omega (arith, h, less));
}

pub Passes-on : {p : Program} {choice : Choice} {at middle lower : ℕ} (fewer count : ℕ) {left : Updates} {V : Valuation} → fewer ≤ count
    → (one : Passes p choice at middle count V) → Carried p choice middle lower fewer left one.W → Carried p choice at lower fewer left V
Passes-on fewer count less one other = record {
  W = other.W;
  leads = Leads-on one.leads other.leads;
  updates = other.updates;
  keeps = λ cell b past h. other.keeps cell b past h ∙ one.keeps cell b (omega (arith, h, less));
}

pub Carried-jump : {p : Program} {choice : Choice} {at middle lower count : ℕ} {left : Updates} {V : Valuation}
    → (one : Carried p choice at middle count left V) → Leads p choice middle one.W lower one.W → Carried p choice at lower count left V
Carried-jump one jump = record { W = one.W; leads = Leads-on one.leads jump; updates = one.updates; keeps = one.keeps }

-- where nothing was pushed
pub Carried-none : {p : Program} {choice : Choice} (at count : ℕ) {V : Valuation} → HasConstants p V
    → Carried p choice at at count (updates_in (count_of p) V) V
Carried-none at count {V} has = record { W = V; leads = Leads-none at has; updates = refl; keeps = λ cell b past h. refl }

-- ---- statements
abbrev pub Leaves-carried : {p : Program} {choice : Choice} {old new : Program} {statement : Stmt} {V : Valuation}
    → (one : Leaves p choice old new statement V)
    → Carried p choice (length new.instructions) (length old.instructions) (length old.widths)
    (after (signals_of p) choice statement (updates_in (count_of p) V)) V
Leaves-carried one = record { W = one.W; leads = one.leads; updates = one.updates; keeps = one.keeps }

-- what carries out other things that leave the same carries out a statement
pub Runs-carries : {old new : Program} {left : Program → Choice → Valuation → Updates} (statement : Stmt)
    → ((p : Program) (choice : Choice) (V : Valuation) → left p choice V
    ≡ after (signals_of p) choice statement (updates_in (count_of p) V))
    → Carries old new left → Runs old new statement
Runs-carries statement same carries = record {
  grown = carries.grown;
  leaves = λ p choice V grown has.
      let one = Carried-same (same p choice V) (carries.leaves p choice V grown has) in
      record { W = one.W; leads = one.leads; updates = one.updates; keeps = one.keeps };
}

-- the cells of the signals in a program that a sound one grows into
pub signals-within : (old p : Program) → IsSound old → Grown old p → count_of p + count_of p ≤ length old.widths
signals-within old p sound grown =
    let most : count_of old + count_of old + count_of old ≤ length old.widths = sound-cells old sound in
    let same : count_of p ≡ count_of old = count-grown old p grown in
    omega (arith, most, same)

-- ---- statements in order
pub list-more : (old mid new : Program) (statement : Stmt) (rest : List Stmt) → Carries old mid (list_left rest) → Runs mid new statement
    → Carries old new (list_left (statement ∷ rest))
list-more old mid new statement rest carries runs = record {
  grown = Grown-trans old mid new carries.grown runs.grown;
  leaves = λ p choice V grown has.
      let one = runs.leaves p choice V grown has in
      let other = carries.leaves p choice one.W (Grown-trans mid new p runs.grown grown) one.leads.constants in
      Carried-same (ap (after_list (signals_of p) choice rest) one.updates)
      (Carried-on (length old.widths) (length mid.widths) (widths-grown old mid carries.grown) (Leaves-carried one) other);
}

-- ---- one of two statements
-- the updates after one of two statements
abbrev pub either_left : Typed → Stmt → Stmt → Program → Choice → Valuation → Updates
either_left test on_true on_false p choice V =
    if is_true (value_in p V test)
    then after (signals_of p) choice on_true (updates_in (count_of p) V)
    else after (signals_of p) choice on_false (updates_in (count_of p) V)

pub either-runs : (old p1 p2 p3 new : Program) (test : Typed) (on_true on_false : Stmt) → IsSound p3 → Runs old p1 on_false
    → Jumps p1 p2 (length old.instructions) → Runs p2 p3 on_true → Decides p3 new test (length p3.instructions) (length p1.instructions)
    → Carries old new (either_left test on_true on_false)
either-runs old p1 p2 p3 new test on_true on_false sound otherwise jumps carried decides = record {
  grown = Grown-trans old p3 new (Grown-trans old p2 p3 first carried.grown) decides.grown;
  leaves = λ p choice V grown has.
      let goes = decides.goes p choice V grown has in
      by p choice V grown goes.W goes.keeps (is_true (value_in p V test)) goes.leads;
}
  where
    first : Grown old p2
    first = Grown-trans old p1 p2 otherwise.grown jumps.grown

    by : (p : Program) (choice : Choice) (V : Valuation) → Grown new p → (W : Valuation) → Keeps (length p3.widths) V W → (t : Bool)
        → Leads p choice (length new.instructions) V (if t then length p3.instructions else length p1.instructions) W
        → Carried p choice (length new.instructions) (length old.instructions) (length old.widths)
        (if t then after (signals_of p) choice on_true (updates_in (count_of p) V) else after (signals_of p) choice on_false
        (updates_in (count_of p) V)) V
    by p choice V grown W keeps true leads =
        let from3 : Grown p3 p = Grown-trans p3 new p decides.grown grown in
        let from2 : Grown p2 p = Grown-trans p2 p3 p carried.grown from3 in
        let same = updates_in-kept (count_of p) (length p3.widths) V W (signals-within p3 p sound from3) keeps in
        let one = carried.leaves p choice W from3 leads.constants in
        let done = Carried-fewer (length old.widths) (length p2.widths) (widths-grown old p2 first)
        (Carried-jump (Leaves-carried one) (jumps.goes p choice one.W from2 one.leads.constants)) in
        Carried-same (ap (after (signals_of p) choice on_true) same)
        (Passes-on (length old.widths) (length p3.widths) (widths-grown old p3 (Grown-trans old p2 p3 first carried.grown))
        (record { W = W; leads = leads; keeps = keeps }) done)
    by p choice V grown W keeps false leads =
        let from3 : Grown p3 p = Grown-trans p3 new p decides.grown grown in
        let from1 : Grown p1 p = Grown-trans p1 p3 p (Grown-trans p1 p2 p3 jumps.grown carried.grown) from3 in
        let same = updates_in-kept (count_of p) (length p3.widths) V W (signals-within p3 p sound from3) keeps in
        let one = otherwise.leaves p choice W from1 leads.constants in
        Carried-same (ap (after (signals_of p) choice on_false) same)
        (Passes-on (length old.widths) (length p3.widths) (widths-grown old p3 (Grown-trans old p2 p3 first carried.grown))
        (record { W = W; leads = leads; keeps = keeps }) (Leaves-carried one))

-- ---- what depends on the value of an expression
-- the updates that depend on what a cell holds, where the value of an expression was put into it
pub placed-carries : (left : Program → Choice → Updates → ℕ → Updates) (old p0 p1 new : Program) (e : Typed) (cell : ℕ)
    → IsSound old → Grown old p0
    → p0.instructions ≡ old.instructions → (is_leaf e.node ≡ false → length old.widths ≤ cell)
    → Carries p0 p1 (λ p choice V. left p choice (updates_in (count_of p) V) (held_in p V cell)) → Values p1 new e cell
    → Carries old new (λ p choice V. left p choice (updates_in (count_of p) V) (value_in p V e))
placed-carries left old p0 p1 new e cell sound placed same fresh carries values = record {
  grown = Grown-trans old p1 new first values.grown;
  leaves = λ p choice V grown has.
      let from1 : Grown p1 p = Grown-trans p1 new p values.grown grown in
      let one = values.leaves p choice V grown has in
      let keeps = Keeps-placed old first fresh one in
      let kept = updates_in-kept (count_of p) (length old.widths) V one.W
      (signals-within old p sound (Grown-trans old p1 p first from1)) keeps in
      let other = carries.leaves p choice one.W from1 one.leads.constants in
      let low : length p0.instructions ≡ length old.instructions = ap length same in
      subst (λ n. Carried p choice (length new.instructions) n (length old.widths)
      (left p choice (updates_in (count_of p) V) (value_in p V e)) V) low
      (Carried-same (ap (λ m. left p choice m (held_in p one.W cell)) kept ∙ ap (left p choice (updates_in (count_of p) V)) one.value)
      (Passes-on (length old.widths) (length old.widths) (omega arith) (record { W = one.W; leads = one.leads; keeps = keeps })
      (Carried-fewer (length old.widths) (length p0.widths) (widths-grown old p0 placed) other)));
}
  where
    first : Grown old p1
    first = Grown-trans old p0 p1 placed carries.grown

-- what is assigned for an expression is assigned for each that has its value
pub assigned-bare : (old new : Program) (number : ℕ) (parts : List Part) (e core : Typed) (later : Bool) → IsBare e core
    → Carries old new (assigned_left number parts core later) → Carries old new (assigned_left number parts e later)
assigned-bare old new number parts e core later bare carries = record {
  grown = carries.grown;
  leaves = λ p choice V grown has.
      Carried-same
      (ap (λ n. after_set (signals_of p) parts (bit (assigned choice number n)) later (updates_in (count_of p) V))
      (bare.value (signals_of p) (below (count_of p) V)))
      (carries.leaves p choice V grown has);
}

-- ---- case items
-- the updates after the first item that has a label equal to a number
abbrev pub first_left : List CaseItem → Stmt → Program → Choice → Updates → ℕ → Updates
first_left items other p choice m subject =
    option_map_or (λ item. after (signals_of p) choice item.body m) (find (item_matches (signals_of p) m.now subject) items)
    (after (signals_of p) choice other m)

-- the number is what a cell holds, or the value of an expression
abbrev pub items_left : ℕ → List CaseItem → Stmt → Program → Choice → Valuation → Updates
items_left cell items other p choice V = first_left items other p choice (updates_in (count_of p) V) (held_in p V cell)

abbrev pub case_left : Typed → List CaseItem → Stmt → Program → Choice → Valuation → Updates
case_left subject items other p choice V = first_left items other p choice (updates_in (count_of p) V) (value_in p V subject)

-- the same item is the first where nothing was changed that it is found by
first-kept : (old p : Program) (subject : ℕ) (items : List CaseItem) (V W : Valuation) → IsSound old → Grown old p
    → subject < length old.widths
    → Keeps (length old.widths) V W → first_equal subject items p W ≡ first_equal subject items p V
first-kept old p subject items V W sound grown within keeps =
    let most = signals-within old p sound grown in
    let words = below-kept (count_of p) (length old.widths) V W (omega (arith, most)) keeps in
    let held = held-kept p.widths (length old.widths) V W subject within keeps in
    ap (λ U. find (item_matches (signals_of p) U (held_in p W subject)) items) words
    ∙ ap (λ n. find (item_matches (signals_of p) (below (count_of p) V) n) items) held

pub first-more : (old mid new : Program) (next subject : ℕ) (item : CaseItem) (rest : List CaseItem) → IsSound mid
    → subject < length mid.widths
    → TakesFirst old mid next subject rest → TakesItem mid new next subject item → TakesFirst old new next subject (item ∷ rest)
first-more old mid new next subject item rest sound within rests takes = record {
  grown = Grown-trans old mid new rests.grown takes.grown;
  taken = λ p choice V grown has one e. found p choice V grown has one (some_equal subject item.labels p V) refl e;
  missed = λ p choice V grown has e. none p choice V grown has (some_equal subject item.labels p V) refl e;
}
  where
    less : length old.widths ≤ length mid.widths
    less = widths-grown old mid rests.grown

    found : (p : Program) (choice : Choice) (V : Valuation) → Grown new p → HasConstants p V → (one : CaseItem) → (t : Bool)
        → some_equal subject item.labels p V ≡ t → cond t (Some item) (first_equal subject rest p V) ≡ Some one
        → Carried p choice (length new.instructions) next (length old.widths)
        (after (signals_of p) choice one.body (updates_in (count_of p) V)) V
    found p choice V grown has one true is e =
        subst (λ (i : CaseItem). Carried p choice (length new.instructions) next (length old.widths)
        (after (signals_of p) choice i.body (updates_in (count_of p) V)) V)
        (Some-same e)
        (Carried-fewer (length old.widths) (length mid.widths) less (takes.taken p choice V grown has is))
    found p choice V grown has one false is e =
        let from : Grown mid p = Grown-trans mid new p takes.grown grown in
        let past = takes.missed p choice V grown has is in
        let kept = updates_in-kept (count_of p) (length mid.widths) V past.W (signals-within mid p sound from) past.keeps in
        let last = rests.taken p choice past.W from past.leads.constants one
        (first-kept mid p subject rest V past.W sound from within past.keeps ∙ e) in
        Carried-same (ap (after (signals_of p) choice one.body) kept) (Passes-on (length old.widths) (length mid.widths) less past last)

    none : (p : Program) (choice : Choice) (V : Valuation) → Grown new p → HasConstants p V → (t : Bool)
        → some_equal subject item.labels p V ≡ t → cond t (Some item) (first_equal subject rest p V) ≡ None
        → Passes p choice (length new.instructions) (length old.instructions) (length old.widths) V
    none p choice V grown has true is e = absurd cc
    none p choice V grown has false is e =
        let few = less in
        let from : Grown mid p = Grown-trans mid new p takes.grown grown in
        let past = takes.missed p choice V grown has is in
        let last = rests.missed p choice past.W from past.leads.constants
        (first-kept mid p subject rest V past.W sound from within past.keeps ∙ e) in
        record {
          W = last.W;
          leads = Leads-on past.leads last.leads;
          keeps = λ cell b h. last.keeps cell b h ∙ past.keeps cell b (omega (arith, h, few));
        }

-- the first item, else another statement
pub items-carry : (old mid new : Program) (subject : ℕ) (items : List CaseItem) (other : Stmt) → IsSound mid → Runs old mid other
    → TakesFirst mid new (length old.instructions) subject items → Carries old new (items_left subject items other)
items-carry old mid new subject items other sound runs takes = record {
  grown = Grown-trans old mid new runs.grown takes.grown;
  leaves = λ p choice V grown has. by p choice V grown has (first_equal subject items p V) refl;
}
  where
    less : length old.widths ≤ length mid.widths
    less = widths-grown old mid runs.grown

    by : (p : Program) (choice : Choice) (V : Valuation) → Grown new p → HasConstants p V → (o : Option CaseItem)
        → first_equal subject items p V ≡ o
        → Carried p choice (length new.instructions) (length old.instructions) (length old.widths)
        (option_map_or (λ i. after (signals_of p) choice i.body (updates_in (count_of p) V)) o
        (after (signals_of p) choice other (updates_in (count_of p) V))) V
    by p choice V grown has (Some item) e =
        Carried-fewer (length old.widths) (length mid.widths) less (takes.taken p choice V grown has item e)
    by p choice V grown has None e =
        let from : Grown mid p = Grown-trans mid new p takes.grown grown in
        let past = takes.missed p choice V grown has e in
        let kept = updates_in-kept (count_of p) (length mid.widths) V past.W (signals-within mid p sound from) past.keeps in
        Carried-same (ap (after (signals_of p) choice other) kept)
        (Passes-on (length old.widths) (length mid.widths) less past
        (Leaves-carried (runs.leaves p choice past.W from past.leads.constants)))

pub item-takes : (mid p1 p2 new : Program) (next subject : ℕ) (item : CaseItem) → IsSound p2 → Jumps mid p1 next → Runs p1 p2 item.body
    → Tests p2 new (length new.instructions) (some_equal subject item.labels) (length p2.instructions) (length mid.instructions)
    → TakesItem mid new next subject item
item-takes mid p1 p2 new next subject item sound jumps runs tests = record {
  grown = Grown-trans mid p2 new first tests.grown;
  taken = λ p choice V grown has e.
      let from2 : Grown p2 p = Grown-trans p2 new p tests.grown grown in
      let from1 : Grown p1 p = Grown-trans p1 p2 p runs.grown from2 in
      let goes = tests.goes p choice V grown has in
      let leads = subst (λ (t : Bool). Leads p choice (length new.instructions) V
      (if t then length p2.instructions else length mid.instructions) goes.W) e goes.leads in
      let same = updates_in-kept (count_of p) (length p2.widths) V goes.W (signals-within p2 p sound from2) goes.keeps in
      let one = runs.leaves p choice goes.W from2 goes.leads.constants in
      let done = Carried-fewer (length mid.widths) (length p1.widths) (widths-grown mid p1 jumps.grown)
      (Carried-jump (Leaves-carried one) (jumps.goes p choice one.W from1 one.leads.constants)) in
      Carried-same (ap (after (signals_of p) choice item.body) same)
      (Passes-on (length mid.widths) (length p2.widths) (widths-grown mid p2 first)
      (record { W = goes.W; leads = leads; keeps = goes.keeps }) done);
  missed = λ p choice V grown has e.
      let goes = tests.goes p choice V grown has in
      let leads = subst (λ (t : Bool). Leads p choice (length new.instructions) V
      (if t then length p2.instructions else length mid.instructions) goes.W) e goes.leads in
      let more : length mid.widths ≤ length p2.widths = widths-grown mid p2 first in
      record { W = goes.W; leads = leads; keeps = λ cell b h. goes.keeps cell b (omega (arith, h, more)) };
}
  where
    first : Grown mid p2
    first = Grown-trans mid p1 p2 jumps.grown runs.grown

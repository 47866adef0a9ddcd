-- What each path of a statement assigns, by `=` or by `<=`, over lists.
use Rattle.std.proofs.Common.{Result, Ok, Err, ◌≡◌, ℕ, ◌<◌, ◌+◌, List, [], ◌∷◌, ◌++◌, length, take, get_or, slice_index, ap, ap₂, ◌∙◌, refl, sym, subst, true, false, arith}
use Rattle.std.specs.Prelude.{Bool, not, ◌&&◌, ◌||◌, IfOk, OnOk}
use Rattle.std.specs.List.{list_any, list_all}
use denote.Hole.Carrier.{hidden}
use Rattle.std.proofs.lemmas.Bool.{false≢true}
use Rattle.std.proofs.lemmas.List.Folds.{list_any-append, list_all-append}
use Rattle.loc_base.specs.declared.memory.NoMemory.{NoMemory}
use Rattle.loc_base.proofs.ShelfBools.{or-false, and-true, and-assoc}
use Rattle.loc_base.proofs.ShelfLists.{take-at}
use Rattle.design_core.specs.declared.signal.Signal.{Signal}
use Rattle.design_core.specs.declared.expression.Typed.{Typed}
use Rattle.design_core.specs.declared.statement.Part.{Part}
use Rattle.design_core.specs.declared.statement.CaseItem.{CaseItem}
use Rattle.design_core.specs.declared.statement.Stmt.{Stmt, Row_of-Stmt, end_of-Stmt, more_of-Stmt, items-the_row-Stmt, items_hidden-the_row-Stmt-0, Row_of-CaseItem, end_of-CaseItem, more_of-CaseItem, items-the_row-CaseItem, items_hidden-the_row-CaseItem-2}
use Rattle.design_core.specs.declared.statement.Stmt.TheVariants.{Block, If, Case}
use Rattle.design_core.specs.declared.statement.Stmt.TheBlock.{shape-the_row-Stmt-1, hidden-the_row-Stmt-1, hidden-the_row-Stmt-0, hidden-the_row-CaseItem-2}
use Rattle.design_core.specs.FullCase.{is_full}
use Rattle.design_core.specs.Reads.{part_assigns, on_all_paths, some_on_all_paths, all_on_all_paths, assigns_either_way, is_nothing}
use Rattle.design_bits.specs.declared.waits.Walk.{Walk}
use Rattle.design_bits.specs.declared.listed.SignalBits.{SignalBits}
use Rattle.design_bits.specs.declared.shared.Shared.{Shared}
use Rattle.design_bits.specs.Listed.{Lists, lists}
use Rattle.design_bits.specs.Masks.{Adds}
use Rattle.design_bits.specs.Paths.{item_either_way}
use Rattle.design_bits.specs.Waits.{AreFit, HasAssigned, IsKept, Shares, shares, IsInList}
use Rattle.design_bits.proofs.Added.{adds-none, adds-same}
use Rattle.design_bits.proofs.WaitLaws.{lists-both, lists-named}

-- the test of an assignment by either
abbrev by_either : List Signal → ℕ → ℕ → List Part → Bool → Bool
by_either signals s b parts later = list_any (part_assigns signals s b) parts

some-list : {shape : _} (signals : List Signal) (s b : ℕ) (row : Row_of-Stmt shape)
    → some_on_all_paths signals (by_either signals s b) row ≡ list_any (assigns_either_way signals s b) (items-the_row-Stmt shape row)
some-list signals s b end_of-Stmt = refl
some-list signals s b (more_of-Stmt statement rest) = ap (λ x. assigns_either_way signals s b statement || x) (some-list signals s b rest)

all-list : {shape : _} (signals : List Signal) (s b : ℕ) (row : Row_of-CaseItem shape)
    → all_on_all_paths signals (by_either signals s b) row ≡ list_all (item_either_way signals s b) (items-the_row-CaseItem shape row)
all-list signals s b end_of-CaseItem = refl
all-list signals s b (more_of-CaseItem labels body rest) = ap (λ x. assigns_either_way signals s b body && x) (all-list signals s b rest)

pub block-paths : (signals : List Signal) (s b : ℕ) (statements : List Stmt) → assigns_either_way signals s b (Block statements) ≡ list_any (assigns_either_way signals s b) statements
block-paths signals s b statements = some-list signals s b (hidden-the_row-Stmt-0 statements) ∙ ap (list_any (assigns_either_way signals s b)) (items_hidden-the_row-Stmt-0 statements)

pub if-paths : (signals : List Signal) (s b : ℕ) (test : Typed) (on_true on_false : Stmt)
    → assigns_either_way signals s b (If test on_true on_false) ≡ (assigns_either_way signals s b on_true && assigns_either_way signals s b on_false)
unfolding shape-the_row-Stmt-1 hidden-the_row-Stmt-1 hidden
if-paths signals s b test on_true on_false = refl

pub case-paths : (signals : List Signal) (s b : ℕ) (subject : Typed) (items : List CaseItem) (other : Stmt) (wild : Bool)
    → assigns_either_way signals s b (Case subject items other wild)
    ≡ (list_all (item_either_way signals s b) items && ((is_nothing other && is_full signals subject (hidden-the_row-CaseItem-2 items)) || assigns_either_way signals s b other))
unfolding shape-the_row-Stmt-1 hidden-the_row-Stmt-1 hidden
case-paths signals s b subject items other wild =
    ap (λ x. x && ((is_nothing other && is_full signals subject (hidden-the_row-CaseItem-2 items)) || assigns_either_way signals s b other))
    (all-list signals s b (hidden-the_row-CaseItem-2 items) ∙ ap (list_all (item_either_way signals s b)) (items_hidden-the_row-CaseItem-2 items))

-- ---- a walk that is as it was
pub kept-same : (n : ℕ) (walk : Walk) → AreFit n walk → IsKept n walk walk
kept-same n walk fit = record { fit = fit; sure = refl; reads = refl }

pub kept-both : (n : ℕ) (old mid new : Walk) → IsKept n old mid → IsKept n mid new → IsKept n old new
kept-both n old mid new one other = record { fit = other.fit; sure = other.sure ∙ one.sure; reads = other.reads ∙ one.reads }

pub kept-met : (n : ℕ) (old mid new : Walk) → IsKept n old mid → new.sure.items ≡ mid.sure.items → new.reads ≡ mid.reads → length new.empty ≡ length mid.empty
    → ((s : ℕ) → slice_index new.empty s ≡ 0) → IsKept n old new
kept-met n old mid new one sure reads long empty =
    record {
      fit = record {
        reads_long = ap length reads ∙ one.fit.reads_long;
        sure_long = ap length sure ∙ one.fit.sure_long;
        empty_long = long ∙ one.fit.empty_long;
        empty = empty;
      };
      sure = sure ∙ one.sure;
      reads = reads ∙ one.reads;
    }

pub if-kept : {X : Type 0} (r : Result X NoMemory) (n : ℕ) (old mid new : Walk) → IsKept n old mid
    → IfOk r (λ l. new.sure.items ≡ mid.sure.items) → IfOk r (λ l. new.reads ≡ mid.reads) → IfOk r (λ l. length new.empty ≡ length mid.empty)
    → IfOk r (λ l. (s : ℕ) → slice_index new.empty s ≡ 0) → IfOk r (λ l. IsKept n old new)
if-kept (Ok v) n old mid new one sure reads long empty = kept-met n old mid new one sure reads long empty
if-kept (Err e) n old mid new one sure reads long empty = sure

-- ---- one statement more, and one item more
pub list-turn : (n : ℕ) (all own given more : List SignalBits) (signals : List Signal) (xs : List Stmt) (i : ℕ) (x : Stmt) → i < length xs → x ≡ get_or xs i x
    → Lists n all (λ s b. list_any (λ y. assigns_either_way signals s b y) (take i xs)) → Lists n own (λ s b. assigns_either_way signals s b x) → given ≡ own → more ≡ all ++ given
    → Lists n more (λ s b. list_any (λ y. assigns_either_way signals s b y) (take (i + 1) xs))
list-turn n all own given more signals xs i x below is so listed same together =
    let g : ℕ → ℕ → Bool = (λ s b. list_any (λ y. assigns_either_way signals s b y) (take i xs)) in
    let a : ℕ → ℕ → Bool = (λ s b. assigns_either_way signals s b x) in
    subst (λ l. Lists n l (λ s b. list_any (λ y. assigns_either_way signals s b y) (take (i + 1) xs))) (sym (together ∙ ap (λ l. all ++ l) same))
    (lists-named n (all ++ own) (λ s b. g s b || a s b) (λ s b. list_any (λ y. assigns_either_way signals s b y) (take (i + 1) xs)) (lists-both n all own g a so listed)
    (λ s b.
    sym (ap (list_any (λ y. assigns_either_way signals s b y)) (take-at xs i x below is) ∙ list_any-append (λ y. assigns_either_way signals s b y) (take i xs) (x ∷ [])
    ∙ ap (λ v. g s b || v) (or-false (assigns_either_way signals s b x)))))

pub list-items-turn : (n : ℕ) (start now mid next : Walk) (before together after : Shared) (own : List SignalBits) (signals : List Signal) (xs : List CaseItem) (i : ℕ) (x : CaseItem)
    → i < length xs → x ≡ get_or xs i x
    → IsInList n start now before together i (λ s b. list_all (λ y. item_either_way signals s b y) (take i xs)) → IsKept n now mid → Lists n own (λ s b. assigns_either_way signals s b x.body)
    → next.sure.items ≡ mid.sure.items → next.reads ≡ mid.reads → length next.empty ≡ length mid.empty → ((s : ℕ) → slice_index next.empty s ≡ 0)
    → after.every ≡ false → Shares (length mid.empty) after (λ s b. shares together s b && lists own s b)
    → IsInList n start next before after (i + 1) (λ s b. list_all (λ y. item_either_way signals s b y) (take (i + 1) xs))
list-items-turn n start now mid next before together after own signals xs i x below is so body listed sure reads long empty none met =
    let g : ℕ → ℕ → Bool = (λ s b. list_all (λ y. item_either_way signals s b y) (take i xs)) in
    record {
      kept = kept-met n start mid next (kept-both n start now mid so.kept body) sure reads long empty;
      shared = record {
        bits = λ s b within inside.
            met.bits s b (omega (arith, within, body.fit.empty_long)) inside
            ∙ ap₂ (λ v w. v && w) (so.shared.bits s b within inside) (listed.bits s b within inside)
            ∙ and-assoc (shares before s b) (g s b) (assigns_either_way signals s b x.body)
            ∙ ap (λ v. shares before s b && v)
            (sym (ap (list_all (λ y. item_either_way signals s b y)) (take-at xs i x below is) ∙ list_all-append (λ y. item_either_way signals s b y) (take i xs) (x ∷ [])
            ∙ ap (λ v. g s b && v) (and-true (item_either_way signals s b x))));
      };
      every = λ all_bits. absurd (false≢true (sym none ∙ all_bits));
    }

-- ---- an assignment
pub set-either : (n : ℕ) (given signals : List Signal) (parts whole : List Part) (list : List SignalBits) (v : ℕ → ℕ → Bool) → n ≡ length signals → given ≡ signals → parts ≡ whole
    → Lists (length given) list (λ s b. list_any (part_assigns given s b) parts) → ((s b : ℕ) → list_any (part_assigns signals s b) whole ≡ v s b) → Lists n list v
set-either n given signals parts whole list v long same too listed is =
    record {
      bits = λ s b within below.
          listed.bits s b (omega (arith, within, long, ap length same)) below ∙ ap₂ (λ g ps. list_any (part_assigns g s b) ps) same too ∙ is s b;
    }

-- ---- a driver
pub assigned-none : (n : ℕ) (walk : Walk) (t : ℕ → ℕ → Bool) → AreFit n walk → ((s b : ℕ) → t s b ≡ false) → HasAssigned n walk walk t
assigned-none n walk t fit none = record { fit = fit; same = refl; added = adds-none walk.reads t (λ s b _ _. none s b) }

pub assigned-list : (r : Result (Unit {0}) NoMemory) (n : ℕ) (old mid new : Walk) (list given : List SignalBits) (t v : ℕ → ℕ → Bool) → IsKept n old mid → Lists n list t → given ≡ list
    → OnOk r (Adds mid.reads new.reads (λ s b. lists given s b)) → new.sure.items ≡ mid.sure.items → new.empty ≡ mid.empty → ((s b : ℕ) → t s b ≡ v s b) → OnOk r (HasAssigned n old new v)
assigned-list (Ok x) n old mid new list given t v kept listed same adds sure empty is =
    record {
      fit = record {
        reads_long = adds.long ∙ kept.fit.reads_long;
        sure_long = ap length sure ∙ kept.fit.sure_long;
        empty_long = ap length empty ∙ kept.fit.empty_long;
        empty = λ s. ap (λ e. slice_index e s) empty ∙ kept.fit.empty s;
      };
      same = sure ∙ kept.sure;
      added = subst (λ r. Adds r new.reads v) kept.reads
          (adds-same mid.reads new.reads (λ s b. lists given s b) v adds
          (λ s b within below. ap (λ l. lists l s b) same ∙ listed.bits s b (omega (arith, within, kept.fit.reads_long)) below ∙ is s b));
    }
assigned-list (Err e) n old mid new list given t v kept listed same adds sure empty is = adds

-- What a walk over statements keeps from step to step.
use Rattle.std.proofs.Common.{Result, Ok, Err, ℕ, ◌≡◌, ◌<◌, ◌+◌, List, [], ◌∷◌, ◌++◌, length, take, get_or, slice_index, true, false, refl, sym, subst, ◌∙◌, ap, ap₂, arith}
use Rattle.std.specs.Prelude.{Bool, not, ◌&&◌, ◌||◌, IfOk}
use Rattle.loc_base.specs.declared.memory.NoMemory.{NoMemory}
use Rattle.std.proofs.lemmas.List.Folds.{list_any-append}
use Rattle.std.specs.List.{list_any}
use Rattle.loc_base.proofs.ShelfBools.{or-false}
use Rattle.loc_base.proofs.ShelfLists.{take-at}
use Rattle.design_core.specs.declared.signal.Signal.{Signal}
use Rattle.design_core.specs.declared.statement.Stmt.{Stmt}
use Rattle.design_core.specs.Reads.{statement_reads, assigns}
use Rattle.design_bits.specs.Paths.{sequence_reads}
use Rattle.design_bits.proofs.PathSteps.{sequence-last}
use Rattle.design_bits.specs.declared.waits.Walk.{Walk}
use Rattle.design_bits.specs.declared.listed.SignalBits.{SignalBits}
use Rattle.design_bits.specs.Masks.{Adds, has}
use Rattle.design_bits.specs.Listed.{Lists, entry_has, lists, undone}
use Rattle.design_bits.specs.Waits.{HasGone, IsInBlock}
use Rattle.design_bits.proofs.Added.{adds-both, adds-same}
use Rattle.design_bits.proofs.ReadsAdded.{adds-beside, adds-named}

-- one step after another
pub gone-both : (n : ℕ) (old mid new : Walk) (t u : ℕ → ℕ → Bool) → HasGone n old mid t → HasGone n mid new u → HasGone n old new (λ s b. t s b || u s b)
gone-both n old mid new t u one other =
    record {
      fit = other.fit;
      same = other.same ∙ one.same;
      reads = adds-beside old.reads mid.reads new.reads old.sure.items t u one.reads
          (subst (λ sure. Adds mid.reads new.reads (λ s b. u s b && not (has sure s b))) one.same other.reads);
    }

-- what was read, said in another way
pub gone-named : (n : ℕ) (old new : Walk) (t u : ℕ → ℕ → Bool) → HasGone n old new t → ((s b : ℕ) → t s b ≡ u s b) → HasGone n old new u
gone-named n old new t u one is =
    record { fit = one.fit; same = one.same; reads = adds-named old.reads new.reads old.sure.items t u one.reads (λ s b _. is s b) }

-- a list whose bits are said in another way, and two lists together
pub lists-named : (n : ℕ) (list : List SignalBits) (t u : ℕ → ℕ → Bool) → Lists n list t → ((s b : ℕ) → t s b ≡ u s b) → Lists n list u
lists-named n list t u one is = record { bits = λ s b within below. one.bits s b within below ∙ is s b }

pub lists-both : (n : ℕ) (one other : List SignalBits) (t u : ℕ → ℕ → Bool) → Lists n one t → Lists n other u → Lists n (one ++ other) (λ s b. t s b || u s b)
lists-both n one other t u first second =
    record { bits = λ s b within below. list_any-append (entry_has s b) one other ∙ ap₂ (λ x y. x || y) (first.bits s b within below) (second.bits s b within below) }

lists-met : (n : ℕ) (one other met : List SignalBits) (t u : ℕ → ℕ → Bool) → Lists n one t → Lists n other u → Lists n met (λ s b. lists one s b && lists other s b)
    → Lists n met (λ s b. t s b && u s b)
lists-met n one other met t u first second both =
    record { bits = λ s b within below. both.bits s b within below ∙ ap₂ (λ x y. x && y) (first.bits s b within below) (second.bits s b within below) }

apart : (x s g : Bool) → (x && not (s || g)) ≡ ((not g && x) && not s)
apart true true true = refl
apart true true false = refl
apart true false true = refl
apart true false false = refl
apart false s true = refl
apart false s false = refl

-- one statement more of a block
pub block-more : (n : ℕ) (start now mid next : Walk) (before noted all own : List SignalBits) (r g x a : ℕ → ℕ → Bool)
    → IsInBlock n start now before all r g → HasGone n now mid x → Lists n own a
    → Adds mid.sure.items next.sure.items (λ s b. lists own s b) → undone noted next.sure.items ≡ undone before mid.sure.items
    → next.reads ≡ mid.reads → next.empty ≡ mid.empty
    → IsInBlock n start next noted (all ++ own) (λ s b. r s b || (not (g s b) && x s b)) (λ s b. g s b || a s b)
block-more n start now mid next before noted all own r g x a so step listed sure back reads empty =
    let start_long : length start.sure.items ≡ n = sym so.sure.long ∙ so.fit.sure_long in
    let mid_long : length mid.sure.items ≡ n = step.fit.sure_long in
    let now_reads : length now.reads ≡ n = so.fit.reads_long in
    let added : Adds now.sure.items next.sure.items a = adds-same now.sure.items next.sure.items (λ s b. lists own s b) a
    (subst (λ m. Adds m next.sure.items (λ s b. lists own s b)) step.same sure)
    (λ s b within below. listed.bits s b (omega (arith, within, so.fit.sure_long)) below) in
    let known : (s b : ℕ) → s < length now.reads → b < 128 → (x s b && not (has now.sure.items s b)) ≡ ((not (g s b) && x s b) && not (has start.sure.items s b)) =
    (λ s b within below.
    ap (λ h. x s b && not h) (so.sure.bits s b (omega (arith, within, now_reads, start_long)) below) ∙ apart (x s b) (has start.sure.items s b) (g s b)) in
    record {
      fit = record {
        reads_long = ap length reads ∙ step.fit.reads_long;
        sure_long = sure.long ∙ mid_long;
        empty_long = ap length empty ∙ step.fit.empty_long;
        empty = λ s. ap (λ e. slice_index e s) empty ∙ step.fit.empty s;
      };
      undone = back ∙ ap (undone before) step.same ∙ so.undone;
      sure = adds-both start.sure.items now.sure.items next.sure.items g a so.sure added;
      reads = subst (λ m. Adds start.reads m (λ s b. (r s b || (not (g s b) && x s b)) && not (has start.sure.items s b))) (sym reads)
          (adds-beside start.reads now.reads mid.reads start.sure.items r (λ s b. not (g s b) && x s b) so.reads
          (adds-same now.reads mid.reads (λ s b. x s b && not (has now.sure.items s b)) (λ s b. (not (g s b) && x s b) && not (has start.sure.items s b)) step.reads known));
      all = lists-both n all own g a so.all listed;
    }

block-named : (n : ℕ) (start now : Walk) (before all : List SignalBits) (r g r' g' : ℕ → ℕ → Bool) → IsInBlock n start now before all r g
    → ((s b : ℕ) → r s b ≡ r' s b) → ((s b : ℕ) → g s b ≡ g' s b) → IsInBlock n start now before all r' g'
block-named n start now before all r g r' g' so same equal =
    record {
      fit = so.fit;
      undone = so.undone;
      sure = adds-same start.sure.items now.sure.items g g' so.sure (λ s b _ _. equal s b);
      reads = adds-named start.reads now.reads start.sure.items r r' so.reads (λ s b _. same s b);
      all = lists-named n all g g' so.all equal;
    }

-- a turn of the loop over a block's statements
pub block-turn : (n : ℕ) (start now mid next : Walk) (before noted all own given more : List SignalBits) (signals : List Signal) (xs : List Stmt) (i : ℕ) (x : Stmt)
    → i < length xs → x ≡ get_or xs i x
    → IsInBlock n start now before all (λ s b. sequence_reads signals s b (take i xs)) (λ s b. list_any (λ y. assigns signals s b y) (take i xs))
    → HasGone n now mid (λ s b. statement_reads signals s b x) → Lists n own (λ s b. assigns signals s b x) → given ≡ own
    → Adds mid.sure.items next.sure.items (λ s b. lists given s b) → undone noted next.sure.items ≡ undone before mid.sure.items
    → more ≡ all ++ given → next.reads ≡ mid.reads → next.empty ≡ mid.empty
    → IsInBlock n start next noted more (λ s b. sequence_reads signals s b (take (i + 1) xs)) (λ s b. list_any (λ y. assigns signals s b y) (take (i + 1) xs))
block-turn n start now mid next before noted all own given more signals xs i x below is so step listed same sure back together reads empty =
    let r : ℕ → ℕ → Bool = (λ s b. sequence_reads signals s b (take i xs)) in
    let g : ℕ → ℕ → Bool = (λ s b. list_any (λ y. assigns signals s b y) (take i xs)) in
    let a : ℕ → ℕ → Bool = (λ s b. assigns signals s b x) in
    let q : ℕ → ℕ → Bool = (λ s b. statement_reads signals s b x) in
    let grown = take-at xs i x below is in
    subst (λ l. IsInBlock n start next noted l (λ s b. sequence_reads signals s b (take (i + 1) xs)) (λ s b. list_any (λ y. assigns signals s b y) (take (i + 1) xs))) (sym together)
    (block-named n start next noted (all ++ given) (λ s b. r s b || (not (g s b) && q s b)) (λ s b. g s b || a s b)
    (λ s b. sequence_reads signals s b (take (i + 1) xs)) (λ s b. list_any (λ y. assigns signals s b y) (take (i + 1) xs))
    (block-more n start now mid next before noted all given r g q a so step (subst (λ l. Lists n l a) (sym same) listed) sure back reads empty)
    (λ s b. sym (ap (sequence_reads signals s b) grown ∙ sequence-last signals s b (take i xs) x))
    (λ s b.
    sym (ap (list_any (λ y. assigns signals s b y)) grown ∙ list_any-append (λ y. assigns signals s b y) (take i xs) (x ∷ [])
    ∙ ap (λ v. list_any (λ y. assigns signals s b y) (take i xs) || v) (or-false (assigns signals s b x)))))

-- the end of a block
pub block-done : (n : ℕ) (start now after : Walk) (before all : List SignalBits) (r g : ℕ → ℕ → Bool) → IsInBlock n start now before all r g
    → after.sure.items ≡ undone before now.sure.items → after.reads ≡ now.reads → after.empty ≡ now.empty → HasGone n start after r
block-done n start now after before all r g so sure reads empty =
    record {
      fit = record {
        reads_long = ap length reads ∙ so.fit.reads_long;
        sure_long = ap length (sure ∙ so.undone) ∙ sym so.sure.long ∙ so.fit.sure_long;
        empty_long = ap length empty ∙ so.fit.empty_long;
        empty = λ s. ap (λ e. slice_index e s) empty ∙ so.fit.empty s;
      };
      same = sure ∙ so.undone;
      reads = subst (λ m. Adds start.reads m (λ s b. r s b && not (has start.sure.items s b))) (sym reads) so.reads;
    }

-- the bits that two lists have, taken with the empty set of a walk
pub gone-met : (n : ℕ) (old mid new : Walk) (t : ℕ → ℕ → Bool) → HasGone n old mid t → new.sure.items ≡ mid.sure.items → new.reads ≡ mid.reads
    → length new.empty ≡ length mid.empty → ((s : ℕ) → slice_index new.empty s ≡ 0) → HasGone n old new t
gone-met n old mid new t one sure reads long empty =
    record {
      fit = record {
        reads_long = ap length reads ∙ one.fit.reads_long;
        sure_long = ap length sure ∙ one.fit.sure_long;
        empty_long = long ∙ one.fit.empty_long;
        empty = empty;
      };
      same = sure ∙ one.same;
      reads = subst (λ m. Adds old.reads m (λ s b. t s b && not (has old.sure.items s b))) (sym reads) one.reads;
    }

-- what holds at Ok
pub if-ok : {X : Type 0} (r : Result X NoMemory) (P Q : X → Type 0) → ((x : X) → P x → Q x) → IfOk r P → IfOk r Q
if-ok (Ok v) P Q f p = f v p
if-ok (Err e) P Q f p = p

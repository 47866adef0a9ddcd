-- What the arms of an if, the items of a case and an assignment read and surely assign, as a walk goes over them.
use Rattle.std.proofs.Common.{Result, Ok, Err, ℕ, zero, suc, ◌≡◌, ◌<◌, ◌+◌, ◌^◌, List, [], ◌∷◌, length, take, get_or, slice_index, true, false, refl, sym, ◌∙◌, ap, ap₂, arith}
use Rattle.std.specs.Prelude.{Bool, not, ◌&&◌, ◌||◌, nat_le, IfOk, IsTrue}
use Rattle.std.specs.List.{list_any, list_all}
use Rattle.std.proofs.lemmas.Bool.{false≢true, and_parts}
use Rattle.std.proofs.lemmas.List.Folds.{list_any-append, list_all-append}
use Rattle.loc_base.specs.declared.memory.NoMemory.{NoMemory}
use Rattle.loc_base.proofs.ShelfBools.{or-false, and-true, or-comm, or-assoc, and-assoc}
use Rattle.loc_base.proofs.ShelfLists.{take-at}
use Rattle.design_core.specs.declared.signal.Signal.{Signal}
use Rattle.design_core.specs.declared.place.Place.{Place}
use Rattle.design_core.specs.declared.expression.Typed.{Typed}
use Rattle.design_core.specs.declared.statement.Part.{Part}
use Rattle.design_core.specs.declared.statement.Label.{Label}
use Rattle.design_core.specs.declared.statement.CaseItem.{CaseItem}
use Rattle.design_core.specs.declared.statement.Stmt.{Row_of-CaseItem, end_of-CaseItem, more_of-CaseItem, items-the_row-CaseItem, items_hidden-the_row-CaseItem-2}
use Rattle.design_core.specs.declared.statement.Stmt.TheBlock.{hidden-the_row-CaseItem-2}
use Rattle.design_core.specs.FullCase.{all_below, deciding_bits, decided, constant_matches, some_matches, is_full}
use Rattle.design_core.specs.Reads.{statement_reads, assigns, part_assigns}
use Rattle.design_core.specs.WellFormed.{label_fits, statement_fits}
use Rattle.plain_values.specs.Evaluate.{item_fits}
use Rattle.design_bits.specs.declared.waits.Walk.{Walk}
use Rattle.design_bits.specs.declared.listed.SignalBits.{SignalBits}
use Rattle.design_bits.specs.declared.shared.Shared.{Shared}
use Rattle.design_bits.specs.Rows.{label_reads}
use Rattle.design_bits.specs.Listed.{Lists, lists}
use Rattle.design_bits.specs.Full.{body_fits, labels_fit, labels_take, is_full_of}
use Rattle.design_bits.specs.Paths.{item_reads, item_assigns}
use Rattle.design_bits.specs.Waits.{HasGone, IsInItems, Shares, shares}
use Rattle.design_bits.proofs.WaitLaws.{gone-both, gone-named, gone-met}

-- ---- what the items of a case that fits have
pub bodies-fit : (signals : List Signal) (places : List Place) (width : ℕ) (items : List CaseItem) → IsTrue (list_all (item_fits signals places width) items) → IsTrue (list_all (body_fits signals places) items)
bodies-fit signals places width [] all = refl
bodies-fit signals places width (x ∷ xs) all =
    let both = and_parts (item_fits signals places width x) (list_all (item_fits signals places width) xs) all in
    ap₂ (λ a b. a && b) (and_parts (list_all (label_fits signals width) x.labels) (statement_fits signals places x.body) both.0).1 (bodies-fit signals places width xs both.1)

pub labels-fit : (signals : List Signal) (places : List Place) (width : ℕ) (items : List CaseItem) → IsTrue (list_all (item_fits signals places width) items) → IsTrue (list_all (labels_fit signals width) items)
labels-fit signals places width [] all = refl
labels-fit signals places width (x ∷ xs) all =
    let both = and_parts (item_fits signals places width x) (list_all (item_fits signals places width) xs) all in
    ap₂ (λ a b. a && b) (and_parts (list_all (label_fits signals width) x.labels) (statement_fits signals places x.body) both.0).0 (labels-fit signals places width xs both.1)

-- ---- full cases, over lists
all_below-same : (n : ℕ) (t u : ℕ → Bool) → ((k : ℕ) → t k ≡ u k) → all_below n t ≡ all_below n u
unfolding all_below
all_below-same zero t u same = refl
all_below-same (suc n) t u same = ap₂ (λ a b. a && b) (same n) (all_below-same n t u same)

some-list : {shape : _} (signals : List Signal) (subject : ℕ) (row : Row_of-CaseItem shape)
    → some_matches signals subject row ≡ list_any (λ item. list_any (constant_matches signals subject) item.labels) (items-the_row-CaseItem shape row)
some-list signals subject end_of-CaseItem = refl
some-list signals subject (more_of-CaseItem labels body rest) = ap (λ x. list_any (constant_matches signals subject) labels || x) (some-list signals subject rest)

pub full-list : (signals : List Signal) (subject : Typed) (items : List CaseItem) → is_full signals subject (hidden-the_row-CaseItem-2 items) ≡ is_full_of signals subject items
full-list signals subject items =
    ap (λ x. nat_le (deciding_bits subject.width subject.node) 8 && x)
    (all_below-same (2 ^ deciding_bits subject.width subject.node)
    (λ n. some_matches signals (decided subject.width subject.node n) (hidden-the_row-CaseItem-2 items)) (λ n. list_any (labels_take signals subject n) items)
    (λ n.
    some-list signals (decided subject.width subject.node n) (hidden-the_row-CaseItem-2 items)
    ∙ ap (list_any (labels_take signals subject n)) (items_hidden-the_row-CaseItem-2 items)))

-- ---- the arms of an if
pub if-gone : {X : Type 0} (r : Result X NoMemory) (n : ℕ) (old mid new : Walk) (t u : ℕ → ℕ → Bool) → HasGone n old mid t
    → IfOk r (λ l. new.sure.items ≡ mid.sure.items) → IfOk r (λ l. new.reads ≡ mid.reads) → IfOk r (λ l. length new.empty ≡ length mid.empty)
    → IfOk r (λ l. (s : ℕ) → slice_index new.empty s ≡ 0) → ((s b : ℕ) → t s b ≡ u s b) → IfOk r (λ l. HasGone n old new u)
if-gone (Ok v) n old mid new t u one sure reads long empty same = gone-named n old new t u (gone-met n old mid new t one sure reads long empty) same
if-gone (Err e) n old mid new t u one sure reads long empty same = sure

pub if-listed : {X : Type 0} (items : X → List SignalBits) (r : Result X NoMemory) (n m : ℕ) (one first other second : List SignalBits) (t u v : ℕ → ℕ → Bool)
    → IfOk r (λ l. Lists m (items l) (λ s b. lists one s b && lists other s b)) → m ≡ n → one ≡ first → other ≡ second → Lists n first t → Lists n second u
    → ((s b : ℕ) → (t s b && u s b) ≡ v s b) → IfOk r (λ l. Lists n (items l) v)
if-listed items (Ok x) n m one first other second t u v met long same too left right is =
    record {
      bits = λ s b within below.
          met.bits s b (omega (arith, within, long)) below
          ∙ ap₂ (λ p q. p && q) (ap (λ l. lists l s b) same ∙ left.bits s b within below) (ap (λ l. lists l s b) too ∙ right.bits s b within below) ∙ is s b;
    }
if-listed items (Err e) n m one first other second t u v met long same too left right is = met

-- ---- the items of a case
together-more : (x g a : Bool) → ((x && g) && a) ≡ (x && (g && a))
together-more x g a = and-assoc x g a

pub items-turn : (n : ℕ) (start now mid past next : Walk) (before together after : Shared) (own : List SignalBits) (signals : List Signal) (xs : List CaseItem) (i : ℕ) (x : CaseItem) (labels : List Label)
    → i < length xs → x ≡ get_or xs i x
    → IsInItems n start now before together i (λ s b. list_any (λ y. item_reads signals s b y) (take i xs)) (λ s b. list_all (λ y. item_assigns signals s b y) (take i xs))
    → labels ≡ x.labels → HasGone n now mid (λ s b. list_any (label_reads signals s b) labels) → HasGone n mid past (λ s b. statement_reads signals s b x.body)
    → Lists n own (λ s b. assigns signals s b x.body)
    → next.sure.items ≡ past.sure.items → next.reads ≡ past.reads → length next.empty ≡ length past.empty → ((s : ℕ) → slice_index next.empty s ≡ 0)
    → after.every ≡ false → Shares (length past.empty) after (λ s b. shares together s b && lists own s b)
    → IsInItems n start next before after (i + 1) (λ s b. list_any (λ y. item_reads signals s b y) (take (i + 1) xs)) (λ s b. list_all (λ y. item_assigns signals s b y) (take (i + 1) xs))
items-turn n start now mid past next before together after own signals xs i x labels below is so same read body listed sure reads long empty none met =
    let r : ℕ → ℕ → Bool = (λ s b. list_any (λ y. item_reads signals s b y) (take i xs)) in
    let g : ℕ → ℕ → Bool = (λ s b. list_all (λ y. item_assigns signals s b y) (take i xs)) in
    let l : ℕ → ℕ → Bool = (λ s b. list_any (label_reads signals s b) labels) in
    let q : ℕ → ℕ → Bool = (λ s b. statement_reads signals s b x.body) in
    let item : HasGone n now past (λ s b. l s b || q s b) = gone-both n now mid past l q read body in
    let all : HasGone n start past (λ s b. r s b || (l s b || q s b)) = gone-both n start now past r (λ s b. l s b || q s b) so.gone item in
    let grown = take-at xs i x below is in
    record {
      gone = gone-named n start next (λ s b. r s b || (l s b || q s b)) (λ s b. list_any (λ y. item_reads signals s b y) (take (i + 1) xs))
          (gone-met n start past next (λ s b. r s b || (l s b || q s b)) all sure reads long empty)
          (λ s b.
          ap (λ ls. r s b || (list_any (label_reads signals s b) ls || q s b)) same
          ∙ sym (ap (list_any (λ y. item_reads signals s b y)) grown ∙ list_any-append (λ y. item_reads signals s b y) (take i xs) (x ∷ [])
          ∙ ap (λ v. r s b || v) (or-false (item_reads signals s b x))));
      shared = record {
        bits = λ s b within inside.
            met.bits s b (omega (arith, within, body.fit.empty_long)) inside
            ∙ ap₂ (λ v w. v && w) (so.shared.bits s b within inside) (listed.bits s b within inside)
            ∙ together-more (shares before s b) (g s b) (assigns signals s b x.body)
            ∙ ap (λ v. shares before s b && v)
            (sym (ap (list_all (λ y. item_assigns signals s b y)) grown ∙ list_all-append (λ y. item_assigns signals s b y) (take i xs) (x ∷ [])
            ∙ ap (λ v. g s b && v) (and-true (item_assigns signals s b x))));
      };
      every = λ all_bits. absurd (false≢true (sym none ∙ all_bits));
    }

-- what a case reads: its subject, the statement for other values, and the items
case-order : (a b c : Bool) → ((a || b) || c) ≡ (a || (c || b))
case-order a b c = or-assoc a b c ∙ ap (λ v. a || v) (or-comm b c)

pub case-gone : (n : ℕ) (old mid past new : Walk) (e o i v : ℕ → ℕ → Bool) → HasGone n old mid e → HasGone n mid past o → HasGone n past new i
    → ((s b : ℕ) → (e s b || (i s b || o s b)) ≡ v s b) → HasGone n old new v
case-gone n old mid past new e o i v read other items is =
    gone-named n old new (λ s b. (e s b || o s b) || i s b) v
    (gone-both n old past new (λ s b. e s b || o s b) i (gone-both n old mid past e o read other) items)
    (λ s b. case-order (e s b) (o s b) (i s b) ∙ is s b)

-- what a case surely assigns
case-bits : (every l x : Bool) → every ≡ false → (every || l) ≡ x → l ≡ x
case-bits true l x none is = absurd (false≢true (sym none))
case-bits false l x none is = is

turned : (x y : Bool) → (x && y) ≡ (y && x)
turned true y = sym (and-true y)
turned false true = refl
turned false false = refl

pub case-listed : {X : Type 0} (n : ℕ) (start shared : Shared) (items : List X) (full nothing : Bool) (o i v : ℕ → ℕ → Bool) → Shares n shared (λ s b. shares start s b && i s b)
    → (shared.every ≡ true → (start.every ≡ true) × (items ≡ [])) → start.every ≡ (nothing && full) → Lists n start.list.items o → (full ≡ true → 0 < length items)
    → ((s b : ℕ) → (i s b && ((nothing && full) || o s b)) ≡ v s b) → Lists n shared.list.items v
case-listed n start shared items full nothing o i v met every begins last some is =
    record {
      bits = λ s b within below.
          case-bits shared.every (lists shared.list.items s b) (v s b) (never shared.every refl)
          (met.bits s b within below
          ∙ ap (λ w. w && i s b) (ap₂ (λ p q. p || q) begins (last.bits s b within below))
          ∙ turned ((nothing && full) || o s b) (i s b) ∙ is s b);
    }
  where
    never : (b : Bool) → shared.every ≡ b → shared.every ≡ false
    never false e = e
    never true e =
        let both = every e in
        let is_full = (and_parts nothing full (sym begins ∙ both.0)).1 in
        let there = some is_full in
        absurd (omega (arith, there, ap length both.1))

-- ---- an assignment
pub set-listed : (n : ℕ) (given signals : List Signal) (parts whole : List Part) (list once : List SignalBits) (later : Bool) (v : ℕ → ℕ → Bool) → n ≡ length signals → given ≡ signals → parts ≡ whole
    → Lists (length given) list (λ s b. list_any (part_assigns given s b) parts) → ((s b : ℕ) → lists once s b ≡ (not later && lists list s b))
    → ((s b : ℕ) → (not later && list_any (part_assigns signals s b) whole) ≡ v s b) → Lists n once v
set-listed n given signals parts whole list once later v long same too listed at is =
    record {
      bits = λ s b within below.
          at s b ∙ ap (λ x. not later && x) (listed.bits s b (omega (arith, within, long, ap length same)) below
          ∙ ap₂ (λ g ps. list_any (part_assigns g s b) ps) same too) ∙ is s b;
    }

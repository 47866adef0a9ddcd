-- Steps of the loops over labels, statements, items and arms, and what fits in a statement as code makes it.
use Rattle.std.proofs.Common.{◌≡◌, ℕ, zero, suc, ◌+◌, ◌<◌, ◌≤◌, Bool, List, [], ◌∷◌, ◌++◌, length, get_or, drop, refl, sym, ◌∙◌, ap, subst, arith, drop-cons, length-append}
use Rattle.std.specs.Prelude.{◌&&◌, ◌==◌, IsTrue}
use Rattle.std.specs.List.{list_all, All}
use Rattle.std.proofs.lemmas.Bool.{and_parts, eqb-true}
use Rattle.std.proofs.lemmas.List.{drop_all, get_or_append_left}
use Rattle.std.proofs.Math.Seq.{get_or-append_seam}
use Rattle.std.proofs.lemmas.List.Elements.{All-append}
use Rattle.loc_base.specs.Bits.{width_of}
use denote.Hole.Carrier.{hidden}
use Rattle.design_core.specs.declared.signal.Signal.{Signal}
use Rattle.design_core.specs.declared.place.Place.{Place}
use Rattle.design_core.specs.declared.expression.BinaryOp.TheVariants as binary_op
use Rattle.design_core.specs.declared.expression.Typed.{Typed}
use Rattle.design_core.specs.declared.statement.Label.{Label}
use Rattle.design_core.specs.declared.statement.CaseItem.{CaseItem}
use Rattle.design_core.specs.declared.statement.Target.{Target}
use Rattle.design_core.specs.declared.statement.Stmt.{Stmt, Row_of-Stmt, end_of-Stmt, more_of-Stmt, items-the_row-Stmt, items_hidden-the_row-Stmt-0, Row_of-CaseItem, end_of-CaseItem, more_of-CaseItem, items-the_row-CaseItem, items_hidden-the_row-CaseItem-2}
use Rattle.design_core.specs.declared.statement.Stmt.TheVariants as stmt
use Rattle.design_core.specs.declared.statement.Stmt.TheBlock.{shape-the_row-Stmt-1, hidden-the_row-Stmt-1, hidden-the_row-Stmt-0, hidden-the_row-CaseItem-2}
use Rattle.design_core.specs.Store.{parts_width}
use Rattle.design_core.specs.WellFormed.{typed_fits, label_fits, assignment_fits, place_fits, statement_fits, statements_fit, items_fit}
use Rattle.word_net.specs.declared.node.Operand.{Operand}
use Rattle.word_net.specs.declared.node.Operation.TheVariants as operation
use Rattle.word_net.specs.declared.node.WordNode.{WordNode}
use Rattle.word_net.specs.Build.{Made, made, pushed}
use Rattle.node_map.specs.Entries.{put}
use Rattle.synth_parts.specs.declared.statement.Arm.{Arm}
use Rattle.synth_parts.specs.Expression.{unsigned, typed_made}
use Rattle.synth_parts.specs.Statement.{Maps, maps, set_made, label_made, labels_made, item_test, merged, statement_made, statements_made, items_made}
use Rattle.synth_parts.specs.Arms.{StatementFits, StatementsFit, item_fits, ItemsFit, condition_made, all_made, case_made, closed, ArmFits}
use Rattle.synth_parts.proofs.MergeSteps.{merged-arm}

-- ---- labels

pub label-parts : (signals : List Signal) (width : ℕ) (label : Label) → IsTrue (label_fits signals width label) → IsTrue (typed_fits signals label.value) × (label.value.width ≡ width)
label-parts signals width label h =
    let f = (and_parts (typed_fits signals label.value && (label.value.width == width)) (width_of label.wild == width) h).0 in
    let g = and_parts (typed_fits signals label.value) (label.value.width == width) f in (g.0, eqb-true label.value.width width g.1)

pub ruleset label_steps = (label-parts)

front : {X : Type 0} (xs : List X) (i : ℕ) (x : X) → i < length xs → x ≡ get_or xs i x → drop i xs ≡ x ∷ drop (i + 1) xs
front xs i x within is =
    let next : suc i ≡ i + 1 = omega arith in
    drop-cons xs i x within ∙ ap (λ y. y ∷ drop (suc i) xs) (sym is) ∙ ap (λ k. x ∷ drop k xs) next

pub all-next : {X : Type 0} (test : X → Bool) (xs : List X) (i : ℕ) (x : X) → i < length xs → x ≡ get_or xs i x → IsTrue (list_all test (drop i xs)) → IsTrue (test x) × IsTrue (list_all test (drop (i + 1) xs))
all-next test xs i x within is h = and_parts (test x) (list_all test (drop (i + 1) xs)) (subst (λ ys. IsTrue (list_all test ys)) (front xs i x within is) h)

pub labels-next : (signals : List Signal) (now : List ℕ) (nodes below after : List WordNode) (so_far is n : ℕ) (subject : Operand) (i : ℕ) (labels : List Label) (label : Label) → i < length labels → label ≡ get_or labels i label
    → made below is ≡ label_made signals now nodes subject label → made after n ≡ pushed below 1 (operation.Binary binary_op.Or (unsigned so_far 1) (unsigned is 1))
    → labels_made signals now nodes so_far subject (drop i labels) ≡ labels_made signals now after n subject (drop (i + 1) labels)
unfolding labels_made
labels-next signals now nodes below after so_far is n subject i labels label within here l m =
    let rest : List Label = drop (i + 1) labels in
    let joined : Made → Made = λ k. pushed k.nodes 1 (operation.Binary binary_op.Or (unsigned so_far 1) (unsigned k.node 1)) in
    ap (labels_made signals now nodes so_far subject) (front labels i label within here)
    ∙ ap (λ (k : Made). labels_made signals now (joined k).nodes (joined k).node subject rest) (sym l)
    ∙ ap (λ (k : Made). labels_made signals now k.nodes k.node subject rest) (sym m)

pub labels-end : (signals : List Signal) (now : List ℕ) (nodes : List WordNode) (so_far : ℕ) (subject : Operand) (i : ℕ) (labels : List Label) → length labels ≤ i
    → labels_made signals now nodes so_far subject (drop i labels) ≡ made nodes so_far
unfolding labels_made
labels-end signals now nodes so_far subject i labels past = ap (labels_made signals now nodes so_far subject) (drop_all i labels past)

pub label_fits-next : (signals : List Signal) (width : ℕ) (labels : List Label) (i : ℕ) (label : Label) → i < length labels → label ≡ get_or labels i label → IsTrue (list_all (label_fits signals width) (drop i labels))
    → IsTrue (label_fits signals width label) × IsTrue (list_all (label_fits signals width) (drop (i + 1) labels))
label_fits-next signals width labels i label within is h = all-next (label_fits signals width) labels i label within is h

pub ruleset labels_steps = (labels-next, labels-end, label_fits-next)

-- ---- arms

closed-append : (signals : List Signal) (current later : List ℕ) (rest back : List Arm) (m : Maps) → closed signals current later (rest ++ back) m ≡ closed signals current later rest (closed signals current later back m)
unfolding closed
closed-append signals current later [] back m = refl
closed-append signals current later (arm ∷ rest) back m =
    ap (λ k. merged signals arm.test (maps [] (put arm.kept.current current) (put arm.kept.later later)) k 0 (length signals)) (closed-append signals current later rest back m)

pub closed-last : (signals : List Signal) (current later : List ℕ) (arms rest : List Arm) (arm : Arm) (nodes after : List WordNode) (now past now' past' : List ℕ) → arms ≡ rest ++ arm ∷ []
    → maps after now' past' ≡ merged signals arm.test (maps [] (put arm.kept.current current) (put arm.kept.later later)) (maps nodes now past) 0 (length signals)
    → closed signals current later arms (maps nodes now past) ≡ closed signals current later rest (maps after now' past')
unfolding closed
closed-last signals current later arms rest arm nodes after now past now' past' is m =
    ap (λ a. closed signals current later a (maps nodes now past)) is ∙ closed-append signals current later rest (arm ∷ []) (maps nodes now past) ∙ ap (closed signals current later rest) (sym m)

pub closed-none : (signals : List Signal) (current later : List ℕ) (arms : List Arm) (nodes : List WordNode) (now past : List ℕ) → arms ≡ [] → closed signals current later arms (maps nodes now past) ≡ maps nodes now past
unfolding closed
closed-none signals current later arms nodes now past is = ap (λ a. closed signals current later a (maps nodes now past)) is

pub closed-empty : (signals : List Signal) (current later : List ℕ) (arms : List Arm) (m : Maps) → arms ≡ [] → closed signals current later arms m ≡ m
unfolding closed
closed-empty signals current later arms m is = ap (λ a. closed signals current later a m) is

last-fits : (signals : List Signal) (rest : List Arm) (arm : Arm) → All (ArmFits signals) (rest ++ arm ∷ []) → All (ArmFits signals) rest × ArmFits signals arm
last-fits signals rest arm h =
    let long : length (rest ++ arm ∷ []) ≡ length rest + 1 = length-append rest (arm ∷ []) in (
      λ k d within. subst (ArmFits signals) (get_or_append_left rest (arm ∷ []) d k within) (h k d (omega (arith, within, long))),
      subst (ArmFits signals) (get_or-append_seam rest arm [] arm) (h (length rest) arm (omega (arith, long))),
    )

pub arms-last : (signals : List Signal) (arms rest : List Arm) (arm : Arm) → arms ≡ rest ++ arm ∷ [] → All (ArmFits signals) arms → All (ArmFits signals) rest × ArmFits signals arm
arms-last signals arms rest arm is h = last-fits signals rest arm (subst (All (ArmFits signals)) is h)

pub shorter : (arms rest : List Arm) (arm : Arm) → arms ≡ rest ++ arm ∷ [] → length rest < length arms
shorter arms rest arm is = omega (arith, ap length is, length-append rest (arm ∷ []))

single : (signals : List Signal) (arm : Arm) → ArmFits signals arm → All (ArmFits signals) (arm ∷ [])
single signals arm h zero d within = h
single signals arm h (suc k) d within = absurd (omega (arith, within))

pub arms-push : (signals : List Signal) (arms after : List Arm) (arm : Arm) → after ≡ arms ++ arm ∷ [] → All (ArmFits signals) arms → ArmFits signals arm → All (ArmFits signals) after
arms-push signals arms after arm is h a = subst (All (ArmFits signals)) (sym is) (All-append (ArmFits signals) arms (arm ∷ []) h (single signals arm a))

pub ruleset close_steps = (closed-last, closed-none, arms-last, shorter)

-- an arm behind those that were run
pub run-next : (signals : List Signal) (nodes between after : List WordNode) (now later : List ℕ) (subject : Operand) (test : ℕ) (arms : List Arm) (arm : Arm) (i : ℕ) (items : List CaseItem) (item : CaseItem) (other : Maps → Maps)
    → i < length items → item ≡ get_or items i item → made between test ≡ item_test signals now nodes subject item.labels → arm.test ≡ test
    → maps after (put arm.kept.current now) (put arm.kept.later later) ≡ statement_made signals (maps between now later) item.body
    → closed signals now later arms (case_made signals (maps nodes now later) subject (drop i items) other)
    ≡ closed signals now later (arms ++ arm ∷ []) (case_made signals (maps after now later) subject (drop (i + 1) items) other)
unfolding case_made closed
run-next signals nodes between after now later subject test arms arm i items item other within is t named m =
    let rest : List CaseItem = drop (i + 1) items in
    let current : List ℕ = put arm.kept.current now in
    let past : List ℕ = put arm.kept.later later in
    let last : Made → Maps → Maps = λ k one. merged signals k.node one (case_made signals (maps one.nodes now later) subject rest other) 0 (length signals) in
    let run : Made → Maps = λ k. last k (statement_made signals (maps k.nodes now later) item.body) in
    let next : Maps = case_made signals (maps after now later) subject rest other in
    ap (λ xs. closed signals now later arms (case_made signals (maps nodes now later) subject xs other)) (front items i item within is)
    ∙ ap (λ k. closed signals now later arms (run k)) (sym t)
    ∙ ap (λ one. closed signals now later arms (last (made between test) one)) (sym m)
    ∙ ap (closed signals now later arms) (merged-arm signals test current past after [] (length signals) 0 next)
    ∙ ap (λ k. closed signals now later arms (merged signals k (maps [] current past) next 0 (length signals))) (sym named)
    ∙ sym (closed-append signals now later arms (arm ∷ []) next)

pub run-end : (signals : List Signal) (m : Maps) (subject : Operand) (i : ℕ) (items : List CaseItem) (other : Maps → Maps) → length items ≤ i → case_made signals m subject (drop i items) other ≡ other m
unfolding case_made
run-end signals m subject i items other past = ap (λ xs. case_made signals m subject xs other) (drop_all i items past)

-- ---- statements in order

pub all_made-next : (signals : List Signal) (m after : Maps) (i : ℕ) (statements : List Stmt) (statement : Stmt) → i < length statements → statement ≡ get_or statements i statement
    → after ≡ statement_made signals m statement → all_made signals m (drop i statements) ≡ all_made signals after (drop (i + 1) statements)
unfolding all_made
all_made-next signals m after i statements statement within is s =
    ap (all_made signals m) (front statements i statement within is) ∙ ap (λ k. all_made signals k (drop (i + 1) statements)) (sym s)

pub all_made-end : (signals : List Signal) (m : Maps) (i : ℕ) (statements : List Stmt) → length statements ≤ i → all_made signals m (drop i statements) ≡ m
unfolding all_made
all_made-end signals m i statements past = ap (all_made signals m) (drop_all i statements past)

pub statements_fit-next : (signals : List Signal) (statements : List Stmt) (i : ℕ) (statement : Stmt) → i < length statements → statement ≡ get_or statements i statement
    → StatementsFit signals (drop i statements) → StatementFits signals statement × StatementsFit signals (drop (i + 1) statements)
statements_fit-next signals statements i statement within is h =
    let r = all-next (statement_fits signals h.places) statements i statement within is h.fits in (record { places = h.places; fits = r.0 }, record { places = h.places; fits = r.1 })

pub ruleset all_steps = (all_made-next, all_made-end, statements_fit-next)

-- ---- what a statement makes

all-list : {shape : _} (signals : List Signal) (m : Maps) (row : Row_of-Stmt shape) → statements_made signals m row ≡ all_made signals m (items-the_row-Stmt shape row)
unfolding statements_made all_made
all-list signals m end_of-Stmt = refl
all-list signals m (more_of-Stmt statement rest) = all-list signals (statement_made signals m statement) rest

pub made_block : (signals : List Signal) (m : Maps) (statements : List Stmt) → statement_made signals m (stmt.Block statements) ≡ all_made signals m statements
unfolding statement_made
made_block signals m statements = all-list signals m (hidden-the_row-Stmt-0 statements) ∙ ap (all_made signals m) (items_hidden-the_row-Stmt-0 statements)

pub made_if : (signals : List Signal) (m : Maps) (test : Typed) (on_true on_false : Stmt)
    → statement_made signals m (stmt.If test on_true on_false)
    ≡ (let t = condition_made signals m.now m.nodes test in
    let one = statement_made signals (maps t.nodes m.now m.later) on_true in
    let other = statement_made signals (maps one.nodes m.now m.later) on_false in
    merged signals t.node one other 0 (length signals))
unfolding shape-the_row-Stmt-1 hidden-the_row-Stmt-1 hidden statement_made
made_if signals m test on_true on_false = refl

items-list : {shape : _} (signals : List Signal) (m : Maps) (subject : Operand) (row : Row_of-CaseItem shape) (other : Maps → Maps)
    → items_made signals m subject row other ≡ case_made signals m subject (items-the_row-CaseItem shape row) other
unfolding items_made case_made
items-list signals m subject end_of-CaseItem other = refl
items-list signals m subject (more_of-CaseItem labels body rest) other =
    let t = item_test signals m.now m.nodes subject labels in
    let one = statement_made signals (maps t.nodes m.now m.later) body in
    ap (λ next. merged signals t.node one next 0 (length signals)) (items-list signals (maps one.nodes m.now m.later) subject rest other)

pub made_case : (signals : List Signal) (m : Maps) (subject : Typed) (items : List CaseItem) (other : Stmt) (wild : Bool)
    → statement_made signals m (stmt.Case subject items other wild)
    ≡ (let v = typed_made signals m.now m.nodes subject in
    case_made signals (maps v.nodes m.now m.later) (unsigned v.node subject.width) items (λ k. statement_made signals k other))
unfolding shape-the_row-Stmt-1 hidden-the_row-Stmt-1 hidden statement_made
made_case signals m subject items other wild =
    let v = typed_made signals m.now m.nodes subject in
    let k : Maps = maps v.nodes m.now m.later in
    let o : Operand = unsigned v.node subject.width in
    items-list signals k o (hidden-the_row-CaseItem-2 items) (λ k. statement_made signals k other)
    ∙ ap (λ is. case_made signals k o is (λ k. statement_made signals k other)) (items_hidden-the_row-CaseItem-2 items)

pub made_set : (signals : List Signal) (m : Maps) (place : ℕ) (target : Target) (computed : Typed) (later : Bool)
    → statement_made signals m (stmt.Set place target computed later) ≡ set_made signals m place target.parts computed later
unfolding statement_made
made_set signals m place target computed later = refl

pub made_nothing : (signals : List Signal) (m : Maps) → statement_made signals m stmt.Nothing ≡ m
unfolding statement_made
made_nothing signals m = refl

-- ---- what fits in a statement

block-list : {shape : _} (signals : List Signal) (places : List Place) (row : Row_of-Stmt shape) → statements_fit signals places row ≡ list_all (statement_fits signals places) (items-the_row-Stmt shape row)
block-list signals places end_of-Stmt = refl
block-list signals places (more_of-Stmt statement rest) = ap (λ b. statement_fits signals places statement && b) (block-list signals places rest)

pub block-fits : (signals : List Signal) (statements : List Stmt) → StatementFits signals (stmt.Block statements) → StatementsFit signals statements
block-fits signals statements h =
    let same : statements_fit signals h.places (hidden-the_row-Stmt-0 statements) ≡ list_all (statement_fits signals h.places) statements =
    block-list signals h.places (hidden-the_row-Stmt-0 statements) ∙ ap (list_all (statement_fits signals h.places)) (items_hidden-the_row-Stmt-0 statements) in
    record { places = h.places; fits = sym same ∙ h.fits }

pub record IfFits (signals : List Signal) (test : Typed) (on_true on_false : Stmt) : Type 0 where
  pub cond : IsTrue (typed_fits signals test)
  pub yes : StatementFits signals on_true
  pub no : StatementFits signals on_false

pub if-fits : (signals : List Signal) (test : Typed) (on_true on_false : Stmt) → StatementFits signals (stmt.If test on_true on_false) → IfFits signals test on_true on_false
unfolding shape-the_row-Stmt-1 hidden-the_row-Stmt-1 hidden
if-fits signals test on_true on_false h =
    let a : Bool = typed_fits signals test in
    let b : Bool = statement_fits signals h.places on_true in
    let f = and_parts (a && b) (statement_fits signals h.places on_false) h.fits in
    let g = and_parts a b f.0 in
    record { cond = g.0; yes = record { places = h.places; fits = g.1 }; no = record { places = h.places; fits = f.1 } }

items-fits : {shape : _} (signals : List Signal) (places : List Place) (width : ℕ) (row : Row_of-CaseItem shape)
    → items_fit signals places width row ≡ list_all (item_fits signals places width) (items-the_row-CaseItem shape row)
items-fits signals places width end_of-CaseItem = refl
items-fits signals places width (more_of-CaseItem labels body rest) =
    ap (λ b. list_all (label_fits signals width) labels && statement_fits signals places body && b) (items-fits signals places width rest)

pub record CaseFits (signals : List Signal) (test : Typed) (rows : List CaseItem) (last : Stmt) : Type 0 where
  pub subject : IsTrue (typed_fits signals test)
  pub items : ItemsFit signals test.width rows
  pub other : StatementFits signals last

pub case-fits : (signals : List Signal) (subject : Typed) (items : List CaseItem) (other : Stmt) (wild : Bool) → StatementFits signals (stmt.Case subject items other wild) → CaseFits signals subject items other
unfolding shape-the_row-Stmt-1 hidden-the_row-Stmt-1 hidden
case-fits signals subject items other wild h =
    let row = hidden-the_row-CaseItem-2 items in
    let all : items_fit signals h.places subject.width row ≡ list_all (item_fits signals h.places subject.width) items =
    items-fits signals h.places subject.width row ∙ ap (list_all (item_fits signals h.places subject.width)) (items_hidden-the_row-CaseItem-2 items) in
    let a : Bool = typed_fits signals subject in
    let b : Bool = items_fit signals h.places subject.width row in
    let f = and_parts (a && b) (statement_fits signals h.places other) h.fits in
    let g = and_parts a b f.0 in
    record { subject = g.0; items = record { places = h.places; fits = sym all ∙ g.1 }; other = record { places = h.places; fits = f.1 } }

pub set-fits : (signals : List Signal) (place : ℕ) (target : Target) (computed : Typed) (later : Bool) → StatementFits signals (stmt.Set place target computed later)
    → IsTrue (assignment_fits signals target.parts computed)
set-fits signals place target computed later h =
    (and_parts (assignment_fits signals target.parts computed) (place_fits h.places (parts_width signals target.parts) place) h.fits).0

pub record ItemFits (signals : List Signal) (width : ℕ) (item : CaseItem) (items : List CaseItem) : Type 0 where
  pub labels : IsTrue (list_all (label_fits signals width) item.labels)
  pub body : StatementFits signals item.body
  pub rest : ItemsFit signals width items

pub items_fit-next : (signals : List Signal) (width : ℕ) (items : List CaseItem) (i : ℕ) (item : CaseItem) → i < length items → item ≡ get_or items i item
    → ItemsFit signals width (drop i items) → ItemFits signals width item (drop (i + 1) items)
items_fit-next signals width items i item within is h =
    let r = all-next (item_fits signals h.places width) items i item within is h.fits in
    let g = and_parts (list_all (label_fits signals width) item.labels) (statement_fits signals h.places item.body) r.0 in
    record { labels = g.0; body = record { places = h.places; fits = g.1 }; rest = record { places = h.places; fits = r.1 } }

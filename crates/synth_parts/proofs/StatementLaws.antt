-- The maps that a statement leaves show what the statement does.
use Rattle.std.proofs.Common.{◌≡◌, ℕ, ◌^◌, ◌<◌, ◌≤◌, Bool, true, false, List, [], ◌∷◌, refl, sym, ◌∙◌, ap, ap₂, subst, arith}
use Rattle.std.specs.Prelude.{◌&&◌, ◌||◌, ◌==◌, nat_le, if◌then◌else◌, bit_or}
use Rattle.std.specs.List.{list_all, list_any}
use Rattle.std.proofs.lemmas.Bool.{and_parts, and_from, leb-true, eqb-true, eq-eqb}
use Rattle.std.proofs.lemmas.Nat.{pow_pos}
use Rattle.loc_base.specs.Bits.{width_of, value_of, value_of-range}
use Rattle.loc_base.proofs.ShelfBools.{or-assoc, or-false}
use Rattle.design_core.specs.declared.signal.Signal.{Signal}
use Rattle.design_core.specs.declared.place.Place.{Place}
use Rattle.design_core.specs.declared.expression.BinaryOp.TheVariants as binary_op
use Rattle.design_core.specs.declared.expression.Typed.{Typed}
use Rattle.design_core.specs.declared.statement.Part.{Part}
use Rattle.design_core.specs.declared.statement.Label.{Label}
use Rattle.design_core.specs.declared.statement.Stmt.{Stmt, Row_of-Stmt, end_of-Stmt, more_of-Stmt, Row_of-CaseItem, end_of-CaseItem, more_of-CaseItem}
use Rattle.design_core.specs.declared.statement.Stmt.TheVariants.{Nothing, Block', If', Case', Set}
use Rattle.design_core.specs.Valuation.{Valuation, bit, number}
use Rattle.design_core.specs.Operator.{is_true, one_if}
use Rattle.design_core.specs.Value.{value}
use Rattle.design_core.specs.Store.{parts_width, store}
use Rattle.design_core.specs.After.{assigned, Updates, matches, after_set, after, after_all, after_case}
use Rattle.design_core.specs.WellFormed.{is_width, signal_fits, typed_fits, part_fits, place_fits, assignment_fits, label_fits, statement_fits, statements_fit, items_fit}
use Rattle.design_core.proofs.StoreBits.{store-bits}
use Rattle.word_net.specs.declared.node.Operand.{Operand}
use Rattle.word_net.specs.declared.node.Operation.TheVariants as operation
use Rattle.word_net.specs.declared.node.WordNode.{WordNode}
use Rattle.word_net.specs.Values.{Source}
use Rattle.word_net.specs.Build.{Made, pushed, Means, Grown, Gives}
use Rattle.word_net.proofs.Meaning.{keep, grown-then, grown-none, pushed-gives}
use Rattle.synth_parts.specs.Expression.{unsigned, truth_made, typed_made}
use Rattle.synth_parts.specs.Store.{Nodes, indexes_made, parts_stored}
use Rattle.synth_parts.specs.Statement.{Maps, maps, set_made, label_made, labels_made, item_test, statement_made, statements_made, items_made}
use Rattle.synth_parts.specs.Meaning.{Shows, ShowsIn, ShowsBoth, ShowsBothIn}
use Rattle.synth_parts.proofs.Base.{bit-number, gives-then, keep-shows, keep-both}
use Rattle.synth_parts.proofs.Expression.{expression-law, node-wide, truth-law}
use Rattle.synth_parts.proofs.StoreLaws.{AreIndexes, indexes-law, store-law}
use Rattle.synth_parts.proofs.MergeLaws.{merged-law}

-- ---- assignments

-- a value of at least the left side's width, its indexes, and the store
pub assigned-law : {e : Source} {signals : List Signal} {nodes : List WordNode} {read nodes_of : List ℕ} {E M : Valuation} (parts : List Part) (v : ℕ) (word : Operand) (bits : ℕ → Bool)
    → list_all signal_fits signals ≡ true → list_all (part_fits signals) parts ≡ true → parts_width signals parts ≤ word.width
    → Shows e signals nodes read E → Shows e signals nodes nodes_of M → Means e nodes word.node word.width v
    → ((b : ℕ) → b < parts_width signals parts → bit v b ≡ bits b)
    → ShowsIn e signals nodes (parts_stored signals (indexes_made signals read nodes [] parts).nodes nodes_of parts (indexes_made signals read nodes [] parts).each word) (store signals E M parts bits)
assigned-law {e} {signals} {nodes} {read} {nodes_of} {E} {M} parts v word bits own fits wide reads writes m same =
    let i = indexes-law parts [] own fits reads in
    let made : Nodes = indexes_made signals read nodes [] parts in
    let are = subst (λ ns. AreIndexes e signals made.nodes E parts ns) (sym i.is) i.are in
    let s = store-law parts made.each v word own fits are (keep i.grown m) wide (keep-shows i.grown writes) in
    record {
      grown = grown-then i.grown s.grown;
      shows = subst (λ N. Shows e signals (parts_stored signals made.nodes nodes_of parts made.each word).nodes (parts_stored signals made.nodes nodes_of parts made.each word).each N)
          (store-bits signals E M parts (bit v) bits same) s.shows;
    }

set-law : {e : Source} {signals : List Signal} {u : Updates} (m : Maps) (places : List Place) (place : ℕ) (parts : List Part) (computed : Typed) (later : Bool)
    → list_all signal_fits signals ≡ true → (assignment_fits signals parts computed && place_fits places (parts_width signals parts) place) ≡ true → ShowsBoth e signals m u
    → ShowsBothIn e signals m.nodes (set_made signals m place parts computed later) (after_set signals parts (bit (assigned e.choice place (value signals u.now computed))) later u)
unfolding set_made
set-law {e} {signals} {u} m places place parts computed later own fits both =
    let width : ℕ = parts_width signals parts in
    let all : Bool = list_all (part_fits signals) parts in
    let f = and_parts (assignment_fits signals parts computed) (place_fits places width place) fits in
    let g = and_parts (all && is_width width && typed_fits signals computed) (nat_le width computed.width) f.0 in
    let h = and_parts (all && is_width width) (typed_fits signals computed) g.0 in
    let k = and_parts all (is_width width) h.0 in
    let v = expression-law computed.width computed.signed computed.node own h.1 both.now in
    let mv : Made = typed_made signals m.now m.nodes computed in
    let x : ℕ = assigned e.choice place (value signals u.now computed) in
    let f_op = operation.Free place (unsigned mv.node computed.width) in
    let free = pushed-gives e mv.nodes width f_op (number width (bit x)) k.1 (v.means.there, leb-true width computed.width g.1)
    (ap (λ n. number width (bit (assigned e.choice place n))) v.means.is) in
    let mf : Made = pushed mv.nodes width f_op in
    let grown = grown-then v.grown free.grown in
    at later own k.0 grown (keep-shows grown both.now) (keep-shows grown both.later) free.means (λ b low. bit-number width (bit x) b low)
  where
    w : ℕ
    w = parts_width signals parts

    mv : Made
    mv = typed_made signals m.now m.nodes computed

    mf : Made
    mf = pushed mv.nodes w (operation.Free place (unsigned mv.node computed.width))

    i : Nodes
    i = indexes_made signals m.now mf.nodes [] parts

    x : ℕ
    x = assigned e.choice place (value signals u.now computed)

    into_later : Nodes
    into_later = parts_stored signals i.nodes m.later parts i.each (unsigned mf.node w)

    into_now : Nodes
    into_now = parts_stored signals i.nodes m.now parts i.each (unsigned mf.node w)

    at : (later : Bool) → list_all signal_fits signals ≡ true → list_all (part_fits signals) parts ≡ true → Grown m.nodes mf.nodes → Shows e signals mf.nodes m.now u.now → Shows e signals mf.nodes m.later u.later
        → Means e mf.nodes mf.node w (number w (bit x)) → ((b : ℕ) → b < w → bit (number w (bit x)) b ≡ bit x b)
        → ShowsBothIn e signals m.nodes (if later then maps into_later.nodes m.now into_later.each else maps into_now.nodes into_now.each m.later) (after_set signals parts (bit x) later u)
    at true own fits grown now later means same =
        let s = assigned-law parts (number w (bit x)) (unsigned mf.node w) (bit x) own fits (omega arith) now later means same in
        record { grown = grown-then grown s.grown; shows = record { now = keep-shows s.grown now; later = s.shows } }
    at false own fits grown now later means same =
        let s = assigned-law parts (number w (bit x)) (unsigned mf.node w) (bit x) own fits (omega arith) now now means same in
        record { grown = grown-then grown s.grown; shows = record { now = s.shows; later = keep-shows s.grown later } }

-- ---- labels

same-widths : (w : ℕ) → ((w == w) && (w == w)) ≡ true
same-widths w = and_from (w == w) (w == w) (eq-eqb w w refl) (eq-eqb w w refl)

label-law : {e : Source} {signals : List Signal} {nodes : List WordNode} {now : List ℕ} {V : Valuation} (subject : Operand) (sv : ℕ) (label : Label)
    → list_all signal_fits signals ≡ true → is_width subject.width ≡ true → label_fits signals subject.width label ≡ true → Shows e signals nodes now V → Means e nodes subject.node subject.width sv
    → Gives e nodes (label_made signals now nodes subject label) 1 (one_if (matches signals V sv label))
unfolding label_made
label-law {e} {signals} {nodes} {now} {V} subject sv label own wide fits shows s =
    let width : ℕ = subject.width in
    let f = and_parts (typed_fits signals label.value && (label.value.width == width)) (width_of label.wild == width) fits in
    let g = and_parts (typed_fits signals label.value) (label.value.width == width) f.0 in
    let lv : ℕ = value signals V label.value in
    let wv : ℕ = value_of label.wild in
    let v = expression-law label.value.width label.value.signed label.value.node own g.0 shows in
    let mv : Made = typed_made signals now nodes label.value in
    let vm = subst (λ w. Means e mv.nodes mv.node w lv) (eqb-true label.value.width width g.1) v.means in
    let w = pushed-gives e mv.nodes width (operation.Const wv) wv wide (subst (λ k. wv < 2 ^ k) (eqb-true (width_of label.wild) width f.1) (value_of-range label.wild)) refl in
    let mw : Made = pushed mv.nodes width (operation.Const wv) in
    let s1 = keep (grown-then v.grown w.grown) s in
    let one_op = operation.Binary binary_op.Or subject (unsigned mw.node width) in
    let one = pushed-gives e mw.nodes width one_op (bit_or sv wv) wide (s1.there, w.means.there, same-widths width) (ap₂ bit_or s1.is w.means.is) in
    let m1 : Made = pushed mw.nodes width one_op in
    let v2 = keep (grown-then w.grown one.grown) vm in
    let w2 = keep one.grown w.means in
    let other_op = operation.Binary binary_op.Or (unsigned mv.node width) (unsigned mw.node width) in
    let other = pushed-gives e m1.nodes width other_op (bit_or lv wv) wide (v2.there, w2.there, same-widths width) (ap₂ bit_or v2.is w2.is) in
    let m2 : Made = pushed m1.nodes width other_op in
    let one2 = keep other.grown one.means in
    gives-then (grown-then v.grown (grown-then w.grown (grown-then one.grown other.grown)))
    (pushed-gives e m2.nodes 1 (operation.Binary binary_op.Equal (unsigned m1.node width) (unsigned m2.node width)) (one_if (matches signals V sv label)) refl
    (one2.there, other.means.there, eq-eqb width width refl) (ap₂ (λ a b. one_if (a == b)) one2.is other.means.is))

or-bits : (a b : Bool) → bit_or (one_if a) (one_if b) ≡ one_if (a || b)
or-bits true true = refl
or-bits true false = refl
or-bits false true = refl
or-bits false false = refl

labels-law : {e : Source} {signals : List Signal} {now : List ℕ} {V : Valuation} (labels : List Label) {nodes : List WordNode} (so_far : ℕ) (subject : Operand) (sv : ℕ) (t : Bool)
    → list_all signal_fits signals ≡ true → is_width subject.width ≡ true → list_all (label_fits signals subject.width) labels ≡ true → Shows e signals nodes now V → Means e nodes subject.node subject.width sv
    → Means e nodes so_far 1 (one_if t)
    → Gives e nodes (labels_made signals now nodes so_far subject labels) 1 (one_if (t || list_any (matches signals V sv) labels))
unfolding labels_made
labels-law {e} [] {nodes} so_far subject sv t own wide fits shows s m =
    record { grown = grown-none nodes; means = subst (λ b. Means e nodes so_far 1 (one_if b)) (sym (or-false t)) m }
labels-law {e} {signals} {now} {V} (label ∷ labels) {nodes} so_far subject sv t own wide fits shows s m =
    let f = and_parts (label_fits signals subject.width label) (list_all (label_fits signals subject.width) labels) fits in
    let here : Bool = matches signals V sv label in
    let rest : Bool = list_any (matches signals V sv) labels in
    let l = label-law subject sv label own wide f.0 shows s in
    let ml : Made = label_made signals now nodes subject label in
    let m1 = keep l.grown m in
    let or_op = operation.Binary binary_op.Or (unsigned so_far 1) (unsigned ml.node 1) in
    let o = pushed-gives e ml.nodes 1 or_op (one_if (t || here)) refl (m1.there, l.means.there, refl) (ap₂ bit_or m1.is l.means.is ∙ or-bits t here) in
    let grown = grown-then l.grown o.grown in
    let all = labels-law labels (pushed ml.nodes 1 or_op).node subject sv (t || here) own wide f.1 (keep-shows grown shows) (keep grown s) o.means in
    gives-then grown (subst (λ b. Gives e (pushed ml.nodes 1 or_op).nodes (labels_made signals now (pushed ml.nodes 1 or_op).nodes (pushed ml.nodes 1 or_op).node subject labels) 1 (one_if b)) (or-assoc t here rest) all)

item-law : {e : Source} {signals : List Signal} {now : List ℕ} {V : Valuation} (labels : List Label) {nodes : List WordNode} (subject : Operand) (sv : ℕ)
    → list_all signal_fits signals ≡ true → is_width subject.width ≡ true → list_all (label_fits signals subject.width) labels ≡ true → Shows e signals nodes now V → Means e nodes subject.node subject.width sv
    → Gives e nodes (item_test signals now nodes subject labels) 1 (one_if (list_any (matches signals V sv) labels))
unfolding item_test
item-law {e} labels {nodes} subject sv own wide fits shows s =
    let none = pushed-gives e nodes 1 (operation.Const 0) 0 refl (pow_pos 1) refl in
    gives-then none.grown (labels-law labels (pushed nodes 1 (operation.Const 0)).node subject sv false own wide fits (keep-shows none.grown shows) (keep none.grown s) none.means)

-- ---- statements
mutual
  unfolding statement_made statements_made items_made

  pub statement-law : {e : Source} {signals : List Signal} (places : List Place) (statement : Stmt) (m : Maps) {u : Updates} → list_all signal_fits signals ≡ true
      → statement_fits signals places statement ≡ true → ShowsBoth e signals m u → ShowsBothIn e signals m.nodes (statement_made signals m statement) (after signals e.choice statement u)
  statement-law places Nothing m own fits both = record { grown = grown-none m.nodes; shows = both }
  statement-law places (Block' _ statements) m own fits both = statements-law places statements m own fits both
  statement-law {e} {signals} places (If' test _ (more_of-Stmt on_true end_of-Stmt) _ (more_of-Stmt on_false end_of-Stmt)) m {u} own fits both =
      let f = and_parts (typed_fits signals test && statement_fits signals places on_true) (statement_fits signals places on_false) fits in
      let g = and_parts (typed_fits signals test) (statement_fits signals places on_true) f.0 in
      let c = expression-law test.width test.signed test.node own g.0 both.now in
      let mc : Made = typed_made signals m.now m.nodes test in
      let t = truth-law c.means in
      let mt : Made = truth_made mc.nodes mc.node test.width in
      let start = grown-then c.grown t.grown in
      let one = statement-law places on_true (maps mt.nodes m.now m.later) own g.1 (keep-both start both) in
      let arm : Maps = statement_made signals (maps mt.nodes m.now m.later) on_true in
      let other = statement-law places on_false (maps arm.nodes m.now m.later) own f.1 (keep-both (grown-then start one.grown) both) in
      let rest : Maps = statement_made signals (maps arm.nodes m.now m.later) on_false in
      let all = merged-law arm rest (is_true (value signals u.now test)) (after signals e.choice on_true u) (after signals e.choice on_false u) own
      (keep (grown-then one.grown other.grown) t.means) (keep-shows other.grown one.shows.now) (keep-shows other.grown one.shows.later) other.shows in
      record { grown = grown-then start (grown-then one.grown (grown-then other.grown all.grown)); shows = all.shows }
  statement-law {e} {signals} places (Case' subject _ items _ (more_of-Stmt other end_of-Stmt) _) m {u} own fits both =
      let f = and_parts (typed_fits signals subject && items_fit signals places subject.width items) (statement_fits signals places other) fits in
      let g = and_parts (typed_fits signals subject) (items_fit signals places subject.width items) f.0 in
      let v = expression-law subject.width subject.signed subject.node own g.0 both.now in
      let mv : Made = typed_made signals m.now m.nodes subject in
      let all = items-law places items (maps mv.nodes m.now m.later) (unsigned mv.node subject.width) (value signals u.now subject) (λ k. statement_made signals k other) (after signals e.choice other u)
      own (node-wide signals subject.width subject.signed subject.node g.0) g.1 (keep-both v.grown both) v.means (λ k shows. statement-law places other k own f.1 shows) in
      record { grown = grown-then v.grown all.grown; shows = all.shows }
  statement-law places (Set place target computed later) m own fits both = set-law m places place target.parts computed later own fits both

  pub statements-law : {e : Source} {signals : List Signal} {shape : _} (places : List Place) (statements : Row_of-Stmt shape) (m : Maps) {u : Updates} → list_all signal_fits signals ≡ true
      → statements_fit signals places statements ≡ true → ShowsBoth e signals m u → ShowsBothIn e signals m.nodes (statements_made signals m statements) (after_all signals e.choice statements u)
  statements-law places end_of-Stmt m own fits both = record { grown = grown-none m.nodes; shows = both }
  statements-law {e} {signals} places (more_of-Stmt statement rest) m own fits both =
      let f = and_parts (statement_fits signals places statement) (statements_fit signals places rest) fits in
      let one = statement-law places statement m own f.0 both in
      let all = statements-law places rest (statement_made signals m statement) own f.1 one.shows in
      record { grown = grown-then one.grown all.grown; shows = all.shows }

  pub items-law : {e : Source} {signals : List Signal} {shape : _} (places : List Place) (items : Row_of-CaseItem shape) (m : Maps) {u : Updates} (subject : Operand) (sv : ℕ) (other : Maps → Maps) (w : Updates)
      → list_all signal_fits signals ≡ true → is_width subject.width ≡ true → items_fit signals places subject.width items ≡ true → ShowsBoth e signals m u → Means e m.nodes subject.node subject.width sv
      → ((k : Maps) → ShowsBoth e signals k u → ShowsBothIn e signals k.nodes (other k) w)
      → ShowsBothIn e signals m.nodes (items_made signals m subject items other) (after_case signals e.choice sv items u w)
  items-law places end_of-CaseItem m subject sv other w own wide fits both s last = last m both
  items-law {e} {signals} places (more_of-CaseItem labels body rest) m {u} subject sv other w own wide fits both s last =
      let f = and_parts (list_all (label_fits signals subject.width) labels && statement_fits signals places body) (items_fit signals places subject.width rest) fits in
      let g = and_parts (list_all (label_fits signals subject.width) labels) (statement_fits signals places body) f.0 in
      let t = item-law labels subject sv own wide g.0 both.now s in
      let mt : Made = item_test signals m.now m.nodes subject labels in
      let one = statement-law places body (maps mt.nodes m.now m.later) own g.1 (keep-both t.grown both) in
      let arm : Maps = statement_made signals (maps mt.nodes m.now m.later) body in
      let start = grown-then t.grown one.grown in
      let next = items-law places rest (maps arm.nodes m.now m.later) subject sv other w own wide f.1 (keep-both start both) (keep start s) last in
      let after_it : Maps = items_made signals (maps arm.nodes m.now m.later) subject rest other in
      let all = merged-law arm after_it (list_any (matches signals u.now sv) labels) (after signals e.choice body u) (after_case signals e.choice sv rest u w) own
      (keep (grown-then one.grown next.grown) t.means) (keep-shows next.grown one.shows.now) (keep-shows next.grown one.shows.later) next.shows in
      record { grown = grown-then start (grown-then next.grown all.grown); shows = all.shows }

use Rattle.std.proofs.Common.{◌≡◌, ℕ, ◌+◌, ◌<◌, ◌≤◌, length, List, Bool, arith, rules, ap, ap₂, refl, sym, ◌∙◌, subst}
use Rattle.std.specs.Prelude.{IfOk, ℤ}
use Rattle.std.proofs.Common.{w32}
use Rattle.std.proofs.lemmas.Int.{to_z-of_z}
use mir.Val.{SFits}
use Rattle.design_core.specs.declared.signal.Signal.{Signal}
use Rattle.design_core.specs.declared.expression.Typed.{Typed}
use Rattle.word_net.specs.declared.node.Operand.{Operand}
use Rattle.word_net.specs.declared.node.Operation.TheVariants as operation
use Rattle.word_net.specs.declared.node.WordNode.{WordNode}
use Rattle.word_net.specs.Build.{Made, made, pushed}
use Rattle.synth_parts.specs.declared.array_parts.ArrayPart.{ArrayPart}
use Rattle.synth_parts.specs.Expression.{Prepared, operand, unsigned, signal_read, select_of, truth_made, prepared, array_made, expression_made, typed_made}
use Rattle.synth_parts.specs.Lists.{prepared_in, all_parts}
use Rattle.synth_parts.proofs.JoinSteps.{parts-first, parts-next, parts-end, sum-first, sum-next, fits-first, fits-next}
use Rattle.synth_parts.proofs.ExpressionMade.{made_const, made_slice, made_pick, made_word, made_unary, made_binary, made_choose, made_repeat, made_resize, made_join}
use denote.Hole.Carrier.{hidden}
use Rattle.design_core.specs.declared.expression.Node.TheBlock.{shape-the_row-Typed-0, hidden-the_row-Typed-0}
use Rattle.design_core.specs.declared.expression.Node.TheViews.{the_lemmas}
use Rattle.synth_parts.proofs.FormFits.{pick-parts, word-parts, unary-arg, binary-args, choose-args, repeat-part, resize-arg, join-parts}
use Rattle.synth_parts.proofs.typed.+expression.Goals as goal

pub expression-expression-requires : goal.expression-expression-requires
unfolding shape-the_row-Typed-0 hidden-the_row-Typed-0 hidden
expression-expression-requires t c =
    let fits = pick-parts c.args.at.now.signals.now c.args.e.now.width c.args.e.now.signed c.in-Pick.signal c.in-Pick.index c.in-Pick.offsets (rw c.in-Pick.is at c.requires.fits) in
    (search (rules, the_lemmas), (c.requires.few, (c.requires.each, rw c.deref.ensures fits.1)))

pub expression-read-word-requires-in-Pick-clause-signal : goal.expression-read-word-requires-in-Pick-clause-signal
expression-read-word-requires-in-Pick-clause-signal t c = (pick-parts c.args.at.now.signals.now c.args.e.now.width c.args.e.now.signed c.in-Pick.signal c.in-Pick.index c.in-Pick.offsets (rw c.in-Pick.is at c.requires.fits)).0

pub expression-select-requires : goal.expression-select-requires
expression-select-requires t c = (pick-parts c.args.at.now.signals.now c.args.e.now.width c.args.e.now.signed c.in-Pick.signal c.in-Pick.index c.in-Pick.offsets (rw c.in-Pick.is at c.requires.fits)).0

pub expression-expression-requires-in-Word : goal.expression-expression-requires-in-Word
unfolding shape-the_row-Typed-0 hidden-the_row-Typed-0 hidden
expression-expression-requires-in-Word t c =
    let fits = word-parts c.args.at.now.signals.now c.args.e.now.width c.args.e.now.signed c.in-Word.first c.in-Word.count c.in-Word.low c.in-Word.index c.in-Word.from c.in-Word.width (rw c.in-Word.is at c.requires.fits) in
    (search (rules, the_lemmas), (c.requires.few, (c.requires.each, rw c.deref-in-Word.ensures fits.1)))

pub expression-array-requires-clause-within : goal.expression-array-requires-clause-within
expression-array-requires-clause-within t c = (word-parts c.args.at.now.signals.now c.args.e.now.width c.args.e.now.signed c.in-Word.first c.in-Word.count c.in-Word.low c.in-Word.index c.in-Word.from c.in-Word.width (rw c.in-Word.is at c.requires.fits)).0

pub expression-expression-requires-in-Unary : goal.expression-expression-requires-in-Unary
unfolding shape-the_row-Typed-0 hidden-the_row-Typed-0 hidden
expression-expression-requires-in-Unary t c =
    let fits = unary-arg c.args.at.now.signals.now c.args.e.now.width c.args.e.now.signed c.in-Unary.op c.in-Unary.arg (rw c.in-Unary.is at c.requires.fits) in
    (search (rules, the_lemmas), (c.requires.few, (c.requires.each, rw c.deref-in-Unary.ensures fits)))

pub expression-expression-requires-in-Binary : goal.expression-expression-requires-in-Binary
unfolding shape-the_row-Typed-0 hidden-the_row-Typed-0 hidden
expression-expression-requires-in-Binary t c =
    let fits = binary-args c.args.at.now.signals.now c.args.e.now.width c.args.e.now.signed c.in-Binary.op c.in-Binary.left c.in-Binary.right (rw c.in-Binary.is at c.requires.fits) in
    (search (rules, the_lemmas), (c.requires.few, (c.requires.each, rw c.deref-in-Binary.ensures fits.0)))

pub expression-expression-requires-in-Binary-2 : goal.expression-expression-requires-in-Binary-2
unfolding shape-the_row-Typed-0 hidden-the_row-Typed-0 hidden
expression-expression-requires-in-Binary-2 t c =
    let fits = binary-args c.args.at.now.signals.now c.args.e.now.width c.args.e.now.signed c.in-Binary.op c.in-Binary.left c.in-Binary.right (rw c.in-Binary.is at c.requires.fits) in
    (search (rules, the_lemmas), (c.requires.few, (c.requires.each, rw c.deref-in-Binary-3.ensures fits.1)))

pub expression-expression-requires-in-Choose : goal.expression-expression-requires-in-Choose
unfolding shape-the_row-Typed-0 hidden-the_row-Typed-0 hidden
expression-expression-requires-in-Choose t c =
    let fits = choose-args c.args.at.now.signals.now c.args.e.now.width c.args.e.now.signed c.in-Choose.cond c.in-Choose.yes c.in-Choose.no (rw c.in-Choose.is at c.requires.fits) in
    (search (rules, the_lemmas), (c.requires.few, (c.requires.each, rw c.deref-in-Choose.ensures fits.0)))

pub expression-expression-requires-in-Choose-2 : goal.expression-expression-requires-in-Choose-2
unfolding shape-the_row-Typed-0 hidden-the_row-Typed-0 hidden
expression-expression-requires-in-Choose-2 t c =
    let fits = choose-args c.args.at.now.signals.now c.args.e.now.width c.args.e.now.signed c.in-Choose.cond c.in-Choose.yes c.in-Choose.no (rw c.in-Choose.is at c.requires.fits) in
    (search (rules, the_lemmas), (c.requires.few, (c.requires.each, rw c.deref-in-Choose-3.ensures fits.1)))

pub expression-expression-requires-in-Choose-3 : goal.expression-expression-requires-in-Choose-3
unfolding shape-the_row-Typed-0 hidden-the_row-Typed-0 hidden
expression-expression-requires-in-Choose-3 t c =
    let fits = choose-args c.args.at.now.signals.now c.args.e.now.width c.args.e.now.signed c.in-Choose.cond c.in-Choose.yes c.in-Choose.no (rw c.in-Choose.is at c.requires.fits) in
    (search (rules, the_lemmas), (c.requires.few, (c.requires.each, rw c.deref-in-Choose-4.ensures fits.2)))

pub expression-expression-requires-in-Repeat : goal.expression-expression-requires-in-Repeat
unfolding shape-the_row-Typed-0 hidden-the_row-Typed-0 hidden
expression-expression-requires-in-Repeat t c =
    let fits = repeat-part c.args.at.now.signals.now c.args.e.now.width c.args.e.now.signed c.in-Repeat.times c.in-Repeat.part (rw c.in-Repeat.is at c.requires.fits) in
    (search (rules, the_lemmas), (c.requires.few, (c.requires.each, rw c.deref-in-Repeat.ensures fits)))

pub expression-expression-requires-in-Resize : goal.expression-expression-requires-in-Resize
unfolding shape-the_row-Typed-0 hidden-the_row-Typed-0 hidden
expression-expression-requires-in-Resize t c =
    let fits = resize-arg c.args.at.now.signals.now c.args.e.now.width c.args.e.now.signed c.in-Resize.arg (rw c.in-Resize.is at c.requires.fits) in
    (search (rules, the_lemmas), (c.requires.few, (c.requires.each, rw c.deref-in-Resize.ensures fits)))

pub expression-joined-requires : goal.expression-joined-requires
expression-joined-requires t c =
    let fits = join-parts c.args.at.now.signals.now c.args.e.now.width c.args.e.now.signed c.in-Join.parts (rw c.in-Join.is at c.requires.fits) in
    let items = c.deref-in-Join.ensures in
    (search (rules, the_lemmas), (c.requires.few, (c.requires.each, (rw items fits.fits, (rw items fits.some, rw items fits.most)))))

pub expression-returns-in-Const : goal.expression-returns-in-Const
unfolding expression_made
expression-returns-in-Const t c =
    let S : List Signal = c.args.at.now.signals.now in
    let M : List ℕ = c.args.at.now.nodes_of.now in
    let N : List WordNode = c.args.nodes.now in
    let w : ℕ = c.args.e.now.width in
    let same : pushed N w (operation.Const c.value.result) ≡ typed_made S M N c.args.e.now =
    ap (λ v. pushed N w (operation.Const v)) c.value.ensures ∙ (rw c.in-Const.is (sym (made_const S M N w c.in-Const.word))) in
    subst (λ m. IfOk c.constant.result (λ n. made c.constant.new.nodes n ≡ m)) same c.constant.ensures

pub expression-returns-in-Whole : goal.expression-returns-in-Whole
unfolding expression_made
expression-returns-in-Whole t c = rw c.in-Whole.is refl

pub expression-returns-in-Slice : goal.expression-returns-in-Slice
unfolding expression_made
expression-returns-in-Slice t c =
    let S : List Signal = c.args.at.now.signals.now in
    let M : List ℕ = c.args.at.now.nodes_of.now in
    let N : List WordNode = c.args.nodes.now in
    let w : ℕ = c.args.e.now.width in
    let same : pushed N c.in-Slice.width (operation.Slice c.read-word.result c.in-Slice.from) ≡ typed_made S M N c.args.e.now =
    ap (λ o. pushed N c.in-Slice.width (operation.Slice o c.in-Slice.from)) c.read-word.ensures ∙ (rw c.in-Slice.is (sym (made_slice S M N w c.in-Slice.signal c.in-Slice.from c.in-Slice.width))) in
    subst (λ m. IfOk c.slice.result (λ n. made c.slice.new.nodes n ≡ m)) same c.slice.ensures

pub expression-returns-in_ok-select-in-Pick : goal.expression-returns-in_ok-select-in-Pick
unfolding expression_made
expression-returns-in_ok-select-in-Pick t c =
    let S : List Signal = c.args.at.now.signals.now in
    let M : List ℕ = c.args.at.now.nodes_of.now in
    let N : List WordNode = c.args.nodes.now in
    let w : ℕ = c.args.e.now.width in
    let index : Typed = c.in-Pick.index in
    let s : ℕ = c.in-Pick.signal in
    let offsets : List ℤ = c.in-Pick.offsets in
    let nodes : List WordNode = c.expression.new.nodes in
    let place : ℕ = c.in_ok-place-in-Pick.place in
    let p : made nodes place ≡ typed_made S M N index = c.in_ok-place-in-Pick.ensures ∙ ap (typed_made S M N) c.deref.ensures in
    let select : c.in_ok-select-in-Pick.select ≡ select_of S s (operand place index.width index.signed) offsets =
    c.in_ok-select-in-Pick.ensures ∙ ap (select_of S s c.operand.result) c.deref-in-Pick-2.ensures
    ∙ ap (λ o. select_of S s o offsets) (c.operand.ensures ∙ ap (λ (e : Typed). operand place e.width e.signed) c.deref-in-Pick.ensures) in
    let same : pushed nodes w (operation.Pick c.read-word-in-Pick.result c.in_ok-select-in-Pick.select) ≡ typed_made S M N c.args.e.now =
    ap₂ (λ x y. pushed nodes w (operation.Pick x y)) c.read-word-in-Pick.ensures select
    ∙ ap (λ (m : Made). pushed m.nodes w (operation.Pick (signal_read S M s) (select_of S s (operand m.node index.width index.signed) offsets))) p
    ∙ (rw c.in-Pick.is (sym (made_pick S M N w s index offsets))) in
    subst (λ m. IfOk c.pick.result (λ n. made c.pick.new.nodes n ≡ m)) same c.pick.ensures

pub expression-returns-in_ok-place-in-Word : goal.expression-returns-in_ok-place-in-Word
unfolding expression_made
expression-returns-in_ok-place-in-Word t c =
    let S : List Signal = c.args.at.now.signals.now in
    let M : List ℕ = c.args.at.now.nodes_of.now in
    let N : List WordNode = c.args.nodes.now in
    let w : ℕ = c.args.e.now.width in
    let index : Typed = c.in-Word.index in
    let nodes : List WordNode = c.expression-in-Word.new.nodes in
    let place : ℕ = c.in_ok-place-in-Word.place in
    let p : made nodes place ≡ typed_made S M N index = c.in_ok-place-in-Word.ensures ∙ ap (typed_made S M N) c.deref-in-Word.ensures in
    let low : SFits w32 c.in-Word.low = search rules in
    let part : Operand → ArrayPart = λ o. record { first = c.in-Word.first; low = c.in-Word.low; index = o; from = c.in-Word.from; width = c.in-Word.width } in
    let same : array_made S M (part c.operand-in-Word.result) nodes c.in-Word.count ≡ typed_made S M N c.args.e.now =
    ap (λ o. array_made S M (part o) nodes c.in-Word.count) (c.operand-in-Word.ensures ∙ ap (λ (e : Typed). operand place e.width e.signed) c.deref-in-Word-2.ensures)
    ∙ ap (λ (m : Made). array_made S M (part (operand m.node index.width index.signed)) m.nodes c.in-Word.count) p
    ∙ (rw c.in-Word.is (sym (made_word S M N w c.in-Word.first c.in-Word.count c.in-Word.low index c.in-Word.from c.in-Word.width))) in
    let given : IfOk c.array.result (λ n. made c.array.new.nodes n ≡ array_made S M (part c.operand-in-Word.result) nodes c.in-Word.count) = simp to_z-of_z at c.array.ensures in
    subst (λ m. IfOk c.array.result (λ n. made c.array.new.nodes n ≡ m)) same given

pub expression-returns-in_ok-word-in-Unary : goal.expression-returns-in_ok-word-in-Unary
unfolding expression_made
expression-returns-in_ok-word-in-Unary t c =
    let S : List Signal = c.args.at.now.signals.now in
    let M : List ℕ = c.args.at.now.nodes_of.now in
    let N : List WordNode = c.args.nodes.now in
    let w : ℕ = c.args.e.now.width in
    let arg : Typed = c.in-Unary.arg in
    let nodes : List WordNode = c.expression-in-Unary.new.nodes in
    let word : ℕ = c.in_ok-word-in-Unary.word in
    let p : made nodes word ≡ typed_made S M N arg = c.in_ok-word-in-Unary.ensures ∙ ap (typed_made S M N) c.deref-in-Unary.ensures in
    let same : pushed nodes w (operation.Unary c.in-Unary.op c.unsigned-arg.result) ≡ typed_made S M N c.args.e.now =
    ap (λ o. pushed nodes w (operation.Unary c.in-Unary.op o)) (c.unsigned-arg.ensures ∙ ap (λ (e : Typed). unsigned word e.width) c.deref-in-Unary-2.ensures)
    ∙ ap (λ (m : Made). pushed m.nodes w (operation.Unary c.in-Unary.op (unsigned m.node arg.width))) p
    ∙ (rw c.in-Unary.is (sym (made_unary S M N w c.in-Unary.op arg))) in
    subst (λ m. IfOk c.unary.result (λ n. made c.unary.new.nodes n ≡ m)) same c.unary.ensures

pub expression-returns-in_ok-other-in-Binary-2 : goal.expression-returns-in_ok-other-in-Binary-2
unfolding expression_made
expression-returns-in_ok-other-in-Binary-2 t c =
    let S : List Signal = c.args.at.now.signals.now in
    let M : List ℕ = c.args.at.now.nodes_of.now in
    let N : List WordNode = c.args.nodes.now in
    let w : ℕ = c.args.e.now.width in
    let left : Typed = c.in-Binary.left in
    let right : Typed = c.in-Binary.right in
    let op = c.in-Binary.op in
    let L : Bool = c.is_logical-logical.result in
    let nodes1 : List WordNode = c.expression-in-Binary.new.nodes in
    let nodes2 : List WordNode = c.prepared.new.nodes in
    let nodes3 : List WordNode = c.expression-in-Binary-2.new.nodes in
    let nodes4 : List WordNode = c.prepared-in-Binary.new.nodes in
    let one : ℕ = c.in_ok-one-in-Binary.one in
    let other : ℕ = c.in_ok-other-in-Binary.other in
    let o1 : Operand = c.in_ok-one-in-Binary-2.one in
    let o2 : Operand = c.in_ok-other-in-Binary-2.other in
    let a : made nodes1 one ≡ typed_made S M N left = c.in_ok-one-in-Binary.ensures ∙ ap (typed_made S M N) c.deref-in-Binary.ensures in
    let l : prepared_in nodes2 o1 ≡ prepared L nodes1 one left.width left.signed =
    c.in_ok-one-in-Binary-2.ensures
    ∙ ap (λ (o : Operand). prepared L nodes1 o.node o.width o.signed) (c.operand-in-Binary.ensures ∙ ap (λ (e : Typed). operand one e.width e.signed) c.deref-in-Binary-2.ensures) in
    let b : made nodes3 other ≡ typed_made S M nodes2 right = c.in_ok-other-in-Binary.ensures ∙ ap (typed_made S M nodes2) c.deref-in-Binary-3.ensures in
    let r : prepared_in nodes4 o2 ≡ prepared L nodes3 other right.width right.signed =
    c.in_ok-other-in-Binary-2.ensures
    ∙ ap (λ (o : Operand). prepared L nodes3 o.node o.width o.signed) (c.operand-in-Binary-2.ensures ∙ ap (λ (e : Typed). operand other e.width e.signed) c.deref-in-Binary-4.ensures) in
    let last : Bool → List WordNode → ℕ → Operand → Made = λ k ns n o. let q = prepared k ns n right.width right.signed in pushed q.nodes w (operation.Binary op o q.operand) in
    let mid : Bool → List WordNode → Operand → Made = λ k ns o. let m = typed_made S M ns right in last k m.nodes m.node o in
    let whole : Bool → Made = λ k. let m = typed_made S M N left in let q = prepared k m.nodes m.node left.width left.signed in mid k q.nodes q.operand in
    let same : pushed nodes4 w (operation.Binary op o1 o2) ≡ typed_made S M N c.args.e.now =
    ap (λ (q : Prepared). pushed q.nodes w (operation.Binary op o1 q.operand)) r
    ∙ ap (λ (m : Made). last L m.nodes m.node o1) b
    ∙ ap (λ (q : Prepared). mid L q.nodes q.operand) l
    ∙ ap (λ (m : Made). let q = prepared L m.nodes m.node left.width left.signed in mid L q.nodes q.operand) a
    ∙ ap whole c.is_logical-logical.ensures
    ∙ (rw c.in-Binary.is (sym (made_binary S M N w op left right))) in
    subst (λ m. IfOk c.binary.result (λ n. made c.binary.new.nodes n ≡ m)) same c.binary.ensures

pub expression-returns-in_ok-other-in-Choose : goal.expression-returns-in_ok-other-in-Choose
unfolding expression_made
expression-returns-in_ok-other-in-Choose t c =
    let S : List Signal = c.args.at.now.signals.now in
    let M : List ℕ = c.args.at.now.nodes_of.now in
    let N : List WordNode = c.args.nodes.now in
    let w : ℕ = c.args.e.now.width in
    let test : Typed = c.in-Choose.cond in
    let yes_e : Typed = c.in-Choose.yes in
    let no_e : Typed = c.in-Choose.no in
    let nodes1 : List WordNode = c.expression-in-Choose.new.nodes in
    let nodes2 : List WordNode = c.truth.new.nodes in
    let nodes3 : List WordNode = c.expression-in-Choose-2.new.nodes in
    let nodes4 : List WordNode = c.expression-in-Choose-3.new.nodes in
    let n1 : ℕ = c.in_ok-test-in-Choose.test in
    let n2 : ℕ = c.in_ok-test-in-Choose-2.test in
    let n3 : ℕ = c.in_ok-one-in-Choose.one in
    let n4 : ℕ = c.in_ok-other-in-Choose.other in
    let a : made nodes1 n1 ≡ typed_made S M N test = c.in_ok-test-in-Choose.ensures ∙ ap (typed_made S M N) c.deref-in-Choose.ensures in
    let u : made nodes2 n2 ≡ truth_made nodes1 n1 test.width = c.in_ok-test-in-Choose-2.ensures ∙ ap (λ (e : Typed). truth_made nodes1 n1 e.width) c.deref-in-Choose-2.ensures in
    let b : made nodes3 n3 ≡ typed_made S M nodes2 yes_e = c.in_ok-one-in-Choose.ensures ∙ ap (typed_made S M nodes2) c.deref-in-Choose-3.ensures in
    let d : made nodes4 n4 ≡ typed_made S M nodes3 no_e = c.in_ok-other-in-Choose.ensures ∙ ap (typed_made S M nodes3) c.deref-in-Choose-4.ensures in
    let op3 : Operand → Operand → Operand → List WordNode → Made = λ x y z ns. pushed ns w (operation.Choose x y z) in
    let last : ℕ → ℕ → List WordNode → Made = λ x y ns. let m = typed_made S M ns no_e in op3 (unsigned x 1) (unsigned y yes_e.width) (unsigned m.node no_e.width) m.nodes in
    let mid : ℕ → List WordNode → Made = λ x ns. let m = typed_made S M ns yes_e in last x m.node m.nodes in
    let same : pushed nodes4 w (operation.Choose c.unsigned-in-Choose-2.result c.unsigned.result c.unsigned-in-Choose.result) ≡ typed_made S M N c.args.e.now =
    ap (λ x. op3 x c.unsigned.result c.unsigned-in-Choose.result nodes4) c.unsigned-in-Choose-2.ensures
    ∙ ap (λ x. op3 (unsigned n2 1) x c.unsigned-in-Choose.result nodes4) (c.unsigned.ensures ∙ ap (λ (e : Typed). unsigned n3 e.width) c.deref-in-Choose-5.ensures)
    ∙ ap (λ x. op3 (unsigned n2 1) (unsigned n3 yes_e.width) x nodes4) (c.unsigned-in-Choose.ensures ∙ ap (λ (e : Typed). unsigned n4 e.width) c.deref-in-Choose-6.ensures)
    ∙ ap (λ (m : Made). op3 (unsigned n2 1) (unsigned n3 yes_e.width) (unsigned m.node no_e.width) m.nodes) d
    ∙ ap (λ (m : Made). last n2 m.node m.nodes) b
    ∙ ap (λ (m : Made). mid m.node m.nodes) u
    ∙ ap (λ (m : Made). let q = truth_made m.nodes m.node test.width in mid q.node q.nodes) a
    ∙ (rw c.in-Choose.is (sym (made_choose S M N w test yes_e no_e))) in
    subst (λ m. IfOk c.choose.result (λ n. made c.choose.new.nodes n ≡ m)) same c.choose.ensures

pub expression-returns-in-Join : goal.expression-returns-in-Join
unfolding expression_made
expression-returns-in-Join t c =
    let S : List Signal = c.args.at.now.signals.now in
    let M : List ℕ = c.args.at.now.nodes_of.now in
    let N : List WordNode = c.args.nodes.now in
    let w : ℕ = c.args.e.now.width in
    let fits = join-parts S w c.args.e.now.signed c.in-Join.parts (rw c.in-Join.is at c.requires.fits) in
    let same : all_parts S M N c.deref-in-Join.result.now ≡ typed_made S M N c.args.e.now =
    ap (all_parts S M N) c.deref-in-Join.ensures ∙ (rw c.in-Join.is (sym (made_join S M N w c.in-Join.parts fits.some))) in
    subst (λ m. IfOk c.joined.result (λ n. made c.joined.new.nodes n ≡ m)) same c.joined.ensures

pub expression-returns-in_ok-word-in-Repeat : goal.expression-returns-in_ok-word-in-Repeat
unfolding expression_made
expression-returns-in_ok-word-in-Repeat t c =
    let S : List Signal = c.args.at.now.signals.now in
    let M : List ℕ = c.args.at.now.nodes_of.now in
    let N : List WordNode = c.args.nodes.now in
    let w : ℕ = c.args.e.now.width in
    let part : Typed = c.in-Repeat.part in
    let nodes : List WordNode = c.expression-in-Repeat.new.nodes in
    let word : ℕ = c.in_ok-word-in-Repeat.word in
    let p : made nodes word ≡ typed_made S M N part = c.in_ok-word-in-Repeat.ensures ∙ ap (typed_made S M N) c.deref-in-Repeat.ensures in
    let same : pushed nodes w (operation.Repeat c.in-Repeat.times c.unsigned-part.result) ≡ typed_made S M N c.args.e.now =
    ap (λ o. pushed nodes w (operation.Repeat c.in-Repeat.times o)) (c.unsigned-part.ensures ∙ ap (λ (e : Typed). unsigned word e.width) c.deref-in-Repeat-2.ensures)
    ∙ ap (λ (m : Made). pushed m.nodes w (operation.Repeat c.in-Repeat.times (unsigned m.node part.width))) p
    ∙ (rw c.in-Repeat.is (sym (made_repeat S M N w c.in-Repeat.times part))) in
    subst (λ m. IfOk c.repeat.result (λ n. made c.repeat.new.nodes n ≡ m)) same c.repeat.ensures

pub expression-returns-in_ok-word-in-Resize : goal.expression-returns-in_ok-word-in-Resize
unfolding expression_made
expression-returns-in_ok-word-in-Resize t c =
    let S : List Signal = c.args.at.now.signals.now in
    let M : List ℕ = c.args.at.now.nodes_of.now in
    let N : List WordNode = c.args.nodes.now in
    let w : ℕ = c.args.e.now.width in
    let arg : Typed = c.in-Resize.arg in
    let nodes : List WordNode = c.expression-in-Resize.new.nodes in
    let word : ℕ = c.in_ok-word-in-Resize.word in
    let p : made nodes word ≡ typed_made S M N arg = c.in_ok-word-in-Resize.ensures ∙ ap (typed_made S M N) c.deref-in-Resize.ensures in
    let same : pushed nodes w (operation.Resize c.operand-in-Resize.result) ≡ typed_made S M N c.args.e.now =
    ap (λ o. pushed nodes w (operation.Resize o)) (c.operand-in-Resize.ensures ∙ ap (λ (e : Typed). operand word e.width e.signed) c.deref-in-Resize-2.ensures)
    ∙ ap (λ (m : Made). pushed m.nodes w (operation.Resize (operand m.node arg.width arg.signed))) p
    ∙ (rw c.in-Resize.is (sym (made_resize S M N w arg))) in
    subst (λ m. IfOk c.resize.result (λ n. made c.resize.new.nodes n ≡ m)) same c.resize.ensures

pub joined-loop-i-init : goal.joined-loop-i-init
joined-loop-i-init t c =
    let S : List Signal = c.args.at.now.signals.now in
    let P : List Typed = c.args.parts.now in
    let part : Typed = c.index-parts-0.result in
    record {
      most = omega (arith, sum-first P part c.requires.some c.index-parts-0.is, c.requires.width);
      made = parts-first S c.args.at.now.nodes_of.now c.args.nodes.now c.expression.new.nodes c.in_ok-word.word P part c.requires.some c.index-parts-0.is c.in_ok-word.ensures;
      fits = (fits-first S P part c.requires.some c.index-parts-0.is c.requires.fits).1;
    }

pub joined-loop-i-preserved : goal.joined-loop-i-preserved
joined-loop-i-preserved t c =
    let S : List Signal = c.args.at.now.signals.now in
    let P : List Typed = c.args.parts.now in
    let part : Typed = c.index-parts-i.result in
    let i : ℕ = c.loop-i.i in
    let width : ℕ = c.loop-i.width in
    let left : ℕ = c.loop-i.word in
    let low : ℕ = c.in_ok-low.low in
    let below : List WordNode = c.expression-in-loop-i.new.nodes in
    let within : i < length P = c.loop-i-test.true in
    let joined : made c.push.new.nodes c.in_ok-word-2.word ≡ pushed below (width + part.width) (operation.Join (unsigned left width) (unsigned low part.width)) =
    c.in_ok-word-2.ensures ∙ ap₂ (λ x y. pushed below (width + part.width) (operation.Join x y)) c.unsigned.ensures c.unsigned-in-loop-i.ensures in
    record {
      most = omega (arith, sum-next P i part within c.index-parts-i.is, c.loop-i.invariant.most);
      made = c.loop-i.invariant.made
          ∙ parts-next S c.args.at.now.nodes_of.now c.loop-i.nodes below c.push.new.nodes left width low c.in_ok-word-2.word i P part within c.index-parts-i.is c.in_ok-low.ensures joined;
      fits = (fits-next S P i part within c.index-parts-i.is c.loop-i.invariant.fits).1;
    }

pub joined-returns : goal.joined-returns
joined-returns t c =
    let past : length c.args.parts.now ≤ c.loop-i.i = c.loop-i-test.false in
    sym (c.loop-i.invariant.made ∙ parts-end c.args.at.now.signals.now c.args.at.now.nodes_of.now c.loop-i.nodes c.loop-i.word c.loop-i.width c.loop-i.i c.args.parts.now past)

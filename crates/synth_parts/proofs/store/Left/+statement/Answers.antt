use Rattle.std.proofs.Common.{◌≡◌, ℕ, ◌+◌, ◌<◌, ◌≤◌, List, [], drop, length, ap, ap₂, sym, ◌∙◌, subst, refl, rules}
use Rattle.std.specs.Prelude.{OnOk}
use Rattle.std.specs.List.{All}
use Rattle.std.proofs.lemmas.List.Elements.{All-nil}
use Rattle.design_core.specs.declared.signal.Signal.{Signal}
use Rattle.design_core.specs.declared.expression.Typed.{Typed}
use Rattle.design_core.specs.declared.statement.Part.{Part}
use Rattle.design_core.specs.declared.statement.Stmt.{Stmt}
use Rattle.design_core.specs.declared.statement.CaseItem.{CaseItem}
use Rattle.design_core.specs.declared.statement.Stmt.TheViews.{the_lemmas}
use Rattle.node_map.specs.declared.pair.Pair.{Pair}
use Rattle.node_map.specs.Entries.{put}
use Rattle.word_net.specs.declared.node.Operand.{Operand}
use Rattle.word_net.specs.declared.node.WordNode.{WordNode}
use Rattle.word_net.specs.Build.{Made, made}
use Rattle.synth_parts.specs.declared.statement.Arm.{Arm}
use Rattle.synth_parts.specs.Expression.{unsigned, typed_made}
use Rattle.synth_parts.specs.Statement.{Maps, maps, set_made, merged, item_test, statement_made}
use Rattle.synth_parts.specs.Arms.{ArmFits, condition_made, all_made, case_made, closed}
use Rattle.synth_parts.proofs.Branches.{begins, ended}
use Rattle.synth_parts.proofs.MergeSteps.{merged-arm}
use Rattle.synth_parts.proofs.StatementSteps.{made_nothing, made_block, made_if, made_case, made_set, block-fits, if-fits, case-fits, closed-empty, arms-push, run-next, run-end, items_fit-next, all_made-next, all_made-end, statements_fit-next}
use Rattle.synth_parts.proofs.store.Left.+statement.Goals as goal

pub statement-statements-requires : goal.statement-statements-requires
statement-statements-requires t c =
    let fits = block-fits c.args.self.now.signals.now c.in-Block.statements (rw c.in-Block.is at c.requires.fits) in
    (search (rules, the_lemmas), (c.requires.few, (c.requires.current, (c.requires.later, rw c.deref.ensures fits))))

pub statement-condition-requires-clause-fits : goal.statement-condition-requires-clause-fits
statement-condition-requires-clause-fits t c = (if-fits c.args.self.now.signals.now c.in-If.cond c.in-If.yes c.in-If.no (rw c.in-If.is at c.requires.fits)).cond

pub statement-value-requires-clause-fits : goal.statement-value-requires-clause-fits
statement-value-requires-clause-fits t c = (case-fits c.args.self.now.signals.now c.in-Case.subject c.in-Case.items c.in-Case.other c.in-Case.wild (rw c.in-Case.is at c.requires.fits)).subject

pub statement-returns-in-Nothing-clause-ok : goal.statement-returns-in-Nothing-clause-ok
statement-returns-in-Nothing-clause-ok t c =
    let S : List Signal = c.args.self.now.signals.now in
    let m : Maps = maps c.args.nodes.now c.args.both.now.current.now c.args.both.now.later.now in rw c.in-Nothing.is (sym (made_nothing S m))

pub statement-returns-in-Block-clause-ok : goal.statement-returns-in-Block-clause-ok
statement-returns-in-Block-clause-ok t c =
    let S : List Signal = c.args.self.now.signals.now in
    let m : Maps = maps c.args.nodes.now c.args.both.now.current.now c.args.both.now.later.now in
    let same : all_made S m c.deref.result.now ≡ statement_made S m c.args.statement.now = ap (all_made S m) c.deref.ensures ∙ (rw c.in-Block.is (sym (made_block S m c.in-Block.statements))) in
    subst (λ k. OnOk c.statements.result (maps c.statements.new.nodes c.statements.new.both.current.now c.statements.new.both.later.now ≡ k)) same c.statements.ensures.ok

pub statement-returns-in-Set-clause-ok : goal.statement-returns-in-Set-clause-ok
statement-returns-in-Set-clause-ok t c =
    let S : List Signal = c.args.self.now.signals.now in
    let m : Maps = maps c.args.nodes.now c.args.both.now.current.now c.args.both.now.later.now in
    let place : ℕ = c.in-Set.place in
    let computed : Typed = c.in-Set.value in
    let same : set_made S m place c.as_slice-in-Set.result.now computed c.in-Set.later ≡ statement_made S m c.args.statement.now =
    ap (λ (ps : List Part). set_made S m place ps computed c.in-Set.later) c.as_slice-in-Set.ensures
    ∙ (rw c.in-Set.is (sym (made_set S m place c.in-Set.target computed c.in-Set.later))) in
    subst (λ k. OnOk c.assign.result (maps c.assign.new.nodes c.assign.new.both.current.now c.assign.new.both.later.now ≡ k)) same c.assign.ensures.ok

pub statements-loop-i-preserved : goal.statements-loop-i-preserved
statements-loop-i-preserved t c =
    let S : List Signal = c.args.self.now.signals.now in
    let ss : List Stmt = c.args.statements.now in
    let i : ℕ = c.loop-i.i in
    let s : Stmt = c.index-statements-i.result in
    let within : i < length ss = c.loop-i-test.true in
    let m : Maps = maps c.loop-i.nodes c.loop-i.both.current.now c.loop-i.both.later.now in
    let after : Maps = maps c.statement.new.nodes c.statement.new.both.current.now c.statement.new.both.later.now in
    record {
      current = c.in_ok-statement.ensures.current;
      later = c.in_ok-statement.ensures.later;
      base = c.in_ok-statement.ensures.base ∙ c.loop-i.invariant.base;
      base_later = c.in_ok-statement.ensures.base_later ∙ c.loop-i.invariant.base_later;
      fits = (statements_fit-next S ss i s within c.index-statements-i.is c.loop-i.invariant.fits).1;
      rest = c.loop-i.invariant.rest ∙ all_made-next S m after i ss s within c.index-statements-i.is c.in_ok-statement.ensures.ok;
    }

pub statements-returns-clause-ok : goal.statements-returns-clause-ok
statements-returns-clause-ok t c =
    let past : length c.args.statements.now ≤ c.loop-i.i = c.loop-i-test.false in
    sym (c.loop-i.invariant.rest
    ∙ all_made-end c.args.self.now.signals.now (maps c.loop-i.nodes c.loop-i.both.current.now c.loop-i.both.later.now) c.loop-i.i c.args.statements.now past)

-- ---- a choice

pub statement-arm-requires : goal.statement-arm-requires
statement-arm-requires t c =
    let fits = if-fits c.args.self.now.signals.now c.in-If.cond c.in-If.yes c.in-If.no (rw c.in-If.is at c.requires.fits) in
    let b = begins (length c.args.self.now.signals.now) c.args.both.now c.begin-outer.new.self c.begin-outer.ensures.new c.requires.current c.requires.later in
    (search (rules, the_lemmas), (c.requires.few, (b.current, (b.later, (b.begun, (b.begun_later, rw c.deref-in-If.ensures fits.yes))))))

pub statement-statement-requires : goal.statement-statement-requires
statement-statement-requires t c =
    let fits = if-fits c.args.self.now.signals.now c.in-If.cond c.in-If.yes c.in-If.no (rw c.in-If.is at c.requires.fits) in
    (search (rules, the_lemmas), (c.requires.few, (c.in_ok-arm-in-If.ensures.current, (c.in_ok-arm-in-If.ensures.later, rw c.deref-in-If-2.ensures fits.no))))

pub statement-returns-in_ok-join-in-If-clause-ok : goal.statement-returns-in_ok-join-in-If-clause-ok
statement-returns-in_ok-join-in-If-clause-ok t c =
    let S : List Signal = c.args.self.now.signals.now in
    let C : List ℕ = c.args.both.now.current.now in
    let L : List ℕ = c.args.both.now.later.now in
    let N : List WordNode = c.args.nodes.now in
    let m : Maps = maps N C L in
    let n : ℕ = length S in
    let on_true : Stmt = c.in-If.yes in
    let on_false : Stmt = c.in-If.no in
    let arm : Arm = c.in_ok-arm-in-If.arm in
    let test : ℕ = c.in_ok-test-in-If.test in
    let nodes0 : List WordNode = c.condition.new.nodes in
    let nodes1 : List WordNode = c.arm.new.nodes in
    let B : Pair = c.begin-outer.new.self in
    let b = begins n c.args.both.now B c.begin-outer.ensures.new c.requires.current c.requires.later in
    let back : c.arm.new.both ≡ B = c.in_ok-arm-in-If.ensures.back in
    let left : Maps = maps c.statement.new.nodes c.statement.new.both.current.now c.statement.new.both.later.now in
    let pc : List ℕ = put arm.kept.current C in
    let pl : List ℕ = put arm.kept.later L in
    let u : made nodes0 test ≡ condition_made S C N c.in-If.cond = c.in_ok-test-in-If.ensures ∙ ap (λ ns. condition_made S ns N c.in-If.cond) c.as_slice.ensures.nodes in
    let one : maps nodes1 pc pl ≡ statement_made S (maps nodes0 C L) on_true =
    sym (ap₂ (λ x y. maps nodes1 (put arm.kept.current x) (put arm.kept.later y)) b.now b.past)
    ∙ c.in_ok-arm-in-If.ensures.made
    ∙ ap₂ (λ x y. statement_made S (maps nodes0 x y) c.deref-in-If.result.now) b.now b.past
    ∙ ap (statement_made S (maps nodes0 C L)) c.deref-in-If.ensures in
    let other : left ≡ statement_made S (maps nodes1 C L) on_false =
    c.in_ok-statement-in-If.ensures.ok
    ∙ ap (λ (p : Pair). statement_made S (maps nodes1 p.current.now p.later.now) c.deref-in-If-2.result.now) back
    ∙ ap₂ (λ x y. statement_made S (maps nodes1 x y) c.deref-in-If-2.result.now) b.now b.past
    ∙ ap (statement_made S (maps nodes1 C L)) c.deref-in-If-2.ensures in
    let base : c.statement.new.both.current.base ≡ C = c.in_ok-statement-in-If.ensures.base ∙ ap (λ (p : Pair). p.current.base) back ∙ b.begun ∙ b.now in
    let base_later : c.statement.new.both.later.base ≡ L = c.in_ok-statement-in-If.ensures.base_later ∙ ap (λ (p : Pair). p.later.base) back ∙ b.begun_later ∙ b.past in
    let same : maps c.join.new.nodes c.join.new.other.current.now c.join.new.other.later.now ≡ statement_made S m c.args.statement.now =
    c.in_ok-join-in-If.ensures.ok
    ∙ ap₂ (λ x y. merged S arm.test (maps [] (put arm.kept.current x) (put arm.kept.later y)) left 0 n) base base_later
    ∙ ap (λ k. merged S k (maps [] pc pl) left 0 n) c.in_ok-arm-in-If.ensures.test
    ∙ merged-arm S test pc pl [] nodes1 n 0 left
    ∙ ap (λ (y : Maps). merged S test (maps nodes1 pc pl) y 0 n) other
    ∙ ap (λ (k : Maps). merged S test k (statement_made S (maps k.nodes C L) on_false) 0 n) one
    ∙ ap (λ (k : Made). let a = statement_made S (maps k.nodes C L) on_true in merged S k.node a (statement_made S (maps a.nodes C L) on_false) 0 n) u
    ∙ (rw c.in-If.is (sym (made_if S m c.in-If.cond on_true on_false))) in
    ended c.end.result c.join.new.nodes c.join.new.other c.end.new.self _ _ (statement_made S m c.args.statement.now) same c.end.ensures.ok

-- ---- a case

pub statement-arms-requires : goal.statement-arms-requires
statement-arms-requires t c =
    let fits = case-fits c.args.self.now.signals.now c.in-Case.subject c.in-Case.items c.in-Case.other c.in-Case.wild (rw c.in-Case.is at c.requires.fits) in
    let b = begins (length c.args.self.now.signals.now) c.args.both.now c.begin-outer-in-Case.new.self c.begin-outer-in-Case.ensures.new c.requires.current c.requires.later in
    (search (rules, the_lemmas), (c.requires.few, (b.current, (b.later, (b.begun, (b.begun_later, rw (c.unsigned.ensures, c.deref-in-Case.ensures) fits.items))))))

pub statement-statement-requires-in-Case : goal.statement-statement-requires-in-Case
statement-statement-requires-in-Case t c =
    let fits = case-fits c.args.self.now.signals.now c.in-Case.subject c.in-Case.items c.in-Case.other c.in-Case.wild (rw c.in-Case.is at c.requires.fits) in
    (search (rules, the_lemmas), (c.requires.few, (c.in_ok-arms-in-Case.ensures.current, (c.in_ok-arms-in-Case.ensures.later, rw c.deref-in-Case-2.ensures fits.other))))

pub statement-returns-in_ok-close-in-Case-clause-ok : goal.statement-returns-in_ok-close-in-Case-clause-ok
statement-returns-in_ok-close-in-Case-clause-ok t c =
    let S : List Signal = c.args.self.now.signals.now in
    let C : List ℕ = c.args.both.now.current.now in
    let L : List ℕ = c.args.both.now.later.now in
    let N : List WordNode = c.args.nodes.now in
    let m : Maps = maps N C L in
    let n : ℕ = length S in
    let subject : Typed = c.in-Case.subject in
    let last : Maps → Maps = λ k. statement_made S k c.in-Case.other in
    let arms : List Arm = c.in_ok-arms-in-Case.arms in
    let word : ℕ = c.in_ok-word-in-Case.word in
    let nodes0 : List WordNode = c.value.new.nodes in
    let nodes1 : List WordNode = c.arms.new.nodes in
    let B : Pair = c.begin-outer-in-Case.new.self in
    let b = begins n c.args.both.now B c.begin-outer-in-Case.ensures.new c.requires.current c.requires.later in
    let back : c.arms.new.both ≡ B = c.in_ok-arms-in-Case.ensures.back in
    let left : Maps = maps c.statement-in-Case.new.nodes c.statement-in-Case.new.both.current.now c.statement-in-Case.new.both.later.now in
    let v : made nodes0 word ≡ typed_made S C N subject = c.in_ok-word-in-Case.ensures ∙ ap (λ ns. typed_made S ns N subject) c.as_slice-in-Case.ensures.nodes in
    let other : left ≡ last (maps nodes1 C L) =
    c.in_ok-statement-in-Case.ensures.ok
    ∙ ap (λ (p : Pair). statement_made S (maps nodes1 p.current.now p.later.now) c.deref-in-Case-2.result.now) back
    ∙ ap₂ (λ x y. statement_made S (maps nodes1 x y) c.deref-in-Case-2.result.now) b.now b.past
    ∙ ap (statement_made S (maps nodes1 C L)) c.deref-in-Case-2.ensures in
    let base : c.statement-in-Case.new.both.current.base ≡ C = c.in_ok-statement-in-Case.ensures.base ∙ ap (λ (p : Pair). p.current.base) back ∙ b.begun ∙ b.now in
    let base_later : c.statement-in-Case.new.both.later.base ≡ L = c.in_ok-statement-in-Case.ensures.base_later ∙ ap (λ (p : Pair). p.later.base) back ∙ b.begun_later ∙ b.past in
    let from : (x y : List ℕ) → x ≡ C → y ≡ L → closed S x y arms (last (maps nodes1 x y)) ≡ closed S C L arms (last (maps nodes1 C L)) =
    λ x y p q. ap₂ (λ x' y'. closed S x' y' arms (last (maps nodes1 x' y'))) p q in
    let same : maps c.close.new.nodes c.close.new.other.current.now c.close.new.other.later.now ≡ statement_made S m c.args.statement.now =
    c.in_ok-close-in-Case.ensures.ok
    ∙ ap₂ (λ x y. closed S x y arms left) base base_later
    ∙ ap (closed S C L arms) other
    ∙ sym (from B.current.now B.later.now b.now b.past)
    ∙ c.in_ok-arms-in-Case.ensures.made last
    ∙ ap₂ (λ x y. case_made S (maps nodes0 x y) c.unsigned.result c.deref-in-Case.result.now last) b.now b.past
    ∙ ap (λ (o : Operand). case_made S (maps nodes0 C L) o c.deref-in-Case.result.now last) c.unsigned.ensures
    ∙ ap (λ (is : List CaseItem). case_made S (maps nodes0 C L) (unsigned word subject.width) is last) c.deref-in-Case.ensures
    ∙ ap (λ (k : Made). case_made S (maps k.nodes C L) (unsigned k.node subject.width) c.in-Case.items last) v
    ∙ (rw c.in-Case.is (sym (made_case S m subject c.in-Case.items c.in-Case.other c.in-Case.wild))) in
    ended c.end-in-Case.result c.close.new.nodes c.close.new.other c.end-in-Case.new.self _ _ (statement_made S m c.args.statement.now) same c.end-in-Case.ensures.ok

-- ---- the arms of a case

pub arms-loop-i-init : goal.arms-loop-i-init
arms-loop-i-init t c =
    let S : List Signal = c.args.self.now.signals.now in
    let C : List ℕ = c.args.both.now.current.now in
    let L : List ℕ = c.args.both.now.later.now in
    let m : Maps = maps c.args.nodes.now C L in
    record {
      fits = c.requires.fits;
      arms = subst (All (ArmFits S)) (sym c.new-arms.ensures) (All-nil (ArmFits S));
      back = refl;
      rest = λ other. closed-empty S C L c.new-arms.result (case_made S m c.args.subject c.args.items.now other) c.new-arms.ensures;
    }

pub arms-loop-i-preserved : goal.arms-loop-i-preserved
arms-loop-i-preserved t c =
    let S : List Signal = c.args.self.now.signals.now in
    let C : List ℕ = c.args.both.now.current.now in
    let L : List ℕ = c.args.both.now.later.now in
    let subject : Operand = c.args.subject in
    let items : List CaseItem = c.args.items.now in
    let i : ℕ = c.loop-i.i in
    let item : CaseItem = c.index-items-i.result in
    let within : i < length items = c.loop-i-test.true in
    let nodes : List WordNode = c.loop-i.nodes in
    let between : List WordNode = c.test.new.nodes in
    let after : List WordNode = c.arm.new.nodes in
    let test : ℕ = c.in_ok-test.test in
    let arm : Arm = c.in_ok-arm.arm in
    let back : c.loop-i.both ≡ c.args.both.now = c.loop-i.invariant.back in
    let now : c.loop-i.both.current.now ≡ C = ap (λ (p : Pair). p.current.now) back in
    let past : c.loop-i.both.later.now ≡ L = ap (λ (p : Pair). p.later.now) back in
    let tested : made between test ≡ item_test S C nodes subject item.labels =
    c.in_ok-test.ensures
    ∙ ap (λ ns. item_test S ns nodes subject c.deref.result.now) (c.as_slice.ensures.nodes ∙ now)
    ∙ ap (item_test S C nodes subject) c.deref.ensures in
    let run : maps after (put arm.kept.current C) (put arm.kept.later L) ≡ statement_made S (maps between C L) item.body =
    sym (ap₂ (λ x y. maps after (put arm.kept.current x) (put arm.kept.later y)) now past) ∙ c.in_ok-arm.ensures.made ∙ ap₂ (λ x y. statement_made S (maps between x y) item.body) now past in
    record {
      fits = (items_fit-next S subject.width items i item within c.index-items-i.is c.loop-i.invariant.fits).rest;
      arms = arms-push S c.loop-i.arms c.push.new.self arm c.in_ok-push.ensures.ok c.loop-i.invariant.arms c.in_ok-arm.ensures.fits;
      back = c.in_ok-arm.ensures.back ∙ back;
      rest = λ other.
          ap (λ a. closed S C L a (case_made S (maps after C L) subject (drop (i + 1) items) other)) c.in_ok-push.ensures.ok
          ∙ sym (run-next S nodes between after C L subject test c.loop-i.arms arm i items item other within c.index-items-i.is tested c.in_ok-arm.ensures.test run)
          ∙ c.loop-i.invariant.rest other;
    }

pub arms-returns-clause-made : goal.arms-returns-clause-made
arms-returns-clause-made t c =
    let S : List Signal = c.args.self.now.signals.now in
    let C : List ℕ = c.args.both.now.current.now in
    let L : List ℕ = c.args.both.now.later.now in
    let items : List CaseItem = c.args.items.now in
    let m : Maps = maps c.loop-i.nodes C L in
    let past : length items ≤ c.loop-i.i = c.loop-i-test.false in
    λ other. ap (closed S C L c.loop-i.arms) (sym (run-end S m c.args.subject c.loop-i.i items other past)) ∙ c.loop-i.invariant.rest other

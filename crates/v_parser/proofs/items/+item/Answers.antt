use Rattle.std.proofs.Common.{◌≡◌, ◌≢◌, ◌+◌, ◌-◌, ◌++◌, ◌∷◌, [], true, false, Bool, length, Err, sym, ap, ◌∙◌, arith, rules}
use Rattle.std.proofs.lemmas.Result.{err_from_is_err_and}
use Rattle.v_tree.specs.declared.fault.Fault.{Fault}
use Rattle.v_tree.specs.Marks.{mark_at, same}
use Rattle.v_tree.specs.Faults.{no_place}
use Rattle.v_tree.proofs.BindLemmas.{bad}
use Rattle.v_tree.proofs.StepLemmas.{fails_along}
use Rattle.v_parts.specs.Reading.{run_at}
use Rattle.v_syntax.specs.ItemTree.{item_of}
use Rattle.v_parser.specs.ItemReading.{item_at, items_at}
use Rattle.v_parts.proofs.ListSteps.{with_front, run_turn, run_ends, run_fails, run_done}
use Rattle.v_parser.proofs.items.+item.Goals as goal

pub items-returns-then-stands-clause-gives : goal.items-returns-then-stands-clause-gives
items-returns-then-stands-clause-gives t c =
    let ts = c.args.tokens.now in
    let inner = item_at ts c.args.nesting_left in
    let n = length ts - c.loop.counter in
    let some : n ≢ 0 = omega (arith, c.loop-test.true) in
    let last : same (mark_at ts c.loop.end) c.args.last ≡ true = grind arith in
    c.loop.invariant.goes_on ∙ run_ends ts c.args.last (λ (s : Bool). inner) (λ s x. s) item_of n true c.loop.end c.loop.list.items some last

pub items-returns-in_err-part-clause-gives : goal.items-returns-in_err-part-clause-gives
items-returns-in_err-part-clause-gives t c =
    let ts = c.args.tokens.now in
    let inner = item_at ts c.args.nesting_left in
    let n = length ts - c.loop.counter in
    let some : n ≢ 0 = omega (arith, c.loop-test.true) in
    let other : same (mark_at ts c.loop.end) c.args.last ≡ false = grind arith in
    let fact : (g : Fault) → inner c.loop.end ≡ Err g → items_at ts c.args.last inner c.args.at ≡ Err g =
    λ g h. c.loop.invariant.goes_on ∙ run_fails ts c.args.last (λ (s : Bool). inner) (λ s x. s) item_of n true c.loop.end c.loop.list.items g some other h in
    let p = err_from_is_err_and c.from_residual.result c.from_residual.ensures.1 in
    rw (p.1, p.2) (fails_along c.in_err-part.field-0.0 _ _ fact c.in_err-part.ensures.gives)

pub items-loop-preserved : goal.items-loop-preserved
items-loop-preserved t c =
    let ts = c.args.tokens.now in
    let inner = item_at ts c.args.nesting_left in
    let last = c.args.last in
    let front = c.loop.list.items in
    let y = c.in_ok-part.part in
    let m = c.in_ok-part.next in
    let n = length ts - c.loop.counter in
    let pushed : c.push.new.self.items ≡ front ++ y ∷ [] = search rules in
    let some : n ≢ 0 = omega (arith, c.loop-test.true) in
    let other : same (mark_at ts c.loop.end) last ≡ false = grind arith in
    let turn = run_turn ts last (λ (s : Bool). inner) (λ s x. s) item_of n true c.loop.end front y m some other c.in_ok-part.ensures.gives in
    let fewer : n - 1 ≡ length ts - (c.loop.counter + 1) = omega arith in
    record {
      inside = c.in_ok-part.ensures.inside;
      goes_on = c.loop.invariant.goes_on ∙ turn ∙ ap (λ k. with_front item_of (front ++ y ∷ []) (run_at ts last (λ (s : Bool). inner) (λ s x. s) k true m)) fewer
          ∙ ap (λ q. with_front item_of q (run_at ts last (λ (s : Bool). inner) (λ s x. s) (length ts - (c.loop.counter + 1)) true m)) (sym pushed);
    }

pub items-returns-clause-gives : goal.items-returns-clause-gives
items-returns-clause-gives t c =
    let ts = c.args.tokens.now in
    let inner = item_at ts c.args.nesting_left in
    let shown : c.no_place.result ≡ no_place ts c.loop.end = search rules in
    c.loop.invariant.goes_on ∙ run_done ts c.args.last (λ (s : Bool). inner) (λ s x. s) item_of (length ts - c.loop.counter) true c.loop.end c.loop.list.items (omega (arith, c.loop-test.false))
    ∙ ap (λ f. bad f) (sym shown)

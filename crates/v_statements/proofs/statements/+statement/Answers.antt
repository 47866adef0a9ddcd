use Rattle.std.proofs.Common.{◌≡◌, ◌≢◌, ◌+◌, ◌-◌, ◌++◌, ◌∷◌, [], true, false, Bool, ◌||◌, length, Err, sym, ap, ◌∙◌, arith, rules}
use Rattle.std.proofs.lemmas.Result.{err_from_is_err_and}
use Rattle.v_lexer.specs.declared.types.terminal.Terminal.TheVariants as marks
use Rattle.v_tree.specs.declared.fault.Fault.{Fault}
use Rattle.v_tree.specs.Marks.{mark_at, same}
use Rattle.v_tree.specs.Faults.{no_place}
use Rattle.v_tree.proofs.BindLemmas.{bad}
use Rattle.v_tree.proofs.StepLemmas.{fails_along}
use Rattle.v_parts.specs.Reading.{run_at}
use Rattle.v_syntax.specs.StatementTree.{statement_of, case_item_of, is_default}
use Rattle.v_statements.specs.StatementReading.{statement_at, body_at, case_items_at, case_item_at, has_default}
use Rattle.v_parts.proofs.ListSteps.{with_front, run_turn, run_ends, run_fails, run_done}
use Rattle.v_statements.proofs.statements.+statement.Goals as goal

pub statements-returns-then-stands-clause-gives : goal.statements-returns-then-stands-clause-gives
statements-returns-then-stands-clause-gives t c =
    let ts = c.args.tokens.now in
    let inner = statement_at ts c.args.nesting_left in
    let n = length ts - c.loop.counter in
    let some : n ≢ 0 = omega (arith, c.loop-test.true) in
    let last : same (mark_at ts c.loop.end) marks.End ≡ true = grind arith in
    c.loop.invariant.goes_on ∙ run_ends ts marks.End (λ (s : Bool). inner) (λ s x. s) statement_of n true c.loop.end c.loop.list.items some last

pub statements-returns-in_err-part-clause-gives : goal.statements-returns-in_err-part-clause-gives
statements-returns-in_err-part-clause-gives t c =
    let ts = c.args.tokens.now in
    let inner = statement_at ts c.args.nesting_left in
    let n = length ts - c.loop.counter in
    let some : n ≢ 0 = omega (arith, c.loop-test.true) in
    let other : same (mark_at ts c.loop.end) marks.End ≡ false = grind arith in
    let fact : (g : Fault) → inner c.loop.end ≡ Err g → body_at ts inner c.args.at ≡ Err g =
    λ g h. c.loop.invariant.goes_on ∙ run_fails ts marks.End (λ (s : Bool). inner) (λ s x. s) statement_of n true c.loop.end c.loop.list.items g some other h in
    let p = err_from_is_err_and c.from_residual.result c.from_residual.ensures.1 in
    rw (p.1, p.2) (fails_along c.in_err-part.field-0.0 _ _ fact c.in_err-part.ensures.gives)

pub statements-loop-preserved : goal.statements-loop-preserved
statements-loop-preserved t c =
    let ts = c.args.tokens.now in
    let inner = statement_at ts c.args.nesting_left in
    let front = c.loop.list.items in
    let y = c.in_ok-part.part in
    let m = c.in_ok-part.next in
    let n = length ts - c.loop.counter in
    let pushed : c.push.new.self.items ≡ front ++ y ∷ [] = search rules in
    let some : n ≢ 0 = omega (arith, c.loop-test.true) in
    let other : same (mark_at ts c.loop.end) marks.End ≡ false = grind arith in
    let turn = run_turn ts marks.End (λ (s : Bool). inner) (λ s x. s) statement_of n true c.loop.end front y m some other c.in_ok-part.ensures.gives in
    let fewer : n - 1 ≡ length ts - (c.loop.counter + 1) = omega arith in
    record {
      inside = c.in_ok-part.ensures.inside;
      goes_on = c.loop.invariant.goes_on ∙ turn ∙ ap (λ k. with_front statement_of (front ++ y ∷ []) (run_at ts marks.End (λ (s : Bool). inner) (λ s x. s) k true m)) fewer
          ∙ ap (λ q. with_front statement_of q (run_at ts marks.End (λ (s : Bool). inner) (λ s x. s) (length ts - (c.loop.counter + 1)) true m)) (sym pushed);
    }

pub statements-returns-clause-gives : goal.statements-returns-clause-gives
statements-returns-clause-gives t c =
    let ts = c.args.tokens.now in
    let inner = statement_at ts c.args.nesting_left in
    let shown : c.no_place.result ≡ no_place ts c.loop.end = search rules in
    c.loop.invariant.goes_on ∙ run_done ts marks.End (λ (s : Bool). inner) (λ s x. s) statement_of (length ts - c.loop.counter) true c.loop.end c.loop.list.items (omega (arith, c.loop-test.false))
    ∙ ap (λ f. bad f) (sym shown)

pub case_items-returns-then-stands-clause-gives : goal.case_items-returns-then-stands-clause-gives
case_items-returns-then-stands-clause-gives t c =
    let ts = c.args.tokens.now in
    let part = case_item_at ts c.args.nesting_left c.args.kind (statement_at ts c.args.nesting_left) in
    let n = length ts - c.loop.counter in
    let some : n ≢ 0 = omega (arith, c.loop-test.true) in
    let last : same (mark_at ts c.loop.end) marks.Endcase ≡ true = grind arith in
    c.loop.invariant.goes_on ∙ run_ends ts marks.Endcase part has_default case_item_of n c.loop.had c.loop.end c.loop.list.items some last

pub case_items-returns-in_err-part-clause-gives : goal.case_items-returns-in_err-part-clause-gives
case_items-returns-in_err-part-clause-gives t c =
    let ts = c.args.tokens.now in
    let inner = statement_at ts c.args.nesting_left in
    let part = case_item_at ts c.args.nesting_left c.args.kind inner in
    let n = length ts - c.loop.counter in
    let some : n ≢ 0 = omega (arith, c.loop-test.true) in
    let other : same (mark_at ts c.loop.end) marks.Endcase ≡ false = grind arith in
    let fact : (g : Fault) → part c.loop.had c.loop.end ≡ Err g → case_items_at ts c.args.nesting_left c.args.kind inner (case_item_of c.args.first) c.args.at ≡ Err g =
    λ g h. c.loop.invariant.goes_on ∙ run_fails ts marks.Endcase part has_default case_item_of n c.loop.had c.loop.end c.loop.list.items g some other h in
    let p = err_from_is_err_and c.from_residual-in_err-part.result c.from_residual-in_err-part.ensures.1 in
    rw (p.1, p.2) (fails_along c.in_err-part.field-0.0 _ _ fact c.in_err-part.ensures.gives)

pub case_items-loop-preserved : goal.case_items-loop-preserved
case_items-loop-preserved t c =
    let ts = c.args.tokens.now in
    let part = case_item_at ts c.args.nesting_left c.args.kind (statement_at ts c.args.nesting_left) in
    let front = c.loop.list.items in
    let y = c.in_ok-part.part in
    let m = c.in_ok-part.next in
    let n = length ts - c.loop.counter in
    let rest = length ts - (c.loop.counter + 1) in
    let pushed : c.push-in-loop.new.self.items ≡ front ++ y ∷ [] = search rules in
    let had : c.has_default-had.result ≡ (c.loop.had || is_default (case_item_of y)) = search rules in
    let some : n ≢ 0 = omega (arith, c.loop-test.true) in
    let other : same (mark_at ts c.loop.end) marks.Endcase ≡ false = grind arith in
    let turn = run_turn ts marks.Endcase part has_default case_item_of n c.loop.had c.loop.end front y m some other c.in_ok-part.ensures.gives in
    let fewer : n - 1 ≡ rest = omega arith in
    record {
      inside = c.in_ok-part.ensures.inside;
      goes_on = c.loop.invariant.goes_on ∙ turn
          ∙ ap (λ k. with_front case_item_of (front ++ y ∷ []) (run_at ts marks.Endcase part has_default k (c.loop.had || is_default (case_item_of y)) m)) fewer
          ∙ ap (λ h. with_front case_item_of (front ++ y ∷ []) (run_at ts marks.Endcase part has_default rest h m)) (sym had)
          ∙ ap (λ q. with_front case_item_of q (run_at ts marks.Endcase part has_default rest c.has_default-had.result m)) (sym pushed);
    }

pub case_items-returns-clause-gives : goal.case_items-returns-clause-gives
case_items-returns-clause-gives t c =
    let ts = c.args.tokens.now in
    let part = case_item_at ts c.args.nesting_left c.args.kind (statement_at ts c.args.nesting_left) in
    let shown : c.no_place.result ≡ no_place ts c.loop.end = search rules in
    c.loop.invariant.goes_on ∙ run_done ts marks.Endcase part has_default case_item_of (length ts - c.loop.counter) c.loop.had c.loop.end c.loop.list.items (omega (arith, c.loop-test.false))
    ∙ ap (λ f. bad f) (sym shown)

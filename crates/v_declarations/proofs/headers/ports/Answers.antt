use Rattle.std.proofs.Common.{◌≡◌, ◌≢◌, ◌+◌, ◌-◌, ◌++◌, ◌∷◌, [], true, false, length, Err, sym, ap, ◌∙◌, arith, rules}
use Rattle.std.proofs.lemmas.Result.{err_from_is_err_and}
use Rattle.v_lexer.specs.declared.types.terminal.Terminal.TheVariants as marks
use Rattle.v_tree.specs.declared.fault.Fault.{Fault}
use Rattle.v_tree.specs.Marks.{mark_at, same}
use Rattle.v_tree.specs.Faults.{no_place}
use Rattle.v_tree.proofs.BindLemmas.{bad}
use Rattle.v_tree.proofs.StepLemmas.{fails_along}
use Rattle.v_parts.specs.Reading.{run_at}
use Rattle.v_syntax.specs.ModuleTree.{port_of}
use Rattle.v_declarations.specs.Headers.{is_reg}
use Rattle.v_declarations.specs.HeaderReading.{next_port_at, ports_at}
use Rattle.v_parts.proofs.ListSteps.{with_front, run_turn, run_ends, run_fails, run_done}
use Rattle.v_declarations.proofs.headers.ports.Goals as goal

pub returns-then-stands-clause-gives : goal.returns-then-stands-clause-gives
returns-then-stands-clause-gives c =
    let ts = c.args.tokens.now in
    let n = length ts - c.loop.counter in
    let some : n ≢ 0 = omega (arith, c.loop-test.true) in
    let last : same (mark_at ts c.loop.end) marks.Close ≡ true = grind arith in
    c.loop.invariant.goes_on ∙ run_ends ts marks.Close (next_port_at ts c.args.nesting_left) is_reg port_of n c.loop.reg c.loop.end c.loop.list.items some last

pub returns-in_err-part-clause-gives : goal.returns-in_err-part-clause-gives
returns-in_err-part-clause-gives c =
    let ts = c.args.tokens.now in
    let part = next_port_at ts c.args.nesting_left in
    let n = length ts - c.loop.counter in
    let some : n ≢ 0 = omega (arith, c.loop-test.true) in
    let other : same (mark_at ts c.loop.end) marks.Close ≡ false = grind arith in
    let fact : (g : Fault) → part c.loop.reg c.loop.end ≡ Err g → ports_at ts c.args.nesting_left (port_of c.args.first) c.args.at ≡ Err g =
    λ g h. c.loop.invariant.goes_on ∙ run_fails ts marks.Close part is_reg port_of n c.loop.reg c.loop.end c.loop.list.items g some other h in
    let p = err_from_is_err_and c.from_residual-in_err-part.result c.from_residual-in_err-part.ensures.1 in
    rw (p.1, p.2) (fails_along c.in_err-part.field-0.0 _ _ fact c.in_err-part.ensures.gives)

pub loop-preserved : goal.loop-preserved
loop-preserved c =
    let ts = c.args.tokens.now in
    let part = next_port_at ts c.args.nesting_left in
    let front = c.loop.list.items in
    let y = c.in_ok-part.part in
    let m = c.in_ok-part.next in
    let n = length ts - c.loop.counter in
    let rest = length ts - (c.loop.counter + 1) in
    let pushed : c.push-in-loop.new.self.items ≡ front ++ y ∷ [] = search rules in
    let reg : c.is_reg-reg-in-loop.result ≡ is_reg c.loop.reg (port_of y) = search rules in
    let some : n ≢ 0 = omega (arith, c.loop-test.true) in
    let other : same (mark_at ts c.loop.end) marks.Close ≡ false = grind arith in
    let turn = run_turn ts marks.Close part is_reg port_of n c.loop.reg c.loop.end front y m some other c.in_ok-part.ensures.gives in
    let fewer : n - 1 ≡ rest = omega arith in
    record {
      inside = c.in_ok-part.ensures.inside;
      goes_on = c.loop.invariant.goes_on ∙ turn
          ∙ ap (λ k. with_front port_of (front ++ y ∷ []) (run_at ts marks.Close part is_reg k (is_reg c.loop.reg (port_of y)) m)) fewer
          ∙ ap (λ h. with_front port_of (front ++ y ∷ []) (run_at ts marks.Close part is_reg rest h m)) (sym reg)
          ∙ ap (λ q. with_front port_of q (run_at ts marks.Close part is_reg rest c.is_reg-reg-in-loop.result m)) (sym pushed);
    }

pub returns-clause-gives : goal.returns-clause-gives
returns-clause-gives c =
    let ts = c.args.tokens.now in
    let shown : c.no_place.result ≡ no_place ts c.loop.end = search rules in
    c.loop.invariant.goes_on ∙ run_done ts marks.Close (next_port_at ts c.args.nesting_left) is_reg port_of (length ts - c.loop.counter) c.loop.reg c.loop.end c.loop.list.items (omega (arith, c.loop-test.false))
    ∙ ap (λ f. bad f) (sym shown)

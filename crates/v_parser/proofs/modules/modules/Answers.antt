use Rattle.std.proofs.Common.{◌≡◌, ◌≢◌, ◌+◌, ◌-◌, ◌<◌, ◌≤◌, ◌++◌, ◌∷◌, [], length, Err, sym, ap, ◌∙◌, arith, rules}
use Rattle.std.proofs.lemmas.Result.{err_from_is_err_and}
use Rattle.v_tree.specs.declared.fault.Fault.{Fault}
use Rattle.v_tree.proofs.StepLemmas.{fails_along}
use Rattle.v_syntax.specs.ModuleTree.{module_of}
use Rattle.v_parser.specs.ModuleReading.{module_at, modules_at, source_at}
use Rattle.v_parts.proofs.ListSteps.{with_front}
use Rattle.v_parser.proofs.ModuleSteps.{modules_turn, modules_end, modules_done, modules_fails}
use Rattle.v_parser.proofs.modules.modules.Goals as goal

pub returns-then-end-tokens-clause-gives : goal.returns-then-end-tokens-clause-gives
returns-then-end-tokens-clause-gives c =
    let ts = c.args.tokens.now in
    let n = length ts - c.loop.counter in
    let some : n ≢ 0 = omega (arith, c.loop-test.true) in
    let past : length ts ≤ c.loop.end = grind arith in
    c.loop.invariant.goes_on ∙ modules_end ts n c.loop.end c.loop.list.items some past

pub returns-in_err-part-clause-gives : goal.returns-in_err-part-clause-gives
returns-in_err-part-clause-gives c =
    let ts = c.args.tokens.now in
    let n = length ts - c.loop.counter in
    let some : n ≢ 0 = omega (arith, c.loop-test.true) in
    let here : c.loop.end < length ts = grind arith in
    let fact : (g : Fault) → module_at ts 256 c.loop.end ≡ Err g → source_at ts 0 ≡ Err g =
    λ g h. c.loop.invariant.goes_on ∙ modules_fails ts n c.loop.end c.loop.list.items g some here h in
    let p = err_from_is_err_and c.from_residual.result c.from_residual.ensures.1 in
    rw (p.1, p.2) (fails_along c.in_err-part.field-0.0 _ _ fact c.in_err-part.ensures.gives)

pub loop-preserved : goal.loop-preserved
loop-preserved c =
    let ts = c.args.tokens.now in
    let front = c.loop.list.items in
    let y = c.in_ok-part.part in
    let m = c.in_ok-part.next in
    let n = length ts - c.loop.counter in
    let pushed : c.push.new.self.items ≡ front ++ y ∷ [] = search rules in
    let some : n ≢ 0 = omega (arith, c.loop-test.true) in
    let here : c.loop.end < length ts = grind arith in
    let turn = modules_turn ts n c.loop.end front y m some here c.in_ok-part.ensures.gives in
    let fewer : n - 1 ≡ length ts - (c.loop.counter + 1) = omega arith in
    record {
      inside = c.in_ok-part.ensures.inside;
      goes_on = c.loop.invariant.goes_on ∙ turn ∙ ap (λ k. with_front module_of (front ++ y ∷ []) (modules_at ts k m)) fewer
          ∙ ap (λ q. with_front module_of q (modules_at ts (length ts - (c.loop.counter + 1)) m)) (sym pushed);
    }

pub returns-clause-gives : goal.returns-clause-gives
returns-clause-gives c =
    let ts = c.args.tokens.now in
    c.loop.invariant.goes_on ∙ modules_done ts (length ts - c.loop.counter) c.loop.end c.loop.list.items (omega (arith, c.loop-test.false))

use Rattle.std.proofs.Common.{◌≡◌, ◌≢◌, ◌+◌, ◌-◌, ◌≤◌, ◌++◌, ◌∷◌, [], true, length, map, max, Some, Ok, Err, sym, ap, ap₂, ◌∙◌, arith, rules}
use Rattle.std.proofs.lemmas.Result.{err_from_is_err_and}
use Rattle.v_lexer.specs.declared.types.terminal.Terminal.TheVariants as marks
use Rattle.v_tree.specs.declared.fault.Fault.{Fault}
use Rattle.v_tree.specs.Marks.{mark_at, same}
use Rattle.v_tree.specs.Operators.{binary_of, strength}
use Rattle.v_tree.specs.Sites.{site}
use Rattle.v_syntax.specs.Tree.{Tree, binary, tree_of, selection_of, trees_of, selections_of}
use Rattle.v_tree.specs.Depth.{levels, levels_of_parts, levels_of_selects}
use Rattle.v_tree.specs.Reading.{readers, below, above, chain, climb, more_parts, selects_at}
use Rattle.v_tree.proofs.BindLemmas.{ok-one}
use Rattle.v_tree.proofs.StepLemmas.{climb_eleven, climb_from, chain_turn, chain_refused, chain_done, fails_along, with_parts, with_selects, levels_pushed, levels_selected, parts_turn, parts_done, selects_turn, selects_done}
use Rattle.v_tree.proofs.read.+read.Goals as goal

pub climb-returns-in_err-right-clause-gives : goal.climb-returns-in_err-right-clause-gives
climb-returns-in_err-right-clause-gives t c =
    let ts = c.args.tokens.now in
    let operand = (readers ts c.args.nesting_left).operand in
    let right = climb ts operand 11 in
    let left = c.loop.left in
    let op = c.in-Some.operator in
    let is : binary_of (mark_at ts left.end) ≡ Some op = cc in
    let level : c.strength-level.result ≡ strength op = c.strength-level.ensures.level in
    let low : c.args.least ≤ strength op = omega (arith, c.if-level-least.false, level) in
    let some : length ts - c.loop.counter ≢ 0 = omega (arith, c.loop-test.true) in
    let up : above c.args.levels_left (levels (tree_of left.tree)) left.end ≡ Ok c.in_ok-less.less =
    ap (λ v. above c.args.levels_left v left.end) (sym c.loop.invariant.sized.counts) ∙ c.in_ok-less.ensures.gives in
    let start = climb_from ts operand c.args.least c.args.levels_left c.args.at (tree_of c.in_ok-left.left.tree) c.in_ok-left.left.end c.in_ok-left.ensures.gives in
    let fact : (g : Fault) → climb ts operand 12 (c.strength-level.result + 1) c.in_ok-less.less (left.end + 1) ≡ Err g → climb ts operand 12 c.args.least c.args.levels_left c.args.at ≡ Err g =
    λ g h. start ∙ c.loop.invariant.goes_on
    ∙ chain_refused ts right c.args.least c.args.levels_left c.args.at (length ts - c.loop.counter) (tree_of left.tree) left.end op c.in_ok-less.less g some is low up
    (climb_eleven ts operand op c.in_ok-less.less (left.end + 1) ∙ ap (λ v. climb ts operand 12 (v + 1) c.in_ok-less.less (left.end + 1)) (sym level) ∙ h) in
    let p = err_from_is_err_and c.from_residual-in_err-right.result c.from_residual-in_err-right.ensures.1 in
    rw (p.1, p.2) (fails_along c.in_err-right.field-0.0 _ _ fact c.in_err-right.ensures.gives)

pub climb-loop-preserved : goal.climb-loop-preserved
climb-loop-preserved t c =
    let ts = c.args.tokens.now in
    let operand = (readers ts c.args.nesting_left).operand in
    let right = climb ts operand 11 in
    let left = c.loop.left in
    let next = c.in_ok-left-2.left in
    let y = c.in_ok-right.right in
    let op = c.in-Some.operator in
    let n = length ts - c.loop.counter in
    let is : binary_of (mark_at ts left.end) ≡ Some op = cc in
    let level : c.strength-level.result ≡ strength op = c.strength-level.ensures.level in
    let low : c.args.least ≤ strength op = omega (arith, c.if-level-least.false, level) in
    let some : n ≢ 0 = omega (arith, c.loop-test.true) in
    let up : above c.args.levels_left (levels (tree_of left.tree)) left.end ≡ Ok c.in_ok-less.less =
    ap (λ v. above c.args.levels_left v left.end) (sym c.loop.invariant.sized.counts) ∙ c.in_ok-less.ensures.gives in
    let turn = chain_turn ts right c.args.least c.args.levels_left c.args.at n (tree_of left.tree) left.end op c.in_ok-less.less (tree_of y.tree) y.end some is low up
    (climb_eleven ts operand op c.in_ok-less.less (left.end + 1) ∙ ap (λ v. climb ts operand 12 (v + 1) c.in_ok-less.less (left.end + 1)) (sym level) ∙ c.in_ok-right.ensures.gives) in
    let fewer : n - 1 ≡ length ts - (c.loop.counter + 1) = omega arith in
    let found = ok-one _ _ c.in_ok-left-2.ensures.gives in
    record {
      sized = record {
        counts = c.in_ok-left-2.ensures.sized.counts;
        rises = omega (arith, c.in_ok-left-2.ensures.sized.rises, c.in_ok-less.ensures.less, c.in_ok-less.ensures.rises, c.in_ok-right.ensures.sized.rises);
        within = c.in_ok-left-2.ensures.sized.within;
      };
      goes_on = c.loop.invariant.goes_on ∙ turn
          ∙ ap (λ k. chain ts right c.args.least c.args.levels_left c.args.at k (binary (site ts c.args.at y.end) op (tree_of left.tree) (tree_of y.tree)) y.end) fewer
          ∙ ap (λ (q : Tree × _). chain ts right c.args.least c.args.levels_left c.args.at (length ts - (c.loop.counter + 1)) q.0 q.1) found;
    }

pub climb-returns-clause-gives : goal.climb-returns-clause-gives
climb-returns-clause-gives t c =
    let ts = c.args.tokens.now in
    let operand = (readers ts c.args.nesting_left).operand in
    let left = c.loop.left in
    climb_from ts operand c.args.least c.args.levels_left c.args.at (tree_of c.in_ok-left.left.tree) c.in_ok-left.left.end c.in_ok-left.ensures.gives
    ∙ c.loop.invariant.goes_on
    ∙ chain_done ts (climb ts operand 11) c.args.least c.args.levels_left c.args.at (length ts - c.loop.counter) (tree_of left.tree) left.end (omega (arith, c.loop-test.false))

pub parts_from-loop-preserved : goal.parts_from-loop-preserved
parts_from-loop-preserved t c =
    let ts = c.args.tokens.now in
    let whole = (readers ts c.args.nesting_left).whole in
    let front = c.loop.parts.items in
    let y = c.in_ok-next.next in
    let n = length ts - c.loop.counter in
    let pushed : c.push-in-loop.new.self.items ≡ front ++ y.tree ∷ [] = search rules in
    let top : c.max-levels.result ≡ max c.loop.levels y.levels = search rules in
    let sized = c.loop.invariant.sized in
    let found = c.in_ok-next.ensures.sized in
    let some : n ≢ 0 = omega (arith, c.loop-test.true) in
    let comma : same (mark_at ts c.loop.end) marks.Comma ≡ true = grind arith in
    let turn = parts_turn ts whole c.args.levels_left n c.loop.end front y.tree y.end some comma c.in_ok-next.ensures.gives in
    let fewer : n - 1 ≡ length ts - (c.loop.counter + 1) = omega arith in
    record {
      sized = record {
        counts = top ∙ ap₂ max sized.counts found.counts ∙ sym (levels_pushed front y.tree) ∙ ap (λ q. levels_of_parts (trees_of (map tree_of q))) (sym pushed);
        rises = omega (arith, top, sized.rises, found.rises);
        within = found.within;
      };
      goes_on = c.loop.invariant.goes_on ∙ turn ∙ ap (λ k. with_parts (front ++ y.tree ∷ []) (more_parts ts whole c.args.levels_left k y.end)) fewer
          ∙ ap (λ q. with_parts q (more_parts ts whole c.args.levels_left (length ts - (c.loop.counter + 1)) y.end)) (sym pushed);
    }

pub parts_from-returns-clause-gives : goal.parts_from-returns-clause-gives
parts_from-returns-clause-gives t c =
    let ts = c.args.tokens.now in
    c.loop.invariant.goes_on ∙ parts_done ts (readers ts c.args.nesting_left).whole c.args.levels_left (length ts - c.loop.counter) c.loop.end c.loop.parts.items (omega (arith, c.loop-test.false))

pub selects-loop-preserved : goal.selects-loop-preserved
selects-loop-preserved t c =
    let ts = c.args.tokens.now in
    let whole = (below ts c.args.nesting_left).whole in
    let front = c.loop.found.items in
    let y = c.in_ok-next.next in
    let n = 2 - c.loop.counter in
    let pushed : c.push.new.self.items ≡ front ++ y.tree ∷ [] = search rules in
    let top : c.max-levels.result ≡ max c.loop.levels y.levels = search rules in
    let sized = c.loop.invariant.sized in
    let found = c.in_ok-next.ensures.sized in
    let some : n ≢ 0 = omega (arith, c.loop-test.true) in
    let bracket : same (mark_at ts c.loop.end) marks.OpenBracket ≡ true = grind arith in
    let turn = selects_turn ts c.args.nesting_left whole c.args.levels_left n c.loop.end front y.tree y.end some bracket c.in_ok-next.ensures.gives in
    let fewer : n - 1 ≡ 2 - (c.loop.counter + 1) = omega arith in
    record {
      sized = record {
        counts = top ∙ ap₂ max sized.counts found.counts ∙ sym (levels_selected front y.tree) ∙ ap (λ q. levels_of_selects (selections_of (map selection_of q))) (sym pushed);
        rises = omega (arith, top, sized.rises, found.rises);
        within = found.within;
      };
      goes_on = c.loop.invariant.goes_on ∙ turn ∙ ap (λ k. with_selects (front ++ y.tree ∷ []) (selects_at ts c.args.nesting_left whole c.args.levels_left k y.end)) fewer
          ∙ ap (λ q. with_selects q (selects_at ts c.args.nesting_left whole c.args.levels_left (2 - (c.loop.counter + 1)) y.end)) (sym pushed);
    }

pub selects-returns-clause-gives : goal.selects-returns-clause-gives
selects-returns-clause-gives t c =
    let ts = c.args.tokens.now in
    c.loop.invariant.goes_on ∙ selects_done ts c.args.nesting_left (below ts c.args.nesting_left).whole c.args.levels_left (2 - c.loop.counter) c.loop.end c.loop.found.items (omega (arith, c.loop-test.false))

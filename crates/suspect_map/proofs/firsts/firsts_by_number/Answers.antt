use Rattle.std.proofs.Common.{◌≡◌, ◌++◌, ◌∷◌, [], ◌∙◌, sym, ap, ap₂, map, get_or, None, nat_eq}
use Rattle.std.proofs.lemmas.List.{get_or_default}
use Rattle.loc_base.proofs.ShelfLists.{map-take_at}
use Rattle.std.proofs.lemmas.List.{take_all}
use Rattle.suspect_map.specs.Grouping.{first_by, under}
use Rattle.suspect_map.proofs.ChainLaws.{firsts-within}
use Rattle.suspect_map.proofs.Steps.{same_number, met-first, after-first}
use Rattle.suspect_map.proofs.firsts.firsts_by_number.Goals as goal

pub loop-at-preserved : goal.loop-at-preserved
loop-at-preserved c =
    let keys = c.args.keys.now in
    let i = c.loop-at.at in
    let key = get_or keys i None in
    let is : key ≡ get_or keys i key = get_or_default keys i None key c.loop-at-test.true in (
      c.in_ok-push.ensures.items
          ∙ ap₂ (λ xs x. xs ++ x ∷ []) c.loop-at.invariant.0
          (c.in_ok-first.ensures.number ∙ met-first nat_eq same_number keys i key (under c.loop-at.table) c.loop-at-test.true is c.loop-at.invariant.1)
          ∙ sym (map-take_at (first_by nat_eq keys) keys i key c.loop-at-test.true is),
      (λ q. c.in_ok-first.ensures.table q ∙ after-first nat_eq same_number keys i key (under c.loop-at.table) q c.loop-at-test.true is (c.loop-at.invariant.1 q)),
    )

pub returns-clause-firsts : goal.returns-clause-firsts
returns-clause-firsts c = c.loop-at.invariant.0 ∙ ap (map (first_by nat_eq c.args.keys.now)) (take_all c.loop-at.at c.args.keys.now c.loop-at-test.false)

pub returns-clause-within : goal.returns-clause-within
returns-clause-within c = firsts-within nat_eq c.args.keys.now c.loop-at.firsts.items (returns-clause-firsts c)

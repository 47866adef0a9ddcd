use Rattle.std.proofs.Common.{◌≡◌, ◌<◌, ◌≤◌, ◌++◌, ◌∷◌, [], ◌∙◌, sym, ap, ap₂, arith, get_or, length, map, Option, ℕ, List, nat_eq}
use Rattle.std.specs.Prelude.{option_copied}
use Rattle.std.specs.Cmp.Lexicographic.{pointwise}
use Rattle.std.proofs.lemmas.List.{length-map, take_all}
use Rattle.loc_base.specs.NameTable.{number_of}
use Rattle.loc_base.proofs.ShelfLists.{map-take_at}
use Rattle.suspect_map.specs.Grouping.{first_by}
use Rattle.suspect_map.proofs.ChainLaws.{firsts-within}
use Rattle.suspect_map.specs.Modules.{modules}
use Rattle.suspect_map.proofs.ModuleKeys.{module-key}
use Rattle.suspect_map.proofs.Steps.{same_name, met-first, after-first}
use Rattle.suspect_map.proofs.modules.firsts_by_module.Goals as goal

pub loop-at-preserved : goal.loop-at-preserved
loop-at-preserved c =
    let keys : List (Option (List ℕ)) = map modules.key c.args.places.now in
    let i = c.loop-at.at in
    let key : Option (List ℕ) = option_copied c.module_of.result in
    let is : key ≡ get_or keys i key = module-key c.args.places.now i c.index-places-at.result key c.loop-at-test.true c.index-places-at.is c.module_of.ensures in
    let within : i < length keys = omega (arith, c.loop-at-test.true, length-map c.args.places.now modules.key) in (
      c.in_ok-push.ensures.items
          ∙ ap₂ (λ xs x. xs ++ x ∷ []) c.loop-at.invariant.0
          (c.in_ok-first.ensures.number ∙ met-first (pointwise nat_eq) same_name keys i key (number_of c.loop-at.table) within is c.loop-at.invariant.1)
          ∙ sym (map-take_at (first_by (pointwise nat_eq) keys) keys i key within is),
      (λ q. c.in_ok-first.ensures.table q ∙ after-first (pointwise nat_eq) same_name keys i key (number_of c.loop-at.table) q within is (c.loop-at.invariant.1 q)),
    )

pub returns-clause-firsts : goal.returns-clause-firsts
returns-clause-firsts c =
    let keys : List (Option (List ℕ)) = map modules.key c.args.places.now in
    let all : length keys ≤ c.loop-at.at = omega (arith, c.loop-at-test.false, length-map c.args.places.now modules.key) in
    c.loop-at.invariant.0 ∙ ap (map (first_by (pointwise nat_eq) keys)) (take_all c.loop-at.at keys all)

pub returns-clause-within : goal.returns-clause-within
returns-clause-within c = firsts-within (pointwise nat_eq) (map modules.key c.args.places.now) c.loop-at.firsts.items (returns-clause-firsts c)

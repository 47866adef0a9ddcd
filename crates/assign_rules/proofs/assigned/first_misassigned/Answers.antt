use Rattle.std.proofs.Common.{◌∙◌, ap, sym, subst, arith}
use Rattle.std.proofs.lemmas.Bool.{false≢true}
use Rattle.design_rules.specs.Entries.{is_variable}
use Rattle.assign_rules.specs.Ways.{AreWays, is_mixed}
use Rattle.assign_rules.proofs.WayLaws.{mixed-same, none-more, none-mixed}
use Rattle.assign_rules.proofs.assigned.first_misassigned.Goals as goal

pub returns-then-is_mixed : goal.returns-then-is_mixed
returns-then-is_mixed c =
    let d = c.args.design.now in
    let homes = c.args.homes.now in
    let n = c.of-all.result.count in
    let ways = c.in_ok-ways.ways in
    let h = c.loop-home.home in
    let are = subst (λ xs. AreWays d xs n ways) c.of-all.ensures.list c.in_ok-ways.ensures in
    let variable = c.is_variable.ensures ∙ ap (λ s. is_variable s h) c.deref.ensures.value in
    let same = mixed-same d homes n ways h are c.loop-home-test.true ∙ ap (λ v. is_mixed v ways h) (sym variable) ∙ sym c.is_mixed.ensures in
    (same ∙ c.if-is_mixed.true, λ k below mixed. false≢true (sym (c.loop-home.invariant k below) ∙ mixed))

pub loop-home-preserved : goal.loop-home-preserved
loop-home-preserved c =
    let d = c.args.design.now in
    let homes = c.args.homes.now in
    let n = c.of-all.result.count in
    let ways = c.in_ok-ways.ways in
    let h = c.loop-home.home in
    let are = subst (λ xs. AreWays d xs n ways) c.of-all.ensures.list c.in_ok-ways.ensures in
    let variable = c.is_variable.ensures ∙ ap (λ s. is_variable s h) c.deref.ensures.value in
    let same = mixed-same d homes n ways h are c.loop-home-test.true ∙ ap (λ v. is_mixed v ways h) (sym variable) ∙ sym c.is_mixed.ensures in
    none-more d homes h c.loop-home.invariant (same ∙ c.if-is_mixed.false)

pub returns : goal.returns
returns c =
    none-mixed c.args.design.now c.args.homes.now c.of-all.result.count c.loop-home.home c.of-all.ensures.all c.of-all.ensures.positive (omega (arith, c.loop-home-test.false))
    c.loop-home.invariant

use Rattle.std.proofs.Common.{◌∙◌, ap, sym, subst, length}
use Rattle.assign_rules.specs.Racing.{AreRacing}
use Rattle.assign_rules.specs.UsedBy.{AreUsers}
use Rattle.assign_rules.proofs.RaceLaws.{first-race}
use Rattle.assign_rules.proofs.WayLaws.{home-below}
use Rattle.assign_rules.proofs.races.first_race.Goals as goal

pub returns : goal.returns
returns c =
    let d = c.args.design.now in
    let homes = c.args.homes.now in
    let n = c.of-all.result.count in
    let k = length d.clocked.items in
    let table = c.in_ok-table.table.items in
    let racing = c.in_ok-racing.racing in
    let users = subst (λ xs. AreUsers d xs k table) c.of-all.ensures.list c.in_ok-table.ensures.users in
    let races =
    subst (λ xs. AreRacing d homes xs k racing) c.deref.ensures.value (subst (λ xs. AreRacing d xs c.deref.result.now k racing) c.of-all.ensures.list c.in_ok-racing.ensures.racing) in
    first-race d homes n table racing c.first_home.result c.requires users races c.in_ok-racing.ensures.long (home-below homes n c.of-all.ensures.all c.of-all.ensures.positive)
    c.first_home.ensures.none c.first_home.ensures.some c.first_home.ensures.within c.first_home.ensures.first

use Rattle.std.proofs.Common.{◌≡◌, ◌∙◌, [], map, refl, ap, rules}
use Rattle.trail_core.proofs.Flat.{listed_in, flattened}
use Rattle.trail_core.proofs.shorts.flatten.Goals as goal

pub returns-in-Ok : goal.returns-in-Ok
returns-in-Ok c =
    let none : c.args.shorts.now.flat ≡ [] = search rules in
    flattened c.args.shorts.now _ refl none (c.in-Ok.ensures ∙ ap (map listed_in) c.deref.ensures.value) c.new.ensures.items

use Rattle.std.proofs.Common.{◌≡◌, ◌+◌, ◌≤◌, ◌∙◌, ap, ℤ, pos, rules, arith, w64}
use Rattle.std.specs.Prelude.{◌≤ℤ◌}
use Rattle.std.proofs.lemmas.Int.{to_z-of_z}
use mir.Val.{SFits}
use Rattle.v_sizes.specs.Selected.{bits_below, bits_within, start_within}
use Rattle.v_sizes.specs.Sizing.{chosen_width}
use Rattle.v_selects.specs.Capped.{capped}
use Rattle.v_selects.specs.Named.{chosen_in}
use Rattle.v_selects.specs.Picked.{first_distance}
use Rattle.v_selects.proofs.Parted.{near-within, from-capped, few-within, below-cut, within-cut}
use Rattle.v_selects.proofs.name_node.placed.Goals as goal

pub start_within-requires : goal.start_within-requires
start_within-requires c =
    let chosen = chosen_in c.args.one.now in
    let from : ℤ = first_distance c.args.bounds.left c.args.bounds.right chosen in
    let fits : SFits w64 c.distance-distance.result = search rules in
    let near : capped from ≤ℤ pos 255 = near-within c.args.width (chosen_width chosen) from (omega arith) c.requires.some in
    simp to_z-of_z (rw c.distance-distance.ensures near)

pub returns-clause-below : goal.returns-clause-below
returns-clause-below c =
    let chosen = chosen_in c.args.one.now in
    let fits : SFits w64 c.distance-distance.result = search rules in
    below-cut c.width-size.result (chosen_width chosen) c.bits_below.result c.distance-distance.result
    (first_distance c.args.bounds.left c.args.bounds.right chosen) c.width-size.ensures.value (omega arith) c.distance-distance.ensures
    (simp to_z-of_z at c.bits_below.ensures)

pub returns-clause-within : goal.returns-clause-within
returns-clause-within c =
    let chosen = chosen_in c.args.one.now in
    let fits : SFits w64 c.distance-distance.result = search rules in
    within-cut c.args.width c.width-size.result (chosen_width chosen) c.bits_within.result c.distance-distance.result
    (first_distance c.args.bounds.left c.args.bounds.right chosen) c.width-size.ensures.value (omega arith) (omega arith)
    c.distance-distance.ensures (simp to_z-of_z at c.bits_within.ensures)

pub returns-clause-from : goal.returns-clause-from
returns-clause-from c =
    let chosen = chosen_in c.args.one.now in
    let from : ℤ = first_distance c.args.bounds.left c.args.bounds.right chosen in
    let fits : SFits w64 c.distance-distance.result = search rules in
    let is : c.start_within.result ≡ start_within c.distance-distance.result = simp to_z-of_z at c.start_within.ensures in
    is ∙ ap start_within c.distance-distance.ensures ∙ from-capped c.args.width (chosen_width chosen) from (omega arith) c.requires.some

pub returns-clause-fits : goal.returns-clause-fits
returns-clause-fits c =
    let chosen = chosen_in c.args.one.now in
    let from : ℤ = first_distance c.args.bounds.left c.args.bounds.right chosen in
    let fits : SFits w64 c.distance-distance.result = search rules in
    let below : c.bits_below.result ≡ bits_below (chosen_width chosen) from =
    below-cut c.width-size.result (chosen_width chosen) c.bits_below.result c.distance-distance.result from
    c.width-size.ensures.value (omega arith) c.distance-distance.ensures (simp to_z-of_z at c.bits_below.ensures) in
    let within : c.bits_within.result ≡ bits_within c.args.width (chosen_width chosen) from =
    within-cut c.args.width c.width-size.result (chosen_width chosen) c.bits_within.result c.distance-distance.result from
    c.width-size.ensures.value (omega arith) (omega arith) c.distance-distance.ensures (simp to_z-of_z at c.bits_within.ensures) in
    rw (below, within) (few-within c.args.width (chosen_width chosen) from)

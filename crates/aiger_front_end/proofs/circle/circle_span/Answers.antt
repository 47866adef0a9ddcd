use Rattle.std.proofs.Common.{arith}
use Rattle.loc_base.proofs.ShelfLists.{slice_get-at}
use Rattle.aiger_front_end.proofs.Circles.{shows, circle-some, member-within}
use Rattle.aiger_front_end.proofs.circle.circle_span.Goals as goal

pub least_of-least-requires : goal.least_of-least-requires
least_of-least-requires c = circle-some c.args.design.now c.args.drivers.now c.requires

pub index-requires : goal.index-requires
index-requires c =
    let drivers = c.args.design.now.drivers in
    let within = member-within c.args.design.now c.args.drivers.now c.least_of-least.result c.requires
    c.least_of-least.ensures.stands in
    omega (arith, within, drivers.ok.0)

pub returns : goal.returns
returns c =
    let least = c.least_of-least.result in
    let within = member-within c.args.design.now c.args.drivers.now least c.requires c.least_of-least.ensures.stands
    in
    shows c.args.design.now c.args.drivers.now least c.index.result.now c.span_of.result c.requires
    c.least_of-least.ensures.stands c.least_of-least.ensures.least
    (slice_get-at c.args.design.now.drivers.items least c.index.result.now within c.index.ensures) c.span_of.ensures

use Rattle.std.proofs.Common.{◌∙◌, Some, None, sym, arith}
use Rattle.v_hierarchy.specs.Places.{place_in}
use Rattle.bind_items.proofs.WireLaws.{found-first, find-none, find-some, find-within}
use Rattle.bind_items.proofs.wires.Wires.find.Goals as goal

pub returns-in-Some-get : goal.returns-in-Some-get
returns-in-Some-get c =
    let first = found-first (place_in c.args.self.now.places) c.args.self.now.list.now c.as_bytes.result.now c.args.name.now c.find.result (Some c.in-Some.place) c.as_bytes.ensures.same c.find.ensures c.args.self.now.tells c.in-Some.is in
    c.wire_of.ensures ∙ find-some c.args.self.now.list.now c.args.name.now c.in-Some.place c.in-Some-get.connection.now first c.in-Some-get.ensures.lookup.1

pub returns-in-None-get : goal.returns-in-None-get
returns-in-None-get c =
    let first = found-first (place_in c.args.self.now.places) c.args.self.now.list.now c.as_bytes.result.now c.args.name.now c.find.result (Some c.in-Some.place) c.as_bytes.ensures.same c.find.ensures c.args.self.now.tells c.in-Some.is in
    absurd (omega (arith, find-within c.args.self.now.list.now c.args.name.now c.in-Some.place first, c.in-None-get.ensures.lookup.3))

pub returns-in-None : goal.returns-in-None
returns-in-None c =
    let first = found-first (place_in c.args.self.now.places) c.args.self.now.list.now c.as_bytes.result.now c.args.name.now c.find.result None c.as_bytes.ensures.same c.find.ensures c.args.self.now.tells c.in-None.is in
    sym (find-none c.args.self.now.list.now c.args.name.now first)

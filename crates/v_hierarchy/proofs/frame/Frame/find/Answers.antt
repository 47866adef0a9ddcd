use Rattle.std.proofs.Common.{◌∙◌, sym, arith}
use Rattle.v_hierarchy.specs.Places.{place_in}
use Rattle.v_hierarchy.specs.Frames.{names_of}
use Rattle.v_hierarchy.specs.Views.{standing_of}
use Rattle.v_hierarchy.proofs.FrameLaws.{find-none}
use Rattle.v_hierarchy.proofs.DeclaredLaws.{found-stands}
use Rattle.v_hierarchy.proofs.Framed.{found, found-within, here}
use Rattle.v_hierarchy.proofs.frame.Frame.find.Goals as goal

pub returns-in_default-clause-found : goal.returns-in_default-clause-found
returns-in_default-clause-found c =
    let none = found (place_in c.args.self.now.places) c.args.self.now.entries.items c.as_bytes.result.now c.args.name.now c.find.result c.as_bytes.ensures.same c.find.ensures c.args.self.now.tells ∙ c.in_default.is in
    sym (find-none c.args.name.now (names_of c.args.self.now) none)

pub index-requires : goal.index-requires
index-requires c =
    let place = found (place_in c.args.self.now.places) c.args.self.now.entries.items c.as_bytes.result.now c.args.name.now c.find.result c.as_bytes.ensures.same c.find.ensures c.args.self.now.tells ∙ c.in-Some.is in
    omega (arith, found-within c.args.self.now.entries.items c.args.name.now c.in-Some.place place, c.args.self.now.entries.ok.0)

pub returns-clause-found : goal.returns-clause-found
returns-clause-found c =
    let place = found (place_in c.args.self.now.places) c.args.self.now.entries.items c.as_bytes.result.now c.args.name.now c.find.result c.as_bytes.ensures.same c.find.ensures c.args.self.now.tells ∙ c.in-Some.is in
    let within = found-within c.args.self.now.entries.items c.args.name.now c.in-Some.place place in
    sym (here c.args.self.now.entries.items c.in-Some.place c.index.result.now within c.index.ensures c.args.name.now place)

pub returns-clause-stands : goal.returns-clause-stands
returns-clause-stands c =
    let place = found (place_in c.args.self.now.places) c.args.self.now.entries.items c.as_bytes.result.now c.args.name.now c.find.result c.as_bytes.ensures.same c.find.ensures c.args.self.now.tells ∙ c.in-Some.is in
    let within = found-within c.args.self.now.entries.items c.args.name.now c.in-Some.place place in
    found-stands (names_of c.args.self.now) c.args.name.now (standing_of c.index.result.now.standing) c.args.self.now.stands
    (here c.args.self.now.entries.items c.in-Some.place c.index.result.now within c.index.ensures c.args.name.now place)

use Rattle.std.proofs.Common.{sym, subst}
use Rattle.trail_core.specs.TrailState.{TrailState, MayAdd}
use Rattle.trail_core.proofs.Entering.{lists_same}
use Rattle.trail_core.proofs.Flat.{same_lists}
use Rattle.trail_core.proofs.Calls.{have_lists, have_short_lists, watching_wider, watching_same, watching_added, watching_refused}
use Rattle.trail_core.proofs.trail.Trail.add_clause.Goals as goal

pub make_room-requires : goal.make_room-requires
make_room-requires c = have_lists c.self.inside.plain c.args.self.now c.self.inside.watches c.self.inside.shorts.fixed c.args.literals.now c.self.view_is c.self.invariant.well c.requires.within

pub invariant_of-self : goal.invariant_of-self
invariant_of-self c = watching_wider c.self.inside.plain c.self.inside.watches c.make_room.new.watches c.self.inside.shorts c.self.invariant c.make_room.ensures.wider

pub make_short_room-requires : goal.make_short_room-requires
make_short_room-requires c = λ o. have_short_lists c.self.inside.plain c.args.self.now c.self.inside.watches c.self.inside.shorts c.args.literals.now c.self.view_is (c.takes_more-takes.ensures.growing o) c.self.invariant c.requires.within

pub add_clause-requires-clause-may : goal.add_clause-requires-clause-may
add_clause-requires-clause-may c = subst (λ (s : TrailState). MayAdd s c.args.literals.now) (sym c.self.view_is) c.requires.may

pub enter-requires-clause-lists : goal.enter-requires-clause-lists
enter-requires-clause-lists c = λ o. lists_same c.self.inside.shorts c.make_short_room.new.shorts c.args.literals.now c.make_short_room.ensures.same
    (have_short_lists c.self.inside.plain c.args.self.now c.self.inside.watches c.self.inside.shorts c.args.literals.now c.self.view_is (c.takes_more-takes.ensures.growing o) c.self.invariant c.requires.within)

pub invariant_of-self-in_err-make_short_room : goal.invariant_of-self-in_err-make_short_room
invariant_of-self-in_err-make_short_room c = watching_same c.self.inside.plain c.make_room.new.watches c.self.inside.shorts c.make_short_room.new.shorts
    (watching_wider c.self.inside.plain c.self.inside.watches c.make_room.new.watches c.self.inside.shorts c.self.invariant c.make_room.ensures.wider) (same_lists c.self.inside.shorts c.make_short_room.new.shorts c.make_short_room.ensures.same)

pub invariant_of-self-in_err-number : goal.invariant_of-self-in_err-number
invariant_of-self-in_err-number c = watching_refused c.self.inside.plain c.add_clause.new.self c.self.inside.watches c.make_room.new.watches c.self.inside.shorts c.make_short_room.new.shorts c.self.invariant c.make_room.ensures.wider c.make_short_room.ensures.same c.in_err-number.ensures.err

pub invariant_of-self-2 : goal.invariant_of-self-2
invariant_of-self-2 c = watching_added c.takes_more-takes.result c.self.inside.plain c.add_clause.new.self c.args.self.now c.self.inside.watches c.make_room.new.watches c.self.inside.shorts c.make_short_room.new.shorts c.enter.new.shorts c.count_clause.new.shorts c.args.literals.now c.count-count.result c.in_ok-number.number c.self.view_is c.self.invariant c.requires.may c.requires.distinct c.count-count.ensures.count c.make_room.ensures.wider c.in_ok-make_room.ensures.more c.in_ok-make_room.ensures.pair c.make_short_room.ensures.same c.takes_more-takes.ensures.count c.takes_more-takes.ensures.growing c.enter.ensures.short c.enter.ensures.long c.count_clause.ensures.growing c.count_clause.ensures.flat c.count_clause.ensures.fixed c.in_ok-number.ensures.number c.in_ok-number.ensures.ok c.add_clause.ensures.trail

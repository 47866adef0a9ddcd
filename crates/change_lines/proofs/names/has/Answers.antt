use Rattle.std.proofs.Common.{◌≡◌, ◌-◌, ap, arith, rules, sym, Some, None}
use Rattle.std.specs.Prelude.{slice_get}
use Rattle.std.proofs.lemmas.Bool.{le-leb, ltb-false, ltb-true}
use Rattle.std.proofs.lemmas.Option.{slice_get_past}
use Rattle.loc_base.proofs.ShelfLists.{slice_get-at}
use Rattle.change_lines.proofs.MemberLaws.{has-none, has-some}
use Rattle.change_lines.proofs.names.has.Goals as goal

pub returns-in-Some : goal.returns-in-Some
returns-in-Some c =
    let known = c.in-Some.ensures.lookup in
    let at : slice_get c.args.groups.now (c.args.suspect - 1) ≡ Some c.in-Some.group.now =
    slice_get-at c.args.groups.now (c.args.suspect - 1) c.in-Some.group.now (ltb-true _ _ (sym known.0)) known.1 in
    has-some c.args.groups.now c.args.place c.args.suspect c.in-Some.group.now c.is_one_of.result (le-leb 1 c.args.suspect c.if-suspect-lt1.false) at
    (first_of (search rules, cc, grind arith))

pub returns-in-None : goal.returns-in-None
returns-in-None c =
    has-none c.args.groups.now c.args.place c.args.suspect (le-leb 1 c.args.suspect c.if-suspect-lt1.false)
    (slice_get_past c.args.groups.now (c.args.suspect - 1) (ltb-false _ _ (sym c.in-None.ensures.lookup.0)))

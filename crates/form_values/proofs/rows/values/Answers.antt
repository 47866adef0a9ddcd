use Rattle.std.proofs.Common.{All, subst, sym}
use Rattle.form_values.specs.ModelValues.{IsPlace, assignment_of}
use Rattle.form_values.proofs.Meets.{listed-places, meet-values, same-places}
use Rattle.form_values.proofs.rows.values.Goals as goal

pub rows_of-requires-clause-places : goal.rows_of-requires-clause-places
rows_of-requires-clause-places c =
    subst (All (IsPlace c.args.u.now)) (sym c.as_slice-2.ensures.value)
    (listed-places c.args.u.now c.args.groups.now c.requires.places c.args.members.now c.in_ok-places.places.items
    (same-places c.in_ok-places.places.items c.args.members.now c.as_slice.result.now c.args.groups.now c.as_slice.ensures
    c.in_ok-places.ensures.places))

pub returns-clause-meets : goal.returns-clause-meets
returns-clause-meets c =
    meet-values (assignment_of c.args.model.now) c.args.u.now c.args.groups.now c.args.members.now
    (record { places = c.in_ok-places.places; rows = c.in_ok-rows.rows }) c.as_slice-2.result.now c.as_slice-2.ensures.value
    c.in_ok-places.ensures.ascending
    (same-places c.in_ok-places.places.items c.args.members.now c.as_slice.result.now c.args.groups.now c.as_slice.ensures
    c.in_ok-places.ensures.places)
    c.in_ok-rows.ensures.widths c.in_ok-rows.ensures.numbers

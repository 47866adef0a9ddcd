use Rattle.std.proofs.Common.{◌∙◌, sym, ap, get_or, arith}
use Rattle.suspect_map.specs.declared.group.Group.{Group}
use Rattle.form_values.proofs.FitSteps.{places-more, places-end, places-not}
use Rattle.form_values.proofs.fits.are_places.Goals as goal

pub returns-then-not-are_all_places : goal.returns-then-not-are_all_places
returns-then-not-are_all_places c =
    places-not c.args.u.now c.args.groups.now c.loop-i.i c.index-deref-i.result c.as_slice.result.now c.are_all_places.result
    (omega (arith, c.loop-i-test.true, c.len-i-end.ensures))
    (c.index-deref-i.is ∙ ap (λ gs. get_or gs c.loop-i.i c.index-deref-i.result) c.deref.ensures)
    (c.as_slice.ensures ∙ ap (λ (g : Group). g.places) (sym c.index-deref-i.is))
    c.if-not-are_all_places.true c.are_all_places.ensures

pub loop-i-preserved : goal.loop-i-preserved
loop-i-preserved c =
    places-more c.args.u.now c.args.groups.now c.loop-i.i c.index-deref-i.result c.as_slice.result.now c.are_all_places.result
    c.loop-i.invariant
    (c.index-deref-i.is ∙ ap (λ gs. get_or gs c.loop-i.i c.index-deref-i.result) c.deref.ensures)
    (c.as_slice.ensures ∙ ap (λ (g : Group). g.places) (sym c.index-deref-i.is))
    c.if-not-are_all_places.false c.are_all_places.ensures

pub returns : goal.returns
returns c =
    places-end c.args.u.now c.args.groups.now c.loop-i.i (omega (arith, c.loop-i-test.false, c.len-i-end.ensures)) c.loop-i.invariant

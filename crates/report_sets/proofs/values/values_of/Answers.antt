use Rattle.std.proofs.Common.{◌≡◌, ◌∙◌, true, ap, ap₂, map, rules, subst, sym, List}
use Rattle.std.specs.Prelude.{IsTrue}
use Rattle.design_core.specs.Explained.{place_width}
use Rattle.design_core.specs.Works.{places_of}
use Rattle.loc_base.specs.declared.bits.Bits.{Bits}
use Rattle.report_sets.specs.Reading.{AllHaveWords, AppendsRows, HasItsRows, all_rows, groups_of}
use Rattle.report_sets.proofs.Pushing.{read-false, read-true}
use Rattle.report_sets.proofs.Writing.{are-widths, is-written, none-long, none-read}
use Rattle.report_sets.proofs.values.values_of.Goals as goal

pub returns-then-not-has_its_rows-clause-none : goal.returns-then-not-has_its_rows-clause-none
returns-then-not-has_its_rows-clause-none c =
    none-long c.args.scene.now.design.now c.args.scene.now.traces.now c.args.scene.now.groups.now c.args.set.now (λ its.
    let has : c.has_its_rows.result ≡ true =
    c.has_its_rows.ensures.1 (subst (HasItsRows c.args.scene.now.traces.now) (sym c.as_slice.ensures) its) in
    cc)

pub push_all-requires : goal.push_all-requires
push_all-requires c =
    let d = c.args.scene.now.design.now in
    are-widths d c.args.scene.now.groups.now c.args.set.now.members c.in_ok-places.places.items c.deref-2.result.now
    c.requires.scene.well_formed c.requires.scene.groups
    (λ p. c.in_ok-places.ensures.places p ∙ ap₂ (λ gs ms. places_of (groups_of gs) ms p) c.as_slice-2.ensures c.as_slice-3.ensures)
    (c.deref-2.ensures.value ∙ (c.in_ok-widths.ensures ∙ ap (map (place_width d)) c.deref.ensures.value))

pub returns-then-not-branch-clause-none : goal.returns-then-not-branch-clause-none
returns-then-not-branch-clause-none c =
    let d = c.args.scene.now.design.now in
    none-read d c.args.scene.now.traces.now c.args.scene.now.groups.now c.args.set.now c.in_ok-places.places.items c.deref-2.result.now
    c.in_ok-places.ensures.ascending
    (λ p. c.in_ok-places.ensures.places p ∙ ap₂ (λ gs ms. places_of (groups_of gs) ms p) c.as_slice-2.ensures c.as_slice-3.ensures)
    (c.deref-2.ensures.value ∙ (c.in_ok-widths.ensures ∙ ap (map (place_width d)) c.deref.ensures.value))
    (subst (λ vs. ¬ AllHaveWords c.deref-2.result.now vs) c.as_slice-4.ensures
    (read-false c.in_ok-push_all.field-0
    (AppendsRows c.deref-2.result.now (all_rows c.as_slice-4.result.now) c.new-rows.result.items c.push_all.new.words.items)
    (¬ AllHaveWords c.deref-2.result.now c.as_slice-4.result.now) (search rules) c.in_ok-push_all.ensures))

pub returns-clause-some : goal.returns-clause-some
returns-clause-some c =
    let d = c.args.scene.now.design.now in
    let are : c.deref-2.result.now ≡ map (place_width d) c.in_ok-places.places.items =
    c.deref-2.ensures.value ∙ (c.in_ok-widths.ensures ∙ ap (map (place_width d)) c.deref.ensures.value) in
    let has : IsTrue c.has_its_rows.result = search rules in
    is-written d c.args.scene.now.traces.now c.args.scene.now.groups.now c.args.set.now
    (record { places = c.in_ok-places.places; rows = c.push_all.new.words }) c.in_ok-places.ensures.ascending
    (λ p. c.in_ok-places.ensures.places p ∙ ap₂ (λ gs ms. places_of (groups_of gs) ms p) c.as_slice-2.ensures c.as_slice-3.ensures)
    (subst (HasItsRows c.args.scene.now.traces.now) c.as_slice.ensures (c.has_its_rows.ensures.0 has))
    (subst (λ (old : List Bits). AppendsRows (map (place_width d) c.in_ok-places.places.items) (all_rows c.args.set.now.values) old c.push_all.new.words.items)
    c.new-rows.ensures.items
    (subst (λ vs. AppendsRows (map (place_width d) c.in_ok-places.places.items) (all_rows vs) c.new-rows.result.items c.push_all.new.words.items)
    c.as_slice-4.ensures
    (subst (λ ws. AppendsRows ws (all_rows c.as_slice-4.result.now) c.new-rows.result.items c.push_all.new.words.items) are
    (read-true c.in_ok-push_all.field-0
    (AppendsRows c.deref-2.result.now (all_rows c.as_slice-4.result.now) c.new-rows.result.items c.push_all.new.words.items)
    (¬ AllHaveWords c.deref-2.result.now c.as_slice-4.result.now) (search rules) c.in_ok-push_all.ensures))))

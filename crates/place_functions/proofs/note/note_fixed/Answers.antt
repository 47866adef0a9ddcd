use Rattle.std.proofs.Common.{ℕ, ◌∙◌, ap, ◌+◌, ◌+ℤ◌, ℤ, take, get_or, pos, rules, w32, ◌||◌}
use Rattle.std.specs.Prelude.{◌==◌, ◌&&◌}
use Rattle.std.specs.List.{list_any}
use Rattle.std.proofs.lemmas.Int.{to_z-of_z}
use mir.Val.{SFits}
use Rattle.loc_base.specs.Bits.{width_of, value_of}
use Rattle.design_core.specs.Operator.{integer_of}
use Rattle.design_core.specs.Pick.{is_at}
use Rattle.design_core.specs.Valuation.{position_at}
use Rattle.design_bits.proofs.Picks.{offsets-more}
use Rattle.place_functions.proofs.NoteSteps.{place-both, place-named, spread}
use Rattle.place_functions.proofs.note.note_fixed.Goals as goal

pub loop-offset-preserved : goal.loop-offset-preserved
loop-offset-preserved c =
    let S = c.args.signals.now in
    let fixed = c.args.fixed in
    let at : ℤ = integer_of fixed.signed (width_of fixed.index) (value_of fixed.index) in
    let test = λ (b : ℕ) (k : ℤ). is_at b (position_at S fixed.signal (at +ℤ k)) in
    let now = get_or c.args.offsets.now c.loop-offset.offset-index (pos 0) in
    let fits : SFits w32 now = search rules in
    place-named _ _ fixed.place
    (λ s b. (s == fixed.signal && list_any (test b) (take c.loop-offset.offset-index c.args.offsets.now)) || (s == fixed.signal && test b now))
    (λ s b. s == fixed.signal && list_any (test b) (take (c.loop-offset.offset-index + 1) c.args.offsets.now))
    (place-both _ _ _ fixed.place (λ s b. s == fixed.signal && list_any (test b) (take c.loop-offset.offset-index c.args.offsets.now)) (λ s b. s == fixed.signal && test b now)
    c.loop-offset.invariant (simp to_z-of_z at c.in_ok-note_at.ensures))
    (λ s b.
    spread (s == fixed.signal) (list_any (test b) (take c.loop-offset.offset-index c.args.offsets.now)) (test b now)
    ∙ ap (λ x. s == fixed.signal && x) (offsets-more (test b) c.args.offsets.now c.loop-offset.offset-index c.loop-offset-test.true))

use Rattle.std.proofs.Common.{◌≡◌, ◌∙◌, sym, ap, ℤ, ◌-ℤ◌, rules, w32, w64}
use Rattle.std.proofs.lemmas.Int.{to_z-of_z}
use mir.Val.{SFits}
use Rattle.loc_base.specs.Bits.{width_of, value_of}
use Rattle.design_core.specs.Operator.{integer_of}
use Rattle.plain_values.proofs.EvaluateSelect.{behind, far_word, near_less, near_word}
use Rattle.plain_values.proofs.select.array_word.Goals as goal

pub returns-in_err-distance : goal.returns-in_err-distance
returns-in_err-distance c =
    let z : ℤ = integer_of c.args.signed (width_of c.args.index) (value_of c.args.index) in
    c.from_residual.ensures ∙ sym (far_word c.args.first c.args.count z c.args.low c.in_err-distance.ensures (search rules) (search rules))

pub overflow_sub-distance : goal.overflow_sub-distance
overflow_sub-distance c =
    let z : ℤ = integer_of c.args.signed (width_of c.args.index) (value_of c.args.index) in
    let low : SFits w32 c.args.low = search rules in
    let less = near_less z c.in_ok-distance.field-0 c.args.low c.in_ok-distance.ensures low in
    let near : SFits w64 c.in_ok-distance.field-0 = less.0 in
    let from : c.from.result ≡ c.args.low = simp to_z-of_z at c.from.ensures in
    let low' : SFits w64 c.from.result = search rules in
    let fits : SFits w64 (c.in_ok-distance.field-0 -ℤ c.from.result) = rw from less.1 in
    simp to_z-of_z fits

pub returns-in_err-place_within : goal.returns-in_err-place_within
returns-in_err-place_within c =
    let z : ℤ = integer_of c.args.signed (width_of c.args.index) (value_of c.args.index) in
    let low : SFits w32 c.args.low = search rules in
    let less = near_less z c.in_ok-distance.field-0 c.args.low c.in_ok-distance.ensures low in
    let near : SFits w64 c.in_ok-distance.field-0 = less.0 in
    let from : c.from.result ≡ c.args.low = simp to_z-of_z at c.from.ensures in
    let low' : SFits w64 c.from.result = search rules in
    let fits : SFits w64 (c.in_ok-distance.field-0 -ℤ c.from.result) = rw from less.1 in
    c.from_residual-in_err-place_within.ensures
    ∙ ap (behind c.args.first) (sym c.in_err-place_within.was)
    ∙ near_word c.args.first c.args.count z c.in_ok-distance.field-0 c.args.low c.from.result c.place_within.result
    c.in_ok-distance.ensures from (simp to_z-of_z at c.place_within.ensures)

pub returns : goal.returns
returns c =
    let z : ℤ = integer_of c.args.signed (width_of c.args.index) (value_of c.args.index) in
    let low : SFits w32 c.args.low = search rules in
    let less = near_less z c.in_ok-distance.field-0 c.args.low c.in_ok-distance.ensures low in
    let near : SFits w64 c.in_ok-distance.field-0 = less.0 in
    let from : c.from.result ≡ c.args.low = simp to_z-of_z at c.from.ensures in
    let low' : SFits w64 c.from.result = search rules in
    let fits : SFits w64 (c.in_ok-distance.field-0 -ℤ c.from.result) = rw from less.1 in
    ap (behind c.args.first) (sym c.in_ok-place_within.was)
    ∙ near_word c.args.first c.args.count z c.in_ok-distance.field-0 c.args.low c.from.result c.place_within.result
    c.in_ok-distance.ensures from (simp to_z-of_z at c.place_within.ensures)

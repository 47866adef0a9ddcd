use Rattle.std.proofs.Common.{◌≡◌, ◌∙◌, ap, true, false, ◌-ℤ◌, rules, arith, w32, w64}
use Rattle.std.specs.Prelude.{int_lt}
use Rattle.std.proofs.lemmas.Int.{ints, to_z-of_z}
use mir.Val.{SFits}
use Rattle.plain_values.proofs.select.distance_of.Goals as goal

pub overflow_sub-result : goal.overflow_sub-result
overflow_sub-result c =
    let right : SFits w32 c.args.right = search rules in
    let from : c.from.result ≡ c.args.right = simp to_z-of_z at c.from.ensures in
    let right' : SFits w64 c.from.result = search rules in
    let index : SFits w64 c.args.index = search rules in
    let fits : SFits w64 (c.from.result -ℤ c.args.index) = omega (arith, ints, from) in
    simp to_z-of_z fits

pub overflow_sub-result-else-left-right : goal.overflow_sub-result-else-left-right
overflow_sub-result-else-left-right c =
    let right : SFits w32 c.args.right = search rules in
    let from : c.from-else-left-right.result ≡ c.args.right = simp to_z-of_z at c.from-else-left-right.ensures in
    let right' : SFits w64 c.from-else-left-right.result = search rules in
    let index : SFits w64 c.args.index = search rules in
    let fits : SFits w64 (c.args.index -ℤ c.from-else-left-right.result) = omega (arith, ints, from) in
    simp to_z-of_z fits

pub returns-then-left-right : goal.returns-then-left-right
returns-then-left-right c =
    let left : SFits w32 c.args.left = search rules in
    let right : SFits w32 c.args.right = search rules in
    let from : c.from.result ≡ c.args.right = simp to_z-of_z at c.from.ensures in
    let right' : SFits w64 c.from.result = search rules in
    let index : SFits w64 c.args.index = search rules in
    let fits : SFits w64 (c.from.result -ℤ c.args.index) = omega (arith, ints, from) in
    let less : int_lt c.args.left c.args.right ≡ true = simp to_z-of_z at c.if-left-right.true in
    simp to_z-of_z (ap (λ r. r -ℤ c.args.index) from ∙ rw less)

pub returns-else-left-right : goal.returns-else-left-right
returns-else-left-right c =
    let left : SFits w32 c.args.left = search rules in
    let right : SFits w32 c.args.right = search rules in
    let from : c.from-else-left-right.result ≡ c.args.right = simp to_z-of_z at c.from-else-left-right.ensures in
    let right' : SFits w64 c.from-else-left-right.result = search rules in
    let index : SFits w64 c.args.index = search rules in
    let fits : SFits w64 (c.args.index -ℤ c.from-else-left-right.result) = omega (arith, ints, from) in
    let more : int_lt c.args.left c.args.right ≡ false = simp to_z-of_z at c.if-left-right.false in
    simp to_z-of_z (ap (λ r. c.args.index -ℤ r) from ∙ rw more)

use Rattle.std.proofs.Common.{◌≡◌, ◌<◌, length, take, ap, sym, ◌∙◌, subst, arith, refl}
use Rattle.design_core.specs.Run.{IsRight}
use Rattle.plain_list.specs.Rightness.{AreRight}
use Rattle.plain_list.proofs.Settled.{true-false}
use Rattle.plain_list.proofs.Assigning.{AreNumbersFor-length}
use Rattle.plain_list.proofs.Trying.{tried-all, none-next, below-largest, within-places, take-set, take-fewer}
use Rattle.plain_list.proofs.trial.+try_values.Goals as goal

pub returns-then-next-numbers-clause-none : goal.returns-then-next-numbers-clause-none
returns-then-next-numbers-clause-none t c wrong tried are same right =
    let all : tried ≡ c.args.numbers.now =
    tried-all c.args.d.now c.args.places.now tried c.args.numbers.now c.args.next
    (c.if-next-numbers.true ∙ sym (AreNumbersFor-length c.args.d.now c.args.places.now c.args.numbers.now c.requires.numbers)) are c.requires.numbers same in
    true-false (sym (c.are_right.ensures.1 (subst (λ V. IsRight c.args.d.now c.args.expected.now V) (sym c.settle.ensures.value)
    (subst (λ ns. AreRight c.args.d.now c.args.order.now c.args.samples.now c.args.expected.now c.args.places.now ns) all right))) ∙ wrong)

pub returns-then-number-largest-clause-none : goal.returns-then-number-largest-clause-none
returns-then-number-largest-clause-none t c _ tried are same =
    let within : c.args.next < length c.loop-next.numbers =
    omega (arith, c.requires.next, c.if-next-numbers.false, c.loop-next.auto.numbers) in
    none-next c.args.d.now c.args.places.now c.args.numbers.now c.loop-next.numbers c.choose.new.numbers c.args.next c.loop-next.number
    (λ ns. AreRight c.args.d.now c.args.order.now c.args.samples.now c.args.expected.now c.args.places.now ns)
    c.loop-next.invariant.1 within c.loop-next.invariant.2 c.choose.ensures.set c.loop-next.invariant.4 (c.if-try_values.ensures.none refl)
    tried are same
    (below-largest c.args.d.now c.args.places.now tried c.args.next c.loop-next.number c.largest_for-largest.result are
    (within-places c.args.d.now c.args.places.now c.args.numbers.now c.args.next c.requires.numbers c.requires.next c.if-next-numbers.false)
    c.largest_for-largest.ensures c.if-number-largest.true)

pub loop-next-preserved : goal.loop-next-preserved
loop-next-preserved t c =
    let within : c.args.next < length c.loop-next.numbers =
    omega (arith, c.requires.next, c.if-next-numbers.false, c.loop-next.auto.numbers) in (
      c.try_values.ensures.words,
      c.try_values.ensures.numbers,
      take-fewer c.try_values.new.numbers c.choose.new.numbers c.args.next c.try_values.ensures.others ∙ ap (take c.args.next) c.choose.ensures.set
          ∙ take-set c.loop-next.numbers c.args.next c.loop-next.number ∙ c.loop-next.invariant.2,
      omega (arith, c.loop-next.invariant.3, c.if-number-largest.false),
      none-next c.args.d.now c.args.places.now c.args.numbers.now c.loop-next.numbers c.choose.new.numbers c.args.next c.loop-next.number
          (λ ns. AreRight c.args.d.now c.args.order.now c.args.samples.now c.args.expected.now c.args.places.now ns)
          c.loop-next.invariant.1 within c.loop-next.invariant.2 c.choose.ensures.set c.loop-next.invariant.4 (c.if-try_values.ensures.none refl),
    )

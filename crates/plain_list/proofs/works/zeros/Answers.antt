use Rattle.std.proofs.Common.{◌++◌, ◌∷◌, [], take, get_or, sym, subst, pow_pos}
use Rattle.std.proofs.lemmas.List.{take_more}
use Rattle.plain_list.specs.Trial.{AreNumbersFor}
use Rattle.design_core.specs.Explained.{place_width}
use Rattle.plain_list.proofs.Working.{AreNumbersFor-push}
use Rattle.plain_list.proofs.works.zeros.Goals as goal

pub loop-place-preserved : goal.loop-place-preserved
loop-place-preserved c =
    let places = c.args.places.now in
    let i = c.loop-place._place-index in
    subst (λ ps. AreNumbersFor c.args.d.now ps c.push.new.self.items) (sym (take_more places i 0 c.loop-place-test.true))
    (subst (AreNumbersFor c.args.d.now (take i places ++ get_or places i 0 ∷ [])) (sym c.in_ok-push.ensures.items)
    (AreNumbersFor-push c.args.d.now (take i places) c.loop-place.numbers.items (get_or places i 0) 0 c.loop-place.invariant
    (pow_pos (place_width c.args.d.now (get_or places i 0)))))

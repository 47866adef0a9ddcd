use Rattle.std.proofs.Common.{ℕ, ◌+◌, ◌-◌, ◌<◌, ◌≡◌, ◌≢◌, ◌∙◌, ap, arith, get_or, length, subst, sym, take}
use Rattle.std.specs.Prelude.{Vec}
use Rattle.std.specs.List.Sorted.{IsStrictlyIncreasing}
use Rattle.design_core.specs.Explained.{is_one_of}
use Rattle.std.specs.declared.alloc.Global.{Global}
use Rattle.std.proofs.lemmas.List.{get_or_default}
use Rattle.report_sets.proofs.PlacesOnce.{once-met, once-pushed}
use Rattle.report_sets.proofs.places.each_once.Goals as goal
use Rattle.report_sets.proofs.places.each_once.Goals.{then-place-eq0+in_ok-push, then-place-eq0-via-then-place-eq0, then-place-eq0-via-else-place-eq0+then-sorted-place, else-place-eq0+else-sorted-place}

pub loop-place-preserved : goal.loop-place-preserved
loop-place-preserved c =
    let sorted = c.args.sorted.now in
    let place = c.loop-place.place in
    let x = get_or sorted place 0 in
    let within : place < length sorted = omega arith in
    let is : x ≡ get_or sorted place x = get_or_default sorted place 0 x within in
    elim c.if-place-eq0.branch [
      | then-place-eq0+in_ok-push w ↦
          let other : 0 < place → get_or sorted (place - 1) 0 ≢ x =
          elim w.then-place-eq0.branch [
            | then-place-eq0-via-then-place-eq0 w' ↦ (λ some same. omega (arith, some))
            | then-place-eq0-via-else-place-eq0+then-sorted-place w' ↦ (λ some same. w'.if-sorted-place.true same)
          ] in
          let both = once-pushed sorted c.loop-place.once.items c.if-place-eq0.once.items place x c.requires within is other
          c.loop-place.invariant.ascending c.loop-place.invariant.same
          (ap (λ (v : Vec ℕ Global). v.items) w.once-is ∙ w.in_ok-push.ensures.items) in
          record { ascending = both.0; same = both.1 }
      | else-place-eq0+else-sorted-place w ↦
          let same = once-met sorted c.loop-place.once.items place x within (omega arith) is w.if-sorted-place.false c.loop-place.invariant.same in
          record {
            ascending = subst (λ (v : Vec ℕ Global). IsStrictlyIncreasing v.items) (sym w.once-is) c.loop-place.invariant.ascending;
            same = subst (λ (v : Vec ℕ Global). (p : ℕ) → is_one_of v.items p ≡ is_one_of (take (place + 1) sorted) p) (sym w.once-is) same;
          }
    ]

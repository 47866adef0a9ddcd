use Rattle.std.proofs.Common.{◌≡◌, ℕ, ◌+◌, ◌-◌, ◌<◌, List, length, get_or, drop, arith, ap, sym, ◌∙◌}
use Rattle.design_core.specs.declared.signal.Signal.{Signal}
use Rattle.design_core.specs.declared.statement.Part.{Part}
use Rattle.design_core.specs.Store.{part_width, parts_width}
use Rattle.synth_parts.specs.declared.store.Stored.{Stored}
use Rattle.synth_parts.specs.Store.{nodes_made, part_stored}
use Rattle.synth_parts.proofs.StoreSteps.{sum-next, fits-next, parts-next}
use Rattle.synth_parts.proofs.store.Left.parts.Goals as goal

pub loop-i-preserved : goal.loop-i-preserved
loop-i-preserved c =
    let S : List Signal = c.args.self.now.signals.now in
    let P : List Part = c.args.sides.now.parts.now in
    let I : List ℕ = c.args.sides.now.indexes.now in
    let i : ℕ = c.loop-i.i in
    let p : Part = c.index-sides-i.result in
    let q : Part = c.index-sides-i-in-loop-i.result in
    let within : i < length P = c.loop-i-test.true in
    let inside : i < length I = omega (arith, within, c.requires.indexes) in
    let rest : ℕ = parts_width S (drop (i + 1) P) in
    let offset : ℕ = c.loop-i.offset - c.part_width-offset.result in
    let w : c.part_width-offset.result ≡ part_width S p = c.part_width-offset.ensures ∙ ap (part_width S) (sym c.index-sides-i.is) in
    let left : offset ≡ rest = omega (arith, sum-next S P i p within c.index-sides-i.is, c.loop-i.invariant.left, w) in
    let stored : ℕ → Stored = λ o. record { word = c.args.word; offset = o } in
    let m : nodes_made c.part.new.nodes c.part.new.map.now ≡ part_stored S c.loop-i.nodes c.loop-i.map.now q (get_or I i 0) (stored rest) =
    c.in_ok-part.ensures.ok
    ∙ ap (λ (e : Part). part_stored S c.loop-i.nodes c.loop-i.map.now e (get_or I i 0) (stored offset)) (sym c.index-sides-i-in-loop-i.is)
    ∙ ap (λ o. part_stored S c.loop-i.nodes c.loop-i.map.now q (get_or I i 0) (stored o)) left in
    record {
      each = c.in_ok-part.ensures.each;
      base = c.in_ok-part.ensures.base ∙ c.loop-i.invariant.base;
      left = left;
      fits = (fits-next S P i p within c.index-sides-i.is c.loop-i.invariant.fits).1;
      rest = c.loop-i.invariant.rest
          ∙ parts-next S c.loop-i.nodes c.part.new.nodes c.loop-i.map.now c.part.new.map.now P I c.args.word i q within inside c.index-sides-i-in-loop-i.is m;
    }

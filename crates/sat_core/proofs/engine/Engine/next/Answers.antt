use Rattle.std.proofs.Common.{◌≡◌, ◌∙◌, ◌-◌, ◌<◌, length, get_or, sym, subst, ap, arith}
use Rattle.std.proofs.lemmas.List.{get_or_default}
use Rattle.sat_core.specs.Choices.{PassedTo}
use Rattle.sat_core.proofs.Chosen.{PassedTo-chosen}
use Rattle.sat_core.proofs.engine.Engine.next.Goals as goal
use Rattle.sat_core.proofs.engine.Engine.next.Goals.{then-count-eq0, else-count-eq0}

pub choose-requires-clause-passed : goal.choose-requires-clause-passed
choose-requires-clause-passed c =
    let size : c.len-count.result ≡ length c.args.self.now.chosen.items = c.len-count.ensures ∙ c.args.self.now.chosen.ok.0 in
    subst (λ p. PassedTo c.args.self.now.trail c.args.assume.now p c.if-count-eq0.from) (sym c.deref.ensures.value)
    (PassedTo-chosen c.args.self.now.trail c.args.assume.now c.args.self.now.preferred.items c.args.self.now.chosen.items c.if-count-eq0.from c.requires.fit.trail c.requires.chosen
    (λ z. elim c.if-count-eq0.branch [ then-count-eq0 w ↦ w.from-is | else-count-eq0 w ↦ absurd (w.if-count-eq0.false (size ∙ z)) ])
    (λ b. elim c.if-count-eq0.branch [
      | then-count-eq0 w ↦ absurd (omega (arith, b, size, w.if-count-eq0.true))
      | else-count-eq0 w ↦
          let at : c.len-count.result - 1 ≡ length c.args.self.now.chosen.items - 1 = omega (arith, size) in
          let within : c.len-count.result - 1 < length c.args.self.now.chosen.items = omega (arith, size, b) in
          let last : w.index.result.now ≡ get_or c.args.self.now.chosen.items (length c.args.self.now.chosen.items - 1) 0 = w.index.ensures ∙ (get_or_default c.args.self.now.chosen.items (c.len-count.result - 1) w.index.result.now 0 within ∙ ap (λ n. get_or c.args.self.now.chosen.items n 0) at) in
          (omega (arith, w.from-is, w.min-from.ensures, last), omega (arith, w.from-is, w.min-from.ensures, w.len.ensures))
    ]))

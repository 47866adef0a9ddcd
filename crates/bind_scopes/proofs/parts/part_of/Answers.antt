use Rattle.std.proofs.Common.{◌≡◌, rules, w32, ap, sym, ◌∙◌}
use Rattle.std.proofs.lemmas.Int.{to_z-of_z}
use mir.Val.{SFits}
use Rattle.design_core.specs.declared.statement.Part.TheVariants as part
use Rattle.v_binding.specs.Lefts.{part_of}
use Rattle.bind_scopes.proofs.NodeParts.{part-pick, part-word}
use Rattle.bind_scopes.proofs.parts.part_of.Goals as goal

pub returns-in-Pick : goal.returns-in-Pick
returns-in-Pick c =
    ap (λ i. part.Pick c.in-Pick.signal i c.in-Pick.offsets) c.into_inner.ensures ∙ sym (part-pick c.args.own c.in-Pick.signal c.in-Pick.index c.in-Pick.offsets)
    ∙ sym (ap (part_of c.args.own) c.in-Pick.is)

pub returns-in-Word : goal.returns-in-Word
returns-in-Word c =
    let low : SFits w32 c.in-Word.low = search rules in
    let is : part.Word c.in-Word.first c.in-Word.count c.in-Word.low c.into_inner-in-Word.result c.in-Word.from c.in-Word.width ≡ part_of c.args.own c.args.node =
    ap (λ i. part.Word c.in-Word.first c.in-Word.count c.in-Word.low i c.in-Word.from c.in-Word.width) c.into_inner-in-Word.ensures
    ∙ sym (part-word c.args.own c.in-Word.first c.in-Word.count c.in-Word.low c.in-Word.index c.in-Word.from c.in-Word.width)
    ∙ sym (ap (part_of c.args.own) c.in-Word.is) in
    cc (is, to_z-of_z w32 c.in-Word.low low)

use Rattle.std.proofs.Common.{arith, ◌∙◌, ap, sym, subst}
use Rattle.design_core.specs.Words.{valuation_of}
use Rattle.plain_sim.specs.EvaluateCycle.{blended}
use Rattle.cycle_code.specs.Program.{program_of}
use Rattle.cycle_sim.specs.Masks.{AreMasksOf, covers}
use Rattle.cycle_sim.specs.Compiled.{now_in}
use Rattle.cycle_sim.proofs.CellWords.{parts-of, three-replaced}
use Rattle.cycle_sim.proofs.block.save.Goals as goal

pub copy_bits-requires-clause-fits : goal.copy_bits-requires-clause-fits
copy_bits-requires-clause-fits c =
    let parts = parts-of (program_of c.args.code.now) c.args.cells.now c.split_at_mut-values.result.0.now
    c.split_at_mut-values.result.1.now c.split_at_mut-rest.result.0.now c.split_at_mut-rest.result.1.now
    c.split_at_mut-room.result.0.now c.split_at_mut-room.result.1.now c.len-count.result c.requires.sound c.requires.cells
    (omega (arith, c.len-count.ensures, c.args.code.now.design.now.signals.ok.0))
    c.split_at_mut-values.ensures.front c.split_at_mut-values.ensures.back c.split_at_mut-rest.ensures.front
    c.split_at_mut-rest.ensures.back
    c.split_at_mut-room.ensures.front c.split_at_mut-room.ensures.back in
    subst (λ ws. AreMasksOf ws c.args.masks.now) (sym parts.room_fit.widths) c.requires.masks

pub copy_bits-requires-clause-from : goal.copy_bits-requires-clause-from
copy_bits-requires-clause-from c =
    let parts = parts-of (program_of c.args.code.now) c.args.cells.now c.split_at_mut-values.result.0.now
    c.split_at_mut-values.result.1.now c.split_at_mut-rest.result.0.now c.split_at_mut-rest.result.1.now
    c.split_at_mut-room.result.0.now c.split_at_mut-room.result.1.now c.len-count.result c.requires.sound c.requires.cells
    (omega (arith, c.len-count.ensures, c.args.code.now.design.now.signals.ok.0))
    c.split_at_mut-values.ensures.front c.split_at_mut-values.ensures.back c.split_at_mut-rest.ensures.front
    c.split_at_mut-rest.ensures.back
    c.split_at_mut-room.ensures.front c.split_at_mut-room.ensures.back in
    parts.now_fit.widths ∙ sym parts.room_fit.widths

pub returns : goal.returns
returns c =
    let parts = parts-of (program_of c.args.code.now) c.args.cells.now c.split_at_mut-values.result.0.now
    c.split_at_mut-values.result.1.now c.split_at_mut-rest.result.0.now c.split_at_mut-rest.result.1.now
    c.split_at_mut-room.result.0.now c.split_at_mut-room.result.1.now c.len-count.result c.requires.sound c.requires.cells
    (omega (arith, c.len-count.ensures, c.args.code.now.design.now.signals.ok.0))
    c.split_at_mut-values.ensures.front c.split_at_mut-values.ensures.back c.split_at_mut-rest.ensures.front
    c.split_at_mut-rest.ensures.back
    c.split_at_mut-room.ensures.front c.split_at_mut-room.ensures.back in
    let left = three-replaced (program_of c.args.code.now) c.args.cells.now c.split_at_mut-values.result.0.now
    c.split_at_mut-rest.result.0.now c.copy_bits.new.to c.split_at_mut-room.result.1.now c.requires.sound c.requires.cells parts.own_is
    parts.now_fit parts.later_fit (record { widths = c.copy_bits.ensures.widths ∙ parts.room_fit.widths }) in
    record {
      cells = left.cells;
      now = left.now ∙ parts.now_is;
      later = left.later ∙ parts.later_is;
      room = left.room ∙ c.copy_bits.ensures.value
          ∙ ap (λ N. blended (covers c.args.masks.now) N (valuation_of c.split_at_mut-room.result.0.now)) parts.now_is
          ∙ ap (blended (covers c.args.masks.now) (now_in (program_of c.args.code.now) (valuation_of c.args.cells.now))) parts.room_is;
    }

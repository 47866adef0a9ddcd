use Rattle.std.proofs.Common.{◌≡◌, ◌≤◌, refl, ap, arith, length, true, false}
use Rattle.std.proofs.lemmas.Result.{IfOk-weaker, on_ok_weaker}
use Rattle.loc_base.specs.Bits.{width_of, value_of}
use Rattle.cycle_code.specs.Program.{Program, program_of, with_cell}
use Rattle.cycle_compile.specs.Compiling.{is_leaf}
use Rattle.cycle_compile.proofs.Wide.{node-wide, inner-node}
use Rattle.cycle_compile.proofs.Placing.{IsPlaceFor-constant, IsPlaceFor-whole, IsPlaceFor-temporary, new-cell}
use Rattle.cycle_compile.proofs.expression.place.Goals as goal

pub temporary-requires : goal.temporary-requires
temporary-requires c = record {
  sound = c.requires.sound;
  width = node-wide c.args.code.now.design.now.signals.items c.args.e.now.width c.args.e.now.signed c.args.e.now.node c.requires.fits;
}

pub returns-in-Const-clause-place : goal.returns-in-Const-clause-place
returns-in-Const-clause-place c =
    new-cell (program_of c.args.code.now) (with_cell true (width_of c.in-Const.word) (value_of c.in-Const.word)
    (program_of c.args.code.now)) (program_of c.constant.new.self)
    c.args.e.now c.constant.result c.constant.ensures.number c.constant.ensures.value
    (IsPlaceFor-constant (program_of c.args.code.now)
    (with_cell true (width_of c.in-Const.word) (value_of c.in-Const.word) (program_of c.args.code.now))
    c.args.e.now c.in-Const.word c.in-Const.is c.requires.fits c.requires.sound refl)

pub returns-in-Whole-clause-place : goal.returns-in-Whole-clause-place
returns-in-Whole-clause-place c =
    IsPlaceFor-whole (program_of c.args.code.now) c.args.e.now c.in-Whole.signal c.in-Whole.is c.requires.fits c.requires.sound

pub returns-in_default : goal.returns-in_default
returns-in_default c = record {
  place = new-cell (program_of c.args.code.now) (with_cell false c.args.e.now.width 0 (program_of c.args.code.now))
      (program_of c.temporary.new.self)
      c.args.e.now c.temporary.result c.temporary.ensures.number c.temporary.ensures.value
      (IsPlaceFor-temporary (program_of c.args.code.now) (with_cell false c.args.e.now.width 0 (program_of c.args.code.now))
      c.args.e.now (inner-node c.args.e.now.node c.in_default.not-Const c.in_default.not-Whole) c.requires.sound refl);
  fresh = IfOk-weaker c.temporary.result (λ cell. cell ≡ length (program_of c.args.code.now).widths)
      (λ cell. is_leaf c.args.e.now.node ≡ false → length (program_of c.args.code.now).widths ≤ cell)
      (λ cell here inner. omega arith) c.temporary.ensures.number;
  sound = c.temporary.ensures.sound;
  grown = c.temporary.ensures.grown;
  instructions = on_ok_weaker c.temporary.result (λ same. ap (λ (p : Program). p.instructions) same) c.temporary.ensures.value;
}

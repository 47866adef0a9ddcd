use Rattle.std.proofs.Common.{◌≡◌, List, Bor, ap, ◌∙◌, length, take, drop}
use Rattle.std.specs.Prelude.{slice_get}
use Rattle.std.specs.List.{list_all}
use Rattle.loc_base.specs.declared.bits.Bits.{Bits}
use Rattle.loc_base.specs.Bits.{value_of}
use Rattle.design_core.specs.declared.signal.Signal.{Signal}
use Rattle.design_core.specs.declared.statement.Target.{Target}
use Rattle.design_core.specs.WellFormed.{part_fits}
use Rattle.cycle_code.specs.Program.{Program, program_of, signals_of}
use Rattle.cycle_code.proofs.GrowthLaws.{entry-some}
use Rattle.cycle_code.proofs.StoreLaws.{element-image, later-words, store-widths, store-value}
use Rattle.cycle_code.proofs.assigning.store.Goals as goal

-- a piece at the number of the signals
front-piece : (signals others : List Signal) (cells : List Bits) → signals ≡ others
    → take (length signals) cells ≡ take (length others) cells
front-piece signals others cells is = ap (λ x. take (length x) cells) is

middle-piece : (signals others : List Signal) (cells rest later : List Bits) → signals ≡ others → rest ≡ drop (length signals) cells
    → later ≡ take (length signals) rest → later ≡ take (length others) (drop (length others) cells)
middle-piece signals others cells rest later is behind front =
    front ∙ ap (take (length signals)) behind ∙ ap (λ x. take (length x) (drop (length x) cells)) is

end-piece : (signals others : List Signal) (cells rest end : List Bits) → signals ≡ others → rest ≡ drop (length signals) cells
    → end ≡ drop (length signals) rest → end ≡ drop (length others) (drop (length others) cells)
end-piece signals others cells rest end is behind last =
    last ∙ ap (drop (length signals)) behind ∙ ap (λ x. drop (length x) (drop (length x) cells)) is

pub assign-requires-clause-later : goal.assign-requires-clause-later
assign-requires-clause-later c =
    later-words (program_of c.args.code.now) c.args.cells.now c.split_at_mut-now.result.1.now
    c.split_at_mut-later.result.0.now c.as_slice-signals.result.now
    c.requires.sound c.requires.widths c.as_slice-signals.ensures.value c.split_at_mut-now.ensures.back c.split_at_mut-later.ensures.front

pub assign-requires-clause-fits : goal.assign-requires-clause-fits
assign-requires-clause-fits c =
    let p : Program = program_of c.args.code.now in
    let found = entry-some (list_all (part_fits (signals_of p))) (slice_get p.targets c.args.target) c.requires.fits in
    let same : c.deref.result.now ≡ found.0 = c.deref.ensures
    ∙ element-image (λ (target : Bor Target). target.now.parts) c.args.code.now.targets.items c.args.target found.0
    c.index.result.now found.1 c.index.ensures in
    ap (λ (signals : List Signal). list_all (part_fits signals) c.deref.result.now) c.as_slice-signals.ensures.value
    ∙ ap (list_all (part_fits (signals_of p))) same
    ∙ found.2

pub returns-clause-widths : goal.returns-clause-widths
returns-clause-widths c =
    let p : Program = program_of c.args.code.now in
    store-widths p c.args.cells.now c.assign.new.now c.assign.new.later c.split_at_mut-later.result.1.now c.as_slice-signals.result.now
    c.requires.sound c.requires.widths c.as_slice-signals.ensures.value c.assign.ensures.now_words c.assign.ensures.later_words
    (end-piece c.as_slice-signals.result.now (signals_of p) c.args.cells.now c.split_at_mut-now.result.1.now
    c.split_at_mut-later.result.1.now
    c.as_slice-signals.ensures.value c.split_at_mut-now.ensures.back c.split_at_mut-later.ensures.back)

pub returns-clause-value : goal.returns-clause-value
returns-clause-value c =
    let p : Program = program_of c.args.code.now in
    let signals : List Signal = c.as_slice-signals.result.now in
    let is = c.as_slice-signals.ensures.value in
    let found = entry-some (list_all (part_fits (signals_of p))) (slice_get p.targets c.args.target) c.requires.fits in
    let same : c.deref.result.now ≡ found.0 = c.deref.ensures
    ∙ element-image (λ (target : Bor Target). target.now.parts) c.args.code.now.targets.items c.args.target found.0
    c.index.result.now found.1 c.index.ensures in
    store-value p c.args.cells.now c.split_at_mut-now.result.0.now c.split_at_mut-later.result.0.now c.assign.new.now c.assign.new.later
    c.split_at_mut-later.result.1.now signals c.args.target (value_of c.args.word) found.0 c.deref.result.now c.args.is_later
    is
    (c.split_at_mut-now.ensures.front ∙ front-piece signals (signals_of p) c.args.cells.now is)
    (middle-piece signals (signals_of p) c.args.cells.now c.split_at_mut-now.result.1.now c.split_at_mut-later.result.0.now is
    c.split_at_mut-now.ensures.back
    c.split_at_mut-later.ensures.front)
    (end-piece signals (signals_of p) c.args.cells.now c.split_at_mut-now.result.1.now c.split_at_mut-later.result.1.now is
    c.split_at_mut-now.ensures.back
    c.split_at_mut-later.ensures.back)
    c.assign.ensures.now_words c.assign.ensures.later_words same found.1 c.assign.ensures.value

use Rattle.std.proofs.Common.{◌≡◌, sym, subst, ℕ, true, false, ◌∙◌, ap}
use Rattle.design_core.specs.declared.design.Design.{Design}
use Rattle.design_core.specs.Valuation.{Valuation}
use Rattle.design_core.specs.After.{Choice}
use Rattle.design_core.specs.Words.{valuation_of}
use Rattle.cycle_code.specs.Choosing.{as_choice}
use Rattle.design_core.specs.Drives.{is_driven, is_register_bit}
use Rattle.design_core.specs.Cycle.{Cycle, before}
use Rattle.design_core.specs.Steps.{kept, with_drivers}
use Rattle.cycle_code.specs.Program.{Program, program_of}
use Rattle.cycle_code.proofs.GrowthLaws.{Grown-refl}
use Rattle.cycle_sim.specs.Blocks.{AreReset}
use Rattle.cycle_sim.specs.Compiled.{now_in, later_in}
use Rattle.cycle_sim.proofs.CellWords.{now-narrow, later-narrow}
use Rattle.cycle_sim.proofs.Leaving.{AreCells-run}
use Rattle.cycle_sim.proofs.Stepping.{begun-before, begun-states, states-hold, stepped}
use Rattle.cycle_sim.proofs.machine.make_cycle.Goals as goal

pub run_blocks-requires-clause-cells : goal.run_blocks-requires-clause-cells
run_blocks-requires-clause-cells c =
    AreCells-run (program_of c.args.compiled.now.code) (as_choice c.args.choices.now) c.args.compiled.now.drivers.to
    c.args.compiled.now.drivers.from
    c.reset_blocks.new.cells c.run.new.cells c.requires.compiled.sound c.reset_blocks.ensures.cells c.run.ensures.widths c.run.ensures.value

pub returns-clause-cycle : goal.returns-clause-cycle
returns-clause-cycle c k quiet =
    let p : Program = program_of c.args.compiled.now.code in
    let d : Design = c.args.compiled.now.code.design.now in
    let choice : Choice = as_choice c.args.choices.now in
    let order = c.args.order.now in
    let registers_of = c.args.plan.now.registers.masks.items in
    let O : Valuation = now_in p (valuation_of c.args.cells.now) in
    let S0 : Valuation = later_in p (valuation_of c.args.cells.now) in
    let V0 : Valuation = now_in p (valuation_of c.begin_cells.new.cells) in
    let V1 : Valuation = now_in p (valuation_of c.reset_blocks.new.cells) in
    let S1 : Valuation = later_in p (valuation_of c.reset_blocks.new.cells) in
    let V2 : Valuation = now_in p (valuation_of c.run.new.cells) in
    let S2 : Valuation = later_in p (valuation_of c.run.new.cells) in
    let S3 : Valuation = later_in p (valuation_of c.run_blocks.new.cells) in
    let state : Valuation = kept d S0 in
    let E : Valuation = before d c.args.samples.now state in
    let begun = c.begin_cells.ensures.now in
    let narrow_states = later-narrow p c.args.cells.now c.requires.compiled.sound c.requires.cells in
    let narrow_values = now-narrow p c.args.cells.now c.requires.compiled.sound c.requires.cells in
    let has = c.reset_blocks.ensures.cells.constants in
    let driven : V2 ≡ with_drivers d choice order V1 =
    ap (now_in p) c.run.ensures.value ∙ c.requires.compiled.drivers.now p choice (valuation_of c.reset_blocks.new.cells)
    (Grown-refl p) has in
    let kept_later : (s b : ℕ) → is_driven d s b ≡ false → S2 s b ≡ S1 s b =
    λ s b off. ap (λ X. later_in p X s b) c.run.ensures.value
    ∙ c.requires.compiled.drivers.later p choice (valuation_of c.reset_blocks.new.cells) (Grown-refl p) has s b off in
    let registers : (s b : ℕ) → is_register_bit d s b ≡ true → later_in p (valuation_of c.begin_cells.new.cells) s b ≡ V0 s b =
    λ s b register. ap (λ (X : Valuation). X s b) c.begin_cells.ensures.later
    ∙ begun-states d k.well_formed c.args.samples.now registers_of S0 O V0 begun c.requires.plan.registers narrow_states
    narrow_values s b register in
    let reset : AreReset d choice E V1 S1 =
    c.reset_blocks.ensures.reset k.well_formed k.once registers E
    (begun-before d c.args.samples.now registers_of S0 O V0 begun c.requires.plan.registers narrow_states narrow_values quiet) in
    let held : (s b : ℕ) → is_register_bit d s b ≡ true → S2 s b ≡ V2 s b =
    states-hold d choice order E V1 S1 V2 S2 reset driven kept_later in
    subst (λ (V : Valuation). Cycle d c.args.samples.now state choice V (kept d S3)) (sym c.run_blocks.ensures.same)
    (stepped d order k c.args.samples.now state choice V1 S1 V2 S3 reset driven (c.run_blocks.ensures.run k.well_formed k.once held))

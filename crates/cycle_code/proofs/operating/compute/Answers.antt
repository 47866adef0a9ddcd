use Rattle.std.proofs.Common.{◌≡◌, ℕ, ◌<◌, List, length, map, get_or, Bor, refl, sym, subst, ap, ◌∙◌, arith}
use Rattle.std.specs.Prelude.{◌==◌, IsTrue, slice_get, Some, false}
use Rattle.std.specs.Option.{option_map_or}
use Rattle.std.proofs.lemmas.Bool.{and_parts, and_from, eqb-true, eq-eqb}
use Rattle.std.proofs.lemmas.Option.{slice_get_within}
use Rattle.loc_base.specs.Bits.{value_of}
use Rattle.design_core.specs.WellFormed.{typed_fits}
use Rattle.design_core.specs.declared.expression.Typed.{Typed}
use Rattle.design_core.specs.Value.{value}
use Rattle.design_core.specs.Valuation.{Valuation}
use Rattle.design_core.specs.Words.{valuation_of}
use Rattle.cycle_code.specs.Program.{Program, program_of, signals_of, count_of}
use Rattle.cycle_code.specs.Effects.{with_held_in}
use Rattle.cycle_code.specs.Cells.{width_in, with_held, below}
use Rattle.cycle_code.specs.Fitting.{tree_fits}
use Rattle.cycle_code.proofs.GrowthLaws.{entry-some}
use Rattle.cycle_code.proofs.WordCells.{image-at}
use Rattle.cycle_code.proofs.StoreLaws.{element-image}
use Rattle.cycle_code.proofs.operating.compute.Goals as goal

-- the expression of a number
tree-at : (p : Program) (tree width : ℕ) → IsTrue (option_map_or (tree_fits p width) (slice_get p.trees tree) false)
    → (e : Typed) × (slice_get p.trees tree ≡ Some e) × IsTrue (typed_fits (signals_of p) e) × (e.width ≡ width)
tree-at p tree width h =
    let found = entry-some (tree_fits p width) (slice_get p.trees tree) h in
    let parts = and_parts (typed_fits (signals_of p) found.0) (found.0.width == width) found.2 in
    (found.0, found.1, parts.0, eqb-true found.0.width width parts.1)

pub index-requires : goal.index-requires
index-requires c =
    let p : Program = program_of c.args.code.now in
    let e = tree-at p c.args.tree (width_in p.widths c.args.to) c.requires.fits in
    let inside = image-at (λ (tree : Bor Typed). tree.now) c.args.code.now.trees.items c.args.tree e.0 e.1 in
    let within : c.args.tree < length c.args.code.now.trees.items =
    slice_get_within c.args.code.now.trees.items c.args.tree inside.0 inside.1 in
    omega (arith, within, c.args.code.now.trees.ok.0)

-- it is the one that is read there
tree-read : (p : Program) (trees : List (Bor Typed)) (tree width : ℕ) (read : Bor Typed)
    → IsTrue (option_map_or (tree_fits p width) (slice_get p.trees tree) false) → map (λ (t : Bor Typed). t.now) trees ≡ p.trees
    → read ≡ get_or trees tree read
    → (slice_get p.trees tree ≡ Some read.now) × IsTrue (typed_fits (signals_of p) read.now) × (read.now.width ≡ width)
tree-read p trees tree width read h same at =
    let e = tree-at p tree width h in
    let is : read.now ≡ e.0 =
    element-image (λ (t : Bor Typed). t.now) trees tree e.0 read (ap (λ ts. slice_get ts tree) same ∙ e.1) at in
    subst (λ x. (slice_get p.trees tree ≡ Some x) × IsTrue (typed_fits (signals_of p) x) × (x.width ≡ width)) (sym is) (e.1, e.2, e.3)

pub computed-word-requires-clause-fits : goal.computed-word-requires-clause-fits
computed-word-requires-clause-fits c =
    let p : Program = program_of c.args.code.now in
    let read : Bor Typed = c.index.result.now in
    let t = tree-read p c.args.code.now.trees.items c.args.tree (width_in p.widths c.args.to) read c.requires.fits refl
    c.index.ensures in
    and_from (typed_fits (signals_of p) read.now) (read.now.width == read.now.width) t.1 (eq-eqb read.now.width read.now.width refl)

pub write-requires-clause-width : goal.write-requires-clause-width
write-requires-clause-width c =
    let p : Program = program_of c.args.code.now in
    let t = tree-read p c.args.code.now.trees.items c.args.tree (width_in p.widths c.args.to) c.index.result.now
    c.requires.fits refl c.index.ensures in
    c.computed-word.ensures.width ∙ t.2 ∙ ap (λ ws. width_in ws c.args.to) (sym c.requires.widths)

pub returns-clause-value : goal.returns-clause-value
returns-clause-value c =
    let p : Program = program_of c.args.code.now in
    let V : Valuation = valuation_of c.args.cells.now in
    let to = c.args.to in
    let t = tree-read p c.args.code.now.trees.items c.args.tree (width_in p.widths to) c.index.result.now c.requires.fits refl
    c.index.ensures in
    c.write.ensures.value
    ∙ ap (λ ws. with_held ws to (value_of c.computed-word.result) V) c.requires.widths
    ∙ ap (λ n. with_held_in p to n V) c.computed-word.ensures.value
    ∙ ap (λ o. option_map_or (λ x. with_held_in p to (value (signals_of p) (below (count_of p) V) x) V) o V) (sym t.0)

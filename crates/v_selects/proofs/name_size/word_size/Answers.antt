use Rattle.std.proofs.Common.{rules, refl, ◌≡◌, [], ap, sym, ◌∙◌, map, ◌∷◌}
use Rattle.std.specs.Prelude.{false}
use Rattle.v_sizes.specs.declared.meaning.Meaning.TheVariants as meaning
use Rattle.v_sizes.specs.Sizing.{Sizing, meaning_sizing, one_bit}
use Rattle.v_selects.specs.Named.{chosen_in}
use Rattle.v_selects.specs.Taken.{taken}
use Rattle.v_selects.specs.declared.closed.Picked.{Picked}
use Rattle.std.specs.Prelude.{List}
use Rattle.v_selects.proofs.NameLaws.{zero-size, array-constant, no-items}
use Rattle.v_selects.proofs.name_size.word_size.Goals as goal

pub returns-in-None : goal.returns-in-None
returns-in-None c =
    let words = c.args.words in
    let none : c.args.rest.now ≡ [] = no-items c.args.rest.now c.in-None.ensures.cases in
    let size : List Picked → Sizing = λ ps. meaning_sizing (meaning.Array words.first words.count words.low words.width c.args.signed words.bounds.left words.bounds.right) (one_bit (taken c.args.index.now) ∷ map chosen_in ps) in
    zero-size (record { width = words.width; signed = c.args.signed; constant = c.has_no_bit-constant.result; number = 0 })
    words.first words.count words.low words.width c.args.signed words.bounds.left words.bounds.right c.args.index.now c.args.rest.now
    (ap (λ ps. (size ps).width) (sym none)) (ap (λ ps. (size ps).signed) (sym none))
    (c.has_no_bit-constant.ensures
    ∙ sym (array-constant words.first words.count words.low words.width c.args.signed words.bounds.left words.bounds.right c.args.index.now c.args.rest.now)) refl

pub returns-in-Some : goal.returns-in-Some
returns-in-Some c =
    zero-size (record { width = c.width.result; signed = false; constant = c.has_no_bit-constant.result; number = 0 })
    c.args.words.first c.args.words.count c.args.words.low c.args.words.width c.args.signed c.args.words.bounds.left c.args.words.bounds.right c.args.index.now c.args.rest.now
    (search rules) (search rules) (search rules) refl

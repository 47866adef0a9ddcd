use Rattle.std.proofs.Common.{rules, ◌≡◌, [], subst, sym, map}
use Rattle.v_sizes.specs.declared.meaning.Meaning.TheVariants as meaning
use Rattle.v_sizes.specs.Sizing.{meaning_sizing}
use Rattle.v_selects.specs.Named.{chosen_in}
use Rattle.v_selects.specs.Sizes.{IsSizeOf}
use Rattle.v_selects.proofs.NameLaws.{no-items}
use Rattle.v_selects.proofs.name_size.constant_size.Goals as goal

pub returns-in-None : goal.returns-in-None
returns-in-None c =
    let none : c.args.chosen.now ≡ [] = no-items c.args.chosen.now c.in-None.ensures.cases in
    subst (λ cs. IsSizeOf c.whole_constant.result (meaning_sizing (meaning.Constant c.args.value c.args.bounds.left c.args.bounds.right) (map chosen_in cs)))
    (sym none) (c.whole_constant.ensures c.args.bounds.left c.args.bounds.right)

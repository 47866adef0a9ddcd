use Rattle.std.proofs.Common.{rules, ◌≡◌, ◌∷◌, subst, sym, map, IfOk}
use Rattle.v_sizes.specs.declared.meaning.Meaning.TheVariants as meaning
use Rattle.v_sizes.specs.Sized.{meaning_node}
use Rattle.v_selects.specs.declared.closed.Picked.TheVariants as picked
use Rattle.v_selects.specs.Named.{select_in}
use Rattle.v_selects.proofs.name_node.array_node.Goals as goal

pub returns-in-Bit : goal.returns-in-Bit
returns-in-Bit c =
    let words = c.args.words in
    let is : c.args.selects ≡ picked.Bit c.in-Bit.index ∷ c.in-Some.rest = search rules in
    λ signed.
    subst (λ s. IfOk c.indexed_node.result (λ n. n ≡ meaning_node (meaning.Array words.first words.count words.low words.width signed words.bounds.left words.bounds.right) (map select_in s)))
    (sym is) (c.indexed_node.ensures signed)

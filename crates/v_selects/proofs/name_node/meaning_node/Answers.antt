use Rattle.std.proofs.Common.{rules, ◌≡◌, subst, sym, map, IfOk, to_z, of_z, w32, ap, ◌∙◌}
use Rattle.std.proofs.lemmas.Int.{to_z-of_z}
use Rattle.std.specs.Prelude.{ℤ}
use Rattle.v_sizes.specs.declared.meaning.Meaning.{Meaning}
use Rattle.v_sizes.specs.declared.meaning.Meaning.TheVariants as meaning
use Rattle.v_sizes.specs.Sized.{meaning_node}
use Rattle.v_selects.specs.Named.{select_in}
use Rattle.v_selects.proofs.name_node.meaning_node.Goals as goal

pub returns-in-Array : goal.returns-in-Array
returns-in-Array c =
    let a = c.in-Array in
    let low : to_z w32 (of_z w32 a.low) ≡ a.low = search rules in
    let left : to_z w32 (of_z w32 a.left) ≡ a.left = search rules in
    let right : to_z w32 (of_z w32 a.right) ≡ a.right = search rules in
    let whole =
    ap (λ z. meaning.Array a.first a.count z a.width a.signed (to_z w32 (of_z w32 a.left)) (to_z w32 (of_z w32 a.right))) low
    ∙ ap (λ z. meaning.Array a.first a.count a.low a.width a.signed z (to_z w32 (of_z w32 a.right))) left
    ∙ ap (λ z. meaning.Array a.first a.count a.low a.width a.signed a.left z) right in
    subst (λ m. IfOk c.array_node.result (λ n. n ≡ meaning_node m (map select_in c.args.selects))) (whole ∙ sym a.is) (c.array_node.ensures a.signed)

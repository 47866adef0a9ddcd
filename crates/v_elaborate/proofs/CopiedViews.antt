-- The plain data of each form of what items make, and one more of them at the end.
use Rattle.std.proofs.Common.{◌≡◌, List, [], ◌∷◌, ◌++◌, map, sym, ap, ◌∙◌, refl}
use Rattle.std.specs.Borrow.{Bor}
use Rattle.v_syntax.specs.declared.site.Site.{Site}
use Rattle.v_syntax.specs.declared.declaration.Identifier.{Identifier}
use Rattle.v_syntax.specs.declared.item.Item.{Item}
use Rattle.v_syntax.specs.declared.statement.Sensitivity.{Sensitivity}
use Rattle.v_syntax.specs.ItemTree.{sensitivity_of, item_of}
use Rattle.v_sizes.specs.declared.meaning.Const.{Const}
use Rattle.v_hierarchy.specs.declared.instance.Block.{Block}
use Rattle.v_hierarchy.specs.declared.instance.Child.{Child}
use Rattle.v_hierarchy.specs.declared.instance.Copied.{Copied}
use Rattle.v_hierarchy.specs.declared.instance.Copied.TheFolds.{fold-roll-Copied, fold_out-Block}
use Rattle.v_hierarchy.specs.declared.instance.Copied.TheOpen.{Copied-F}
use Rattle.v_hierarchy.specs.declared.instance.Copied.TheVariants as made
use Rattle.v_hierarchy.specs.declared.steps.Steps.{Steps}
use Rattle.v_hierarchy.specs.Items as items
use Rattle.v_hierarchy.specs.Views.{entry_of, child_of, copies_of, copied_of, block_of, steps_of, copied_step, block_step}

pub copied_of_written : (item : Bor Item) → copied_of (made.Written item) ≡ items.written (item_of item.now)
copied_of_written item = ap copied_of (sym (made.rolls-Written item)) ∙ fold-roll-Copied items.Copied items.Block copied_step block_step (Copied-F.Written item)

pub copied_of_always : (s : Site) (sensitivity : Bor Sensitivity) (body : Steps) → copied_of (made.Always s sensitivity body) ≡ items.always s (sensitivity_of sensitivity.now) (steps_of body)
copied_of_always s sensitivity body =
    ap copied_of (sym (made.rolls-Always s sensitivity body)) ∙ fold-roll-Copied items.Copied items.Block copied_step block_step (Copied-F.Always s sensitivity body)

pub copied_of_child : (s : Site) (child : Child) → copied_of (made.Child s child) ≡ items.child s (child_of child)
copied_of_child s child = ap copied_of (sym (made.rolls-Child s child)) ∙ fold-roll-Copied items.Copied items.Block copied_step block_step (Copied-F.Child s child)

pub copied_of_inner : (block : Block) → copied_of (made.Inner block) ≡ items.inner (block_of block)
copied_of_inner block = ap copied_of (sym (made.rolls-Inner block)) ∙ fold-roll-Copied items.Copied items.Block copied_step block_step (Copied-F.Inner block)

pub copied_of_turn : (variable : Bor Identifier) (value : Const) (block : Block) → copied_of (made.Turn variable value block) ≡ items.turn variable.now value (block_of block)
copied_of_turn variable value block =
    ap copied_of (sym (made.rolls-Turn variable value block)) ∙ fold-roll-Copied items.Copied items.Block copied_step block_step (Copied-F.Turn variable value block)

pub block_of_block : (b : Block) → block_of b ≡ items.scope b.path (map entry_of b.names) (copies_of (map copied_of b.copies))
block_of_block b = fold_out-Block items.Copied items.Block copied_step block_step b

pub ruleset copied_steps = (copied_of_written, copied_of_always, copied_of_child, copied_of_inner, copied_of_turn, block_of_block)

copies_of-push : (xs : List items.Copied) (x : items.Copied) → copies_of (xs ++ x ∷ []) ≡ items.and_copy (copies_of xs) x
copies_of-push [] x = refl
copies_of-push (y ∷ ys) x = ap (items.copy y) (copies_of-push ys x)

map-push : (xs : List Copied) (x : Copied) → map copied_of (xs ++ x ∷ []) ≡ map copied_of xs ++ copied_of x ∷ []
map-push [] x = refl
map-push (y ∷ ys) x = ap (λ zs. copied_of y ∷ zs) (map-push ys x)

pub copies-push : (xs ys : List Copied) (x : Copied) → ys ≡ xs ++ x ∷ [] → copies_of (map copied_of ys) ≡ items.and_copy (copies_of (map copied_of xs)) (copied_of x)
copies-push xs ys x is = ap (λ zs. copies_of (map copied_of zs)) is ∙ ap copies_of (map-push xs x) ∙ copies_of-push (map copied_of xs) (copied_of x)

pub ruleset push_steps = (copies-push)

use Rattle.std.proofs.Common.{◌≡◌, sym, Some, None}
use Rattle.std.specs.Prelude.{slice_get}
use Rattle.std.proofs.lemmas.Bool.{ltb-false, ltb-true}
use Rattle.std.proofs.lemmas.List.{append-nil}
use Rattle.std.proofs.lemmas.Option.{slice_get_past}
use Rattle.loc_base.proofs.ShelfLists.{slice_get-at}
use Rattle.change_lines.proofs.ShownLaws.{shown-none, shown-some}
use Rattle.change_lines.proofs.names.push_word.Goals as goal

pub returns-in-Some : goal.returns-in-Some
returns-in-Some c =
    let known = c.in-Some.ensures.lookup in
    let at : slice_get c.args.words.now c.args.signal ≡ Some c.in-Some.word.now =
    slice_get-at c.args.words.now c.args.signal c.in-Some.word.now (ltb-true _ _ (sym known.0)) known.1 in
    rw (shown-some c.args.design.now c.args.words.now c.args.signal c.in-Some.word.now c.requires at) c.push_value.ensures

pub returns-in-None : goal.returns-in-None
returns-in-None c =
    let at : slice_get c.args.words.now c.args.signal ≡ None =
    slice_get_past c.args.words.now c.args.signal (ltb-false _ _ (sym c.in-None.ensures.lookup.0)) in
    rw (shown-none c.args.design.now c.args.words.now c.args.signal c.requires at) (sym (append-nil c.args.text.now.items))

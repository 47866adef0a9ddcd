use Rattle.std.proofs.Common.{◌≡◌, ◌<◌, [], length, get_or, sym, ◌∙◌}
use Rattle.std.proofs.lemmas.Bool.{ltb-true}
use Rattle.std.proofs.lemmas.List.{get_or_read}
use Rattle.std.proofs.lemmas.Slice.Eq.{slice_eq-Decides}
use Rattle.clause_base.proofs.Sets.{lit_eq-Decides}
use Rattle.proof_check.proofs.piece.is_next_block.Goals as goal

pub returns-in-Some : goal.returns-in-Some
returns-in-Some c =
    let within : c.args.seen < length c.args.blocks.now = ltb-true c.args.seen (length c.args.blocks.now) (sym c.in-Some.ensures.lookup.0) in
    let block : c.in-Some.block.now ≡ get_or c.args.blocks.now c.args.seen [] = get_or_read c.args.blocks.now c.args.seen c.in-Some.block.now within c.in-Some.ensures.lookup.1 [] in
    let same = slice_eq-Decides lit_eq-Decides c.literals.result.now c.args.clause.now c.eq.result c.eq.ensures in
    (λ yes. (within, sym (same.0 yes) ∙ c.literals.ensures.value ∙ block), λ next. same.1 (c.literals.ensures.value ∙ block ∙ sym next.1))

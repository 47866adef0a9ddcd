use Rattle.std.proofs.Common.{◌≡◌, ◌++◌, ◌∷◌, [], List, All, sym, refl, subst, arith}
use Rattle.std.proofs.lemmas.List.Elements.{All-push}
use Rattle.proof_check.specs.declared.claim.Piece.{Piece}
use Rattle.proof_check.specs.Claims.{IsPiece, Cover}
use Rattle.proof_check.proofs.Pieced.{cover-push}
use Rattle.proof_check.proofs.parallel.pieces_of.Goals as goal

pub loop-from-preserved : goal.loop-from-preserved
loop-from-preserved c =
    let log = c.args.log.now in
    let old : List Piece = c.loop-from.pieces.items in
    let piece : Piece = record { from = c.loop-from.from; end = c.min.result; seen = c.loop-from.seen } in
    let items : c.push.new.self.items ≡ old ++ piece ∷ [] = c.in_ok-push.ensures.items in
    let is : IsPiece log piece = record { ordered = omega (arith, c.min.ensures); within = omega (arith, c.min.ensures); seen = c.loop-from.invariant.seen } in
    record {
      within = omega (arith, c.min.ensures);
      seen = c.blocks_up_to_end-seen.ensures;
      pieces = subst (All (IsPiece log)) (sym items) (All-push (IsPiece log) old piece c.loop-from.invariant.pieces is);
      cover = subst (Cover 0 c.min.result) (sym items) (cover-push 0 c.loop-from.from old piece c.loop-from.invariant.cover refl);
      few = omega (arith, c.min.ensures, c.in_ok-push.ensures.len, c.loop-from.invariant.few);
    }

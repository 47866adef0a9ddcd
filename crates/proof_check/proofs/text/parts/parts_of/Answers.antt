use Rattle.std.proofs.Common.{◌≡◌, ◌++◌, ◌∷◌, [], List, All, refl, sym, subst, arith}
use Rattle.std.proofs.lemmas.List.Elements.{All-push}
use Rattle.proof_check.specs.declared.text.parts.Part.{Part}
use Rattle.proof_check.specs.Parts.{Covers, IsPartOf}
use Rattle.proof_check.proofs.Parts.{covers-push}
use Rattle.proof_check.proofs.text.parts.parts_of.Goals as goal

pub loop-from-preserved : goal.loop-from-preserved
loop-from-preserved c =
    let text = c.args.text.now in
    let old : List Part = c.loop-from.parts.items in
    let part : Part = record { from = c.loop-from.from; end = c.end_behind-end.result } in
    let items : c.push.new.self.items ≡ old ++ part ∷ [] = c.in_ok-push.ensures.items in
    let is : IsPartOf text part = record { ordered = omega (arith, c.end_behind-end.ensures.low, c.loop-from-test.true); within = c.end_behind-end.ensures.high } in
    record {
      within = c.end_behind-end.ensures.high;
      parts = subst (All (IsPartOf text)) (sym items) (All-push (IsPartOf text) old part c.loop-from.invariant.parts is);
      cover = subst (Covers 0 c.end_behind-end.result) (sym items) (covers-push 0 c.loop-from.from old part c.loop-from.invariant.cover refl);
    }

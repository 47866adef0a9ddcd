use Rattle.std.proofs.Common.{List, ℕ, sym, subst, ◌∙◌}
use Rattle.std.specs.Prelude.{All}
use Rattle.serde_json.specs.View.{view}
use Rattle.report_doc.specs.Shape.{AreKinds}
use Rattle.report_reading.specs.Reading.{IsKindName}
use Rattle.report_reading.proofs.Found.{not_true, texts_same}
use Rattle.report_reading.proofs.kinds.KindsFromJson.read.Goals as goal

pub returns-else-branch : goal.returns-else-branch
returns-else-branch c = λ kinds h e.
    let P : List (List ℕ) → Type 0 = λ names. All IsKindName names × AreKinds names in
    let same = texts_same kinds.0 c.in_ok-names.names (view c.args.value.now) e c.in_ok-names.ensures.1 in
    not_true _ c.if-branch.false (c.in_ok-are_kinds.ensures.1 (subst P (same ∙ sym c.as_slice.ensures) (h.1, h.2)))

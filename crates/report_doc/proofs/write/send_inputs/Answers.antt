use Rattle.std.proofs.Common.{ℕ, List, subst}
use Rattle.std.proofs.lemmas.Result.{on_ok_weaker}
use Rattle.serde_json.specs.Data.{string}
use Rattle.serde_json.specs.Events.{SendsValue}
use Rattle.report_doc.specs.Json.{list_data}
use Rattle.report_doc.proofs.write.send_inputs.Goals as goal

pub returns-clause-sends : goal.returns-clause-sends
returns-clause-sends g c =
    let P : List (List ℕ) → Type 0 =
    λ names. SendsValue (list_data string names) (g.S.Serializer.written c.key-2.new.self) (g.S.Serializer.written c.send_names.new.out) in
    on_ok_weaker c.send_names.result
    (λ kinds. (
      g.S.Serializer.written c.send_digest.new.out,
      (g.S.Serializer.written c.key.new.self, c.in_ok-key.ensures, c.in_ok-send_digest.ensures.sends),
      (g.S.Serializer.written c.key-2.new.self, c.in_ok-key-2.ensures, subst P c.as_slice.ensures kinds),
    ))
    c.send_names.ensures.sends

use Rattle.std.proofs.Common.{◌≡◌, sym, ap, ◌∙◌}
use Rattle.std.proofs.lemmas.Bool.{both_ways}
use Rattle.std.proofs.lemmas.Slice.Eq.{bytes_eq-Decides}
use Rattle.hex.specs.Hex.{encode_lower}
use Rattle.proof_check.proofs.Digests.{line_parts, on_ok, undecoded, not_spelled, spelled_line}
use Rattle.proof_check.proofs.text.inputs.digest_of.Goals as goal

pub returns-in_err-ok : goal.returns-in_err-ok
returns-in_err-ok c =
    let digits = c.in_ok-digits.digits.now in
    let parts = line_parts c.args.line.now c.as_slice.result.now digits c.in_ok-digits.ensures.cases.0 c.in_ok-digits.ensures.cases.1 c.as_slice.ensures in
    rw c.from_residual-in_err-ok.ensures (undecoded c.args.line.now digits c.decode_to_slice.result c.decode_to_slice.new.out parts c.decode_to_slice.ensures.value (sym c.in_err-ok.ensures.variant))

pub returns-then-eq : goal.returns-then-eq
returns-then-eq c =
    let digits = c.in_ok-digits.digits.now in
    let parts = line_parts c.args.line.now c.as_slice.result.now digits c.in_ok-digits.ensures.cases.0 c.in_ok-digits.ensures.cases.1 c.as_slice.ensures in
    let written : c.encode_to_slice.new.output ≡ encode_lower c.as_slice-2.result.now =
    on_ok (c.encode_to_slice.new.output ≡ encode_lower c.as_slice-2.result.now) c.encode_to_slice.result (sym c.in_ok-ok-2.ensures.variant) c.encode_to_slice.ensures.written in
    let same : digits ≡ c.as_slice-3.result.now = (bytes_eq-Decides digits c.as_slice-3.result.now).0 (sym c.eq.ensures ∙ c.if-eq.true) in
    spelled_line c.args.line.now digits c.decode_to_slice.result c.decode_to_slice.new.out parts c.decode_to_slice.ensures.value (sym c.in_ok-ok.ensures.variant)
    (same ∙ c.as_slice-3.ensures ∙ written ∙ ap encode_lower c.as_slice-2.ensures)

pub returns-else-eq : goal.returns-else-eq
returns-else-eq c =
    let digits = c.in_ok-digits.digits.now in
    let parts = line_parts c.args.line.now c.as_slice.result.now digits c.in_ok-digits.ensures.cases.0 c.in_ok-digits.ensures.cases.1 c.as_slice.ensures in
    let written : c.encode_to_slice.new.output ≡ encode_lower c.as_slice-2.result.now =
    on_ok (c.encode_to_slice.new.output ≡ encode_lower c.as_slice-2.result.now) c.encode_to_slice.result (sym c.in_ok-ok-2.ensures.variant) c.encode_to_slice.ensures.written in
    not_spelled c.args.line.now digits c.decode_to_slice.result c.decode_to_slice.new.out parts c.decode_to_slice.ensures.value
    (λ e. both_ways c.eq.result c.if-eq.false
    (c.eq.ensures ∙ (bytes_eq-Decides digits c.as_slice-3.result.now).1 (e ∙ sym (c.as_slice-3.ensures ∙ written ∙ ap encode_lower c.as_slice-2.ensures))))

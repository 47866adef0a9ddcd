use Rattle.std.proofs.Common.{sym, ◌∙◌, subst}
use Rattle.std.specs.Prelude.{IsAscii}
use Rattle.report_doc.proofs.Ascii.{IsAscii-encode_lower}
use Rattle.report_doc.proofs.write.send_digest.Goals as goal

pub text_of_bytes-requires : goal.text_of_bytes-requires
text_of_bytes-requires g c = subst IsAscii (sym (c.as_slice-2.ensures ∙ c.spell.ensures.digits)) (IsAscii-encode_lower c.as_slice.result.now)

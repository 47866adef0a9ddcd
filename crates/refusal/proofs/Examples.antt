-- Worked examples of lines.
use Rattle.std.proofs.Common.{◌≡◌, None, Some, refl}
use Rattle.std.specs.Prelude.{ℕ, List, codes}
use Rattle.std.specs.Fmt.{digits}
use Rattle.loc_base.specs.declared.span.Span.{Span}
use Rattle.refusal.specs.declared.code.Code.TheVariants.{Memory}
use Rattle.refusal.specs.Codes.{code_line, code_span, code_status}
use Rattle.refusal.specs.Lines.{fault_line, input_line, limit_line, number_line, span_line}

a_span_is_printed_by_its_ends : span_line (codes "L4") (record { from = 31; to = 32 }) ≡ codes "input L4 31 32\n"
unfolding digits
a_span_is_printed_by_its_ends = refl

no_place_is_printed_of_a_top_that_is_missing : input_line (codes "E5") ≡ codes "input E5\n"
no_place_is_printed_of_a_top_that_is_missing = refl

a_row_of_a_graph_is_printed_by_its_line : number_line (codes "A3") 2 ≡ codes "input A3 2\n"
unfolding digits
a_row_of_a_graph_is_printed_by_its_line = refl

a_limit_has_no_place : limit_line (codes "E10") ≡ codes "limit E10\n"
a_limit_has_no_place = refl

a_text_that_is_missing_is_named : fault_line (codes "m.v") ≡ codes "read fault m.v\n"
a_text_that_is_missing_is_named = refl

want_of_memory_is_no_refusal_of_the_text : code_line Memory ≡ codes "memory\n"
want_of_memory_is_no_refusal_of_the_text = refl

want_of_memory_ends_with_7 : code_status Memory ≡ 7
want_of_memory_ends_with_7 = refl

want_of_memory_names_no_span : code_span Memory ≡ None
want_of_memory_names_no_span = refl

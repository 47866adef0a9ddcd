-- The lines of how dumps are read otherwise.
use Rattle.std.proofs.Common.{◌≡◌, [], ◌++◌, Some, None, codes, refl}
use Rattle.std.specs.Prelude.{true, false}
use Rattle.run_digest.specs.Inputs.{scope_lines, zero_lines}

a_run_without_them_has_no_line_more : scope_lines None ++ zero_lines false ≡ []
a_run_without_them_has_no_line_more = refl

the_scope_comes_first : scope_lines (Some (codes "tb.golden")) ++ zero_lines true ≡ codes "scope tb.golden\nx-inputs 0\n"
the_scope_comes_first = refl

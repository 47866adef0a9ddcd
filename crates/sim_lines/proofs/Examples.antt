-- Worked examples of lines.
use Rattle.std.proofs.Common.{◌≡◌, true, false, [], ◌∷◌, refl}
use Rattle.std.specs.Prelude.{codes}
use Rattle.std.specs.Fmt.{digits}
use Rattle.printed_text.specs.Numerals.{hex}
use Rattle.sim_lines.specs.Lines.{are_right, line_text, values, right, misses}

-- two outputs of eight bits in the first cycle of the first trace
two_outputs : line_text (values 1 0 (record { name = codes "y"; width = 8; value = 0 } ∷ record { name = codes "z"; width = 8; value = 128 } ∷ [])) ≡ codes "1 0 y=00 z=80\n"
unfolding hex digits
two_outputs = refl

a_trace_that_is_right : line_text (right 2) ≡ codes "trace 2 ok\n"
unfolding digits
a_trace_that_is_right = refl

a_trace_that_misses : line_text (misses 1 10 (codes "q")) ≡ codes "trace 1 miss 10 q\n"
unfolding digits
a_trace_that_misses = refl

-- ---- whether all is right
all_traces_right : are_right (values 1 0 [] ∷ right 1 ∷ right 2 ∷ []) ≡ true
all_traces_right = refl

the_first_trace_misses : are_right (values 1 0 [] ∷ misses 1 0 (codes "q") ∷ right 2 ∷ []) ≡ false
the_first_trace_misses = refl

use Rattle.std.proofs.Common.{ap, sym, ◌∙◌}
use Rattle.suspect_map.specs.Choose.{unknown}
use Rattle.check_cmd.specs.Parts.{KindRefused, first_name}
use Rattle.check_cmd.specs.Refusals.{kind_line}
use Rattle.session_reading.proofs.Causes.{said}
use Rattle.check_cmd.proofs.kinds.know.Goals as goal

pub returns-in-Some-clause-refused : goal.returns-in-Some-clause-refused
returns-in-Some-clause-refused g c =
    said (KindRefused _) c.of_made.result 3 (kind_line c.in-Some.name.now)
    (first_name c.in-Some.name.now
    (sym (ap (unknown (λ k. (goal.Granularity-dyn g (k.vtable, k.value)).called k.value) c.args.kinds.now) c.as_slice.ensures)
    ∙ sym c.in-Some.ensures))
    (c.of_made.ensures.says (kind_line c.in-Some.name.now) c.kind_line_text.ensures)

-- The context of a case as the code has it, and what one arm adds. What only private contracts cite.
use Rattle.v_hierarchy.specs.Views.{PlainArm, labelled, otherwise}
use Rattle.v_binding.specs.Steps.{through}
use Rattle.v_binding.specs.Names.{Names}
use Rattle.v_binding.specs.Cases.{Context, with_label}
use Rattle.bind_statements.specs.declared.case_context.CaseContext.{CaseContext}

abbrev pub context_of : CaseContext → Context
context_of c = record { width = c.width; signed = c.signed }

abbrev pub with_arm : Names → PlainArm → Context → Context
with_arm names (labelled labels _) c = through (with_label names) labels c
with_arm names (otherwise _) c = c

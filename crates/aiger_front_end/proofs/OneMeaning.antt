-- A text has one meaning: its designs have the same lists, and it is not refused as well.
use Rattle.std.proofs.Common.{ℕ, List, Option}
use Rattle.design_core.specs.declared.design.Design.{Design}
use Rattle.aiger_design.specs.Laws as file
use Rattle.aiger_front_end.specs.declared.error.GraphErr.{GraphErr}
use Rattle.aiger_front_end.specs.declared.error.GraphErr.TheVariants.{Text, Circle}
use Rattle.aiger_front_end.specs.Meaning.{Means}
use Rattle.aiger_front_end.specs.Refusals.{IsRefusal}
use Rattle.aiger_front_end.proofs.Circles.{has-circle, circle-moved}

pub no-refusal : file.OneDesign → file.NoRefusal → (text top : List ℕ) (clock : Option (List ℕ)) (d : Design) (fault : GraphErr)
    → Means text top clock d → IsRefusal text top clock fault → ⊥
no-refusal one none text top clock d (Text fault) means refused =
    refused.rule (none text top clock d fault means.is_file refused.cause)
no-refusal one none text top clock d (Circle span) means refused =
    means.no_circle
    (circle-moved refused.design d (one text top clock refused.design d refused.is_file means.is_file)
    (has-circle refused.design refused.no_order.drivers refused.no_order.circle))

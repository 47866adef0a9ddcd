-- What this front end means, by what a text is read by: the design that it means, and the codes of the errors for which it means none.
use Rattle.std.specs.Prelude.{ℕ, List}
use Rattle.refusal.specs.declared.code.Code.{Code}
use Rattle.design_core.specs.declared.design.Design.{Design}
use Rattle.front_end.specs.By.{By}
use Rattle.aiger_front_end.specs.declared.error.GraphErr.{GraphErr}
use Rattle.aiger_front_end.specs.Errors.{IsCodeOf}
use Rattle.aiger_front_end.specs.Meaning.{Means}
use Rattle.aiger_front_end.specs.Refusals.{IsRefusal}

abbrev pub means_by : List ℕ → By → Design → Type 0
means_by text by d = Means text by.top by.clock d

-- an error that the text has, printed by this code
pub record HasError (text : List ℕ) (by : By) (code : Code) : Type 0 where
  pub fault : GraphErr
  pub is_refusal : IsRefusal text by.top by.clock fault
  pub is_code : IsCodeOf fault code

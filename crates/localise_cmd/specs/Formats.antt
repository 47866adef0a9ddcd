-- What a text means by its format: the design of a text in Verilog, or of one in ASCII AIGER; and why it means none.
use Rattle.std.specs.Prelude.{ℕ, List, Option}
use Rattle.refusal.specs.declared.code.Code.{Code}
use Rattle.design_core.specs.declared.design.Design.{Design}
use Rattle.front_end.specs.declared.format.Format.{Format}
use Rattle.front_end.specs.declared.format.Format.TheVariants.{Verilog, Aiger}
use Rattle.front_end.specs.By.{By}
use Rattle.aiger_front_end.specs.Meaning.{Means as MeansInAiger}
use Rattle.aiger_front_end.specs.FrontEnd.{HasError as HasAigerError}
use Rattle.verilog_front_end.specs.Meaning.{Means as MeansInVerilog}
use Rattle.verilog_front_end.specs.FrontEnd.{HasError as HasVerilogError}

-- the design that a text means in a format, by the top's name, and under the name of a clock if one is given
abbrev pub MeansIn : Format → List ℕ → List ℕ → Option (List ℕ) → Design → Type 0
MeansIn Verilog text top clock d = MeansInVerilog text top clock d
MeansIn Aiger text top clock d = MeansInAiger text top clock d

-- an error that it has in a format, printed by this code
abbrev pub HasErrorIn : Format → List ℕ → By → Code → Type 0
HasErrorIn Verilog text by code = HasVerilogError text by code
HasErrorIn Aiger text by code = HasAigerError text by code

-- both in the format that it is read by
abbrev pub means_by : List ℕ → By → Design → Type 0
means_by text by d = MeansIn by.format text by.top by.clock d

abbrev pub HasError : List ℕ → By → Code → Type 0
HasError text by code = HasErrorIn by.format text by code

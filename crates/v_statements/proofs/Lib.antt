pub mod StatementSteps
pub mod StatementLaws
pub mod InitialSteps
pub mod InitialLaws
pub mod SensitivityLaws
pub mod ProcedureLaws
pub mod StatementAnswers

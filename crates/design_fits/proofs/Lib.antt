pub mod FitLaws
pub mod OperandLaws
pub mod TestLaws

pub mod BitSteps
pub mod TerminalSteps
pub mod WireLaws
pub mod OutputLaws
pub mod OrderLaws
pub mod PlainNames
pub mod RegisterLaws

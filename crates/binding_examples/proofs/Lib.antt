mod BlockExamples
mod ConnectionExamples
mod GateExamples
mod RefusalExamples
mod RuleExamples
pub mod Scene

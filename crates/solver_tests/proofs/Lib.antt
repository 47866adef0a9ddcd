pub mod CounterLaws
pub mod Explanations

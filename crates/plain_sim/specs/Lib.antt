pub mod EvaluateCycle

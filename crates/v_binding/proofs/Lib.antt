mod Examples
pub mod HeldLaws

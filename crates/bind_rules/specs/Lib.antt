pub mod Beside
pub mod Lower
pub mod Rules
pub mod Views

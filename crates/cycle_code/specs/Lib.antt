pub mod Program
pub mod Cells
pub mod Choosing
pub mod Effects
pub mod Running
pub mod Fitting
pub mod Operands

pub mod Bytes
pub mod Numbers
pub mod Literals
pub mod Tree
pub mod PartTree
pub mod StatementTree
pub mod ItemTree
pub mod ModuleTree

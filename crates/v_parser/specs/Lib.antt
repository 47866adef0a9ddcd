pub mod ItemKinds
pub mod Items
pub mod ItemReading
pub mod BlockSeen
pub mod Modules
pub mod ModuleReading
pub mod ModuleSeen

pub mod TypeLaws
pub mod DeclarationLaws
pub mod HeaderLaws
pub mod StructureSteps
pub mod StructureLaws

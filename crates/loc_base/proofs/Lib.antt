pub mod BitLaws
pub mod Cut
pub mod Modulo
pub mod SetOrder
pub mod ShelfBools
pub mod ShelfLists
pub mod ShelfOptions
pub mod WordLaws

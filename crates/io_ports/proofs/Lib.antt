pub mod TextsLaws
pub mod Transfers
pub mod UseLaws

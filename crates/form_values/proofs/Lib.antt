pub mod FitSteps
pub mod PlaceSteps
pub mod ColumnSteps
pub mod WordSteps
pub mod RowSteps
pub mod Meets

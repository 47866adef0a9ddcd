pub mod Printed
pub mod Usage
pub mod Help
pub mod Formats
pub mod Commands
pub mod Given

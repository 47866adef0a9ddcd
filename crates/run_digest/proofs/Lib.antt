pub mod Taking
mod Examples

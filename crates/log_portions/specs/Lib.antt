pub mod Portions

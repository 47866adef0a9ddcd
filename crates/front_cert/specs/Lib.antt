pub mod Unshown
pub mod Reaches
pub mod Left
pub mod Fronts
pub mod Certificates

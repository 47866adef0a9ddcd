pub mod Laws
pub mod Parts
pub mod Met
pub mod Walking

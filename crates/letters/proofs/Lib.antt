pub mod Fronts
pub mod Least
pub mod Scanning

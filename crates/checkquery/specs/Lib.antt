pub mod Printed
pub mod Quote
pub mod Report

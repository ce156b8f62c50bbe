pub mod Spelt
pub mod Table

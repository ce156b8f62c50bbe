pub mod Decoding
pub mod Logs
pub mod Packing
pub mod Words

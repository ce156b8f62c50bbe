pub mod Bytes
pub mod Faults
pub mod Numbers
pub mod Symbols
pub mod Tokens
pub mod Words

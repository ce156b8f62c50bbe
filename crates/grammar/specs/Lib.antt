pub mod Faults
pub mod Known
pub mod Syntax
pub mod Reading
pub mod Grammar
pub mod Law
pub mod Shown

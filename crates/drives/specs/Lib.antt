pub mod Table
pub mod Facts
pub mod Lookup
pub mod Front
pub mod Marked

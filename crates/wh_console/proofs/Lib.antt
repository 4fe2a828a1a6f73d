pub mod Printing
pub mod Marks

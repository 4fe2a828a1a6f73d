pub mod Frames
pub mod Tables
pub mod Sums
pub mod TaskTexts
pub mod Pages
pub mod Laws

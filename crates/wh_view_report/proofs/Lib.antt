pub mod Fronts
mod Likening
mod Numbered
mod Plain
mod Parts
mod Repeating

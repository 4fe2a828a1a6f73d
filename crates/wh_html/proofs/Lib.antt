pub mod Each
pub mod Harmless
pub mod Reading
pub mod Alike
pub mod Inner
pub mod Ways
pub mod Rising
pub mod WordsInner
pub mod Drawn
pub mod Shown
mod Labels

pub mod Readings
pub mod Words
pub mod RunTables
pub mod Pages
pub mod Laws
pub mod Ways
pub mod WayLaws
pub mod Brought

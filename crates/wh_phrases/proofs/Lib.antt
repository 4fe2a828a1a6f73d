pub mod Lines
pub mod Calendar
pub mod TimesRead
pub mod Shown

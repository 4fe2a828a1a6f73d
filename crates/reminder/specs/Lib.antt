pub mod Reminder

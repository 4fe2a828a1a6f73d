-- What no contract of a public item cites: only those of private functions.
pub mod Seen
pub mod Configs
pub mod Followed
pub mod Joints

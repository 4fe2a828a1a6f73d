pub mod Carrying
pub mod Program
pub mod Laws
pub mod Queries

pub mod Steps
pub mod Said
pub mod Table

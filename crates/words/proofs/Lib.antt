pub mod Firsts
pub mod Rulings
pub mod Steps

pub mod Cliques
pub mod Orders

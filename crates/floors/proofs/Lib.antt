pub mod Numbers
pub mod Places
pub mod Leasts
pub mod Pickings
pub mod Paids
pub mod FirstChoices
